-- 2 ** (p_h + p_l), after n is taken off, lies from 1/4 to 4: `fraction_range`. By intervals. Assumes nothing.
use mathlib.Core.Path.{subst}
use mathlib.Core.Bool.{false}
use mathlib.Core.List.{[], ◌∷◌}
use lib.IntN.{pos, negsuc}
use lib.Dec.{T}
use lib.Ieee.{Float, fin, binary64, add, sub, mul, div, le, neg, of_bits}
use Rattle.rounding.proofs.Order.{between_finite}
use Rattle.rounding.proofs.Interval.{some}
use Rattle.rounding.proofs.Range.{ieval, In, halved_test, halved}
use Rattle.poly.proofs.HornerExpr.{horner_e}
use Rattle.pow_exp.specs.Exp2.{fraction_s}
use Rattle.pow_exp.proofs.FractionExpr.{fraction_e, t_of, e_of, fraction_is}

-- 1/4, 4, 33/64 and 2 ^ -10
abbrev pub quarter : Float
quarter = fin false 1 (negsuc 1)

abbrev pub four : Float
four = fin false 1 (pos 2)

abbrev pub bound : Float
bound = fin false 33 (negsuc 5)

abbrev pub slight : Float
slight = fin false 1 (negsuc 9)

fraction_test : T (halved_test 5 binary64 quarter four fraction_e (some (neg slight) slight ∷ []) (neg bound) bound)
unfolding halved_test ieval horner_e add sub mul div le neg of_bits
fraction_test = tt

pub fraction_range : (p_h p_l : Float) → In (neg bound) bound (t_of p_h p_l) → In (neg slight) slight (e_of p_h p_l) → In quarter four (fraction_s p_h p_l)
unfolding neg
fraction_range p_h p_l i k =
    let t = t_of p_h p_l in
    let T = between_finite (neg bound) t bound tt tt i.0 i.1 in
    subst (In quarter four) (fraction_is p_h p_l)
    (halved 5 binary64 quarter four fraction_e (some (neg slight) slight ∷ []) (e_of p_h p_l ∷ []) (neg bound) bound t T fraction_test
    ((tt, tt, k.0, k.1), tt) i)
