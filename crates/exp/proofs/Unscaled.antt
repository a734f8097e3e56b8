-- The answer before it is scaled, for an argument hi - lo in the primary range, lies from 1/4 to 4 (`unscaled_range`). Assumes nothing.
use Rattle.std.proofs.Common.{◌≡◌, true, false, T, [], ◌∷◌, pos, negsuc, ap, subst}
use lib.Ieee.{Float, fin, binary64, of_bits, add, sub, mul, div, le}
use Rattle.rounding.proofs.Interval.{some}
use Rattle.rounding.proofs.Range.{Expr, var, con, plus, minus, times, over, share, eval, ieval, In, range_test, range}
use Rattle.words.specs.F64.{◌⊖◌, ◌⊗◌, bits}
use Rattle.poly.specs.Horner.{horner_s}
use Rattle.poly.proofs.HornerExpr.{horner_e, horner_is}
use Rattle.exp.specs.Exp.{exp64}
use Rattle.exp.proofs.ExpCode.{y_of}

-- y of primary_s, for x = hi - lo
unfoldable pub unscaled : Float → Float → Float
unscaled hi lo =
    let x = hi ⊖ lo in
    y_of exp64 (horner_s binary64 exp64.P (x ⊗ x)) x hi lo

-- -3/8 and 3/8
abbrev pub hi_min : Float
hi_min = fin true 3 (negsuc 2)

abbrev pub hi_max : Float
hi_max = fin false 3 (negsuc 2)

-- -2 ^ -20 and 0
abbrev pub lo_min : Float
lo_min = fin true 1 (negsuc 19)

abbrev pub lo_max : Float
lo_max = fin false 0 (pos 0)

-- 1/4 and 4
abbrev pub quarter : Float
quarter = fin false 1 (negsuc 1)

abbrev pub four : Float
four = fin false 1 (pos 2)

-- the same as data: hi is variable 0 and lo variable 1
unscaled_e : Expr
unscaled_e =
    share (minus (var 0) (var 1))
    (share (times (var 0) (var 0))
    (share
    (minus (var 1) (times (var 0) (horner_e binary64 exp64.P (var 0))))
    (plus (con (bits 0x3FF0000000000000))
    (plus (minus (over (times (var 2) (var 0)) (minus (con (bits 0x4000000000000000)) (var 0))) (var 4)) (var 3)))))

unscaled_is : (hi lo : Float) → eval binary64 (hi ∷ lo ∷ []) unscaled_e ≡ unscaled hi lo
unfolding eval unscaled_e unscaled
unscaled_is hi lo = ap (λ (R : Float). y_of exp64 R (hi ⊖ lo) hi lo) (horner_is binary64 exp64.P (var 0) _)

test : T (range_test binary64 quarter four unscaled_e (some lo_min lo_max ∷ []) hi_min hi_max)
unfolding ieval horner_e unscaled_e of_bits add sub mul div le
test = tt

pub unscaled_range : (hi lo : Float) → In hi_min hi_max hi → In lo_min lo_max lo → In quarter four (unscaled hi lo)
unscaled_range hi lo i j =
    subst (In quarter four) (unscaled_is hi lo)
    (range binary64 quarter four unscaled_e (some lo_min lo_max ∷ []) (lo ∷ []) hi_min hi_max hi test ((tt, tt, j.0, j.1), tt) i)
