-- 2 ** (p_h + p_l), after n is taken off, as an expression in t and e = p_l - (t - p_h), so that intervals bound it: `fraction_e` has fraction_s for
-- its value (`fraction_is`). That is an f64 (`fraction_fits`). Assumes nothing.
use mathlib.Core.Path.{◌≡◌, ap}
use mathlib.Core.List.{[], ◌∷◌}
use lib.Dec.{T}
use lib.Ieee.{Float, binary64, fits}
use lib.Ieee.Fits.{sub-fits}
use Rattle.rounding.proofs.Range.{Expr, var, con, plus, minus, times, over, share, eval}
use Rattle.words.specs.F64.{◌⊕◌, ◌⊖◌, ◌⊗◌, ◌⊘◌, 1·0, 2·0}
use Rattle.words.specs.Bits.{with_low_word_s}
use Rattle.poly.proofs.HornerExpr.{horner_e, horner_is}
use Rattle.pow_exp.specs.Exp2.{P, LG2, LG2_H, LG2_L, fraction_s}

-- u, v, z, w, the second t, t1 and r are named in turn
abbrev pub fraction_e : Expr
fraction_e =
    share (times (var 0) (con LG2_H))
    (share (plus (times (var 2) (con LG2)) (times (var 1) (con LG2_L)))
    (share (plus (var 1) (var 0))
    (share (minus (var 1) (minus (var 0) (var 2)))
    (share (times (var 1) (var 1))
    (share (minus (var 2) (times (var 0) (horner_e binary64 P (var 0))))
    (share (minus (over (times (var 3) (var 0)) (minus (var 0) (con 2·0))) (plus (var 2) (times (var 3) (var 2))))
    (minus (con 1·0) (minus (var 0) (var 4)))))))))

-- t and e
abbrev pub t_of : Float → Float → Float
t_of p_h p_l = with_low_word_s (p_l ⊕ p_h) 0

abbrev pub e_of : Float → Float → Float
e_of p_h p_l = p_l ⊖ (t_of p_h p_l ⊖ p_h)

-- the last lines, where the polynomial has the value R
last : Float → Float → Float → Float → Float
last z w t R =
    let t1 = z ⊖ t ⊗ R in
    1·0 ⊖ ((z ⊗ t1) ⊘ (t1 ⊖ 2·0) ⊖ (w ⊕ z ⊗ w) ⊖ z)

pub fraction_is : (p_h p_l : Float) → eval binary64 (t_of p_h p_l ∷ e_of p_h p_l ∷ []) fraction_e ≡ fraction_s p_h p_l
unfolding eval fraction_s last
fraction_is p_h p_l = ap (last _ _ _) (horner_is binary64 P (var 0) _)

pub fraction_fits : (p_h p_l : Float) → T (fits binary64 (fraction_s p_h p_l))
unfolding fraction_s
fraction_fits p_h p_l = sub-fits binary64 _ _
