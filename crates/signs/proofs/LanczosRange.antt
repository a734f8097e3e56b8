-- tgamma's Lanczos formula for a size x from 2 ^ -54 to 184, by intervals:
--   `s_range`: S(x) lies from 2 ^ -40 to 2 ^ 100; `r_range`: S(x) exp(-(x + g - 0.5)) lies from 2 ^ -340 to 2 ^ 100;
--   `y_range`: y = x + g - 0.5 lies from 5.5 to 190; `z_range`: z = x - 0.5 from -184 to 184; `exponent_range`: so half of it from -92 to 92.
-- Assumes nothing.
use mathlib.Core.Path.{◌≡◌, refl, subst}
use mathlib.Core.List.{[], ◌∷◌}
use mathlib.Core.Bool.{Bool, true, false, not}
use lib.IntN.{pos, negsuc}
use lib.Dec.{T}
use lib.Ieee.{Float, fin, binary64, add, sub, mul, div, neg, le, lt, of_bits}
use lib.Ieee.Fits.{add-fits, neg-fits}
use Rattle.rounding.proofs.Signed.{le_neg}
use Rattle.rounding.proofs.Order.{lt_le, le_of_not_lt, between_finite}
use Rattle.rounding.proofs.Interval.{some}
use Rattle.rounding.proofs.Range.{var, con, plus, minus, times, eval, ieval, In, range_test, range}
use Rattle.words.specs.F64.{◌⊕◌, ◌⊖◌, ◌⊗◌, 0·5}
use Rattle.exp.specs.Exp.{exp_s}
use Rattle.exp.proofs.Cells.{least, one}
use Rattle.exp.proofs.Bounds.{exp_range}
use Rattle.pow_range.proofs.ProductSign.{ninety_two}
use Rattle.pow_range.proofs.PowSign.{from55, to190}
use Rattle.tgamma.specs.Lanczos.{s_s}
use Rattle.tgamma.proofs.Regions.{from_54, to184, Middle}
use Rattle.tgamma.proofs.Formula.{down_e, up_e, low_e, high_e, s_low, s_high}
use Rattle.tgamma.specs.Tgamma.{GMHALF}

-- 8
abbrev eight : Float
eight = fin false 1 (pos 3)

-- 2 ^ -340, 2 ^ -40 and 2 ^ 100
abbrev pub over_340 : Float
over_340 = fin false 1 (negsuc 339)

abbrev pub over_40 : Float
over_40 = fin false 1 (negsuc 39)

abbrev pub under100 : Float
under100 = fin false 1 (pos 100)

-- ---- S(x)
low_test : T (range_test binary64 over_40 under100 low_e [] from_54 eight)
unfolding ieval down_e add mul div le neg of_bits
low_test = tt

high_test : T (range_test binary64 over_40 under100 high_e [] eight to184)
unfolding ieval up_e add mul div le neg of_bits
high_test = tt

-- x is below 8 or not
pub s_range : (x : Float) → Middle x → In over_40 under100 (s_s x)
unfolding of_bits
s_range x i = go (lt x eight) refl (lt_le x eight) (le_of_not_lt x eight (between_finite from_54 x to184 tt tt i.0 i.1) tt)
  where
    go : (b : Bool) → lt x eight ≡ b → (T b → T (le x eight)) → (T (not b) → T (le eight x)) → In over_40 under100 (s_s x)
    go true e h k = subst (In over_40 under100) (s_low x e) (range binary64 over_40 under100 low_e [] [] from_54 eight x low_test tt (i.0, h tt))
    go false e h k = subst (In over_40 under100) (s_high x e) (range binary64 over_40 under100 high_e [] [] eight to184 x high_test tt (k tt, i.1))

-- ---- y and z
y_test : T (range_test binary64 from55 to190 (plus (var 0) (con GMHALF)) [] from_54 to184)
unfolding ieval add le of_bits
y_test = tt

pub y_range : (x : Float) → Middle x → In from55 to190 (x ⊕ GMHALF)
unfolding eval
y_range x i = range binary64 from55 to190 (plus (var 0) (con GMHALF)) [] [] from_54 to184 x y_test tt i

z_test : T (range_test binary64 (neg to184) to184 (minus (var 0) (con 0·5)) [] from_54 to184)
unfolding ieval sub le neg of_bits
z_test = tt

pub z_range : (x : Float) → Middle x → In (neg to184) to184 (x ⊖ 0·5)
unfolding eval
z_range x i = range binary64 (neg to184) to184 (minus (var 0) (con 0·5)) [] [] from_54 to184 x z_test tt i

half_test : T (range_test binary64 (neg ninety_two) ninety_two (times (con 0·5) (var 0)) [] (neg to184) to184)
unfolding ieval mul le neg of_bits
half_test = tt

-- half of z, and of -z, as pow's exponent
pub exponent_range : (z : Float) → In (neg to184) to184 z → In (neg ninety_two) ninety_two (0·5 ⊗ z)
unfolding eval
exponent_range z i = range binary64 (neg ninety_two) ninety_two (times (con 0·5) (var 0)) [] [] (neg to184) to184 z half_test tt i

-- ---- S(x) exp(-y)
r_test : T (range_test binary64 over_340 under100 (times (var 0) (var 1)) (some least one ∷ []) over_40 under100)
unfolding ieval mul le
r_test = tt

product_range : (s x : Float) → In over_40 under100 s → In least one x → In over_340 under100 (s ⊗ x)
unfolding eval
product_range s x i j =
    range binary64 over_340 under100 (times (var 0) (var 1)) (some least one ∷ []) (x ∷ []) over_40 under100 s r_test ((tt, tt, j.0, j.1), tt) i

pub r_range : (x : Float) → Middle x → In over_340 under100 (s_s x ⊗ exp_s (neg (x ⊕ GMHALF)))
unfolding neg
r_range x i =
    let y = x ⊕ GMHALF in
    let k = y_range x i in
    product_range (s_s x) (exp_s (neg y)) (s_range x i)
    (exp_range (neg y) (neg-fits binary64 y (add-fits binary64 x GMHALF)) (le_neg y to190 k.1, le_neg from55 y k.0))
