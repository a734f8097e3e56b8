-- pow is no NaN and carries no minus sign, for a base from 5.5 to 190 and an exponent from -92 to 92: `pow_plus`. Assumes nothing.
use Prim.Native.Nat.{ℕ, ◌+◌, ◌*◌, ◌%◌, ◌^◌, ◌≤◌, ◌<◌}
use mathlib.Core.Path.{refl, sym, subst}
use mathlib.Core.Bool.{true, false, false≢true}
use mathlib.Core.List.{[]}
use native.Mathlib.Omega.{arith}
use lib.IntN.{pos, negsuc}
use lib.Dec.{T, lit<}
use lib.Ieee.{Float, nan, inf, fin, binary64, mul, div, le, neg, fits, to_bits, of_bits, up, down}
use lib.Ieee.Bits.{of_bits-to_bits}
use lib.Ieee.Fits.{down_pos}
use lib.Ieee.Scale.{finite}
use Rattle.rounding.proofs.Signed.{Signed, signed_of_le, value_signed, le_neg}
use Rattle.rounding.proofs.Order.{le_trans, between_finite}
use Rattle.rounding.proofs.BitOrder.{le_bits, to_bits_under}
use Rattle.rounding.proofs.Range.{var, con, times, over, eval, ieval, In, range_test, range}
use Rattle.words.specs.F64.{◌⊗◌, ◌⊘◌}
use Rattle.words.specs.Bits.{high_word_s}
use Rattle.words.specs.Fabs.{fabs_s}
use Rattle.words.proofs.CutLaws.{word_upto}
use Rattle.pow_log.specs.Log2.{log2_s}
use Rattle.sqrt.specs.Sqrt.{sqrt_s}
use Rattle.sqrt.proofs.Nearest.{sqrt_nearest}
use Rattle.pow.specs.Pow.{pow_s}
use Rattle.pow.proofs.Courses.{Course, at_zero, at_one, at_minus_one, at_two, at_half, power, course}
use Rattle.pow_range.proofs.ProductSign.{ninety_two, product_plus}
use Rattle.pow_range.proofs.Exp2Sign.{one}
use Rattle.pow_range.proofs.LogRange.{log_range}

-- 5.5 and 190
abbrev pub from55 : Float
from55 = fin false 11 (negsuc 0)

abbrev pub to190 : Float
to190 = fin false 95 (pos 1)

-- what is at least 2 ^ -10 carries no minus sign
least_plus : (z : Float) → T (finite z) → T (le (fin false 1 (negsuc 9)) z) → Signed false z
least_plus nan X h = absurd X
least_plus (inf s) X h = absurd X
least_plus (fin false m e) X h = refl
least_plus (fin true m e) X h =
    absurd (clash (m * up e) (down e) (signed_of_le (fin false 1 (negsuc 9)) (fin true m e) false 1 1024 true (m * up e) (down e) (refl, refl) (refl, refl) h) (down_pos e))
  where
    clash : (a d : ℕ) → 1 * d + a * 1024 ≤ 0 * 1024 + 0 * d → 0 < d → ⊥
    clash a d k h = omega arith

-- a value from 2 ^ -10 to 2 ^ 20
in_plus : (z : Float) → In (fin false 1 (negsuc 9)) (fin false 1 (pos 20)) z → Signed false z
in_plus z i = least_plus z (between_finite (fin false 1 (negsuc 9)) z (fin false 1 (pos 20)) tt tt i.0 i.1) i.0

square_test : T (range_test binary64 (fin false 1 (negsuc 9)) (fin false 1 (pos 20)) (times (var 0) (var 0)) [] from55 to190)
unfolding ieval mul le
square_test = tt

inverse_test : T (range_test binary64 (fin false 1 (negsuc 9)) (fin false 1 (pos 20)) (over (con one) (var 0)) [] from55 to190)
unfolding ieval div le neg of_bits
inverse_test = tt

square_plus : (x : Float) → In from55 to190 x → Signed false (x ⊗ x)
unfolding eval
square_plus x i = in_plus (x ⊗ x) (range binary64 (fin false 1 (negsuc 9)) (fin false 1 (pos 20)) (times (var 0) (var 0)) [] [] from55 to190 x square_test tt i)

inverse_plus : (x : Float) → In from55 to190 x → Signed false (one ⊘ x)
unfolding eval
inverse_plus x i = in_plus (one ⊘ x) (range binary64 (fin false 1 (negsuc 9)) (fin false 1 (pos 20)) (over (con one) (var 0)) [] [] from55 to190 x inverse_test tt i)

root_plus : (x : Float) → T (fits binary64 x) → Signed false x → T (finite x) → Signed false (sqrt_s x)
root_plus nan F p X = absurd X
root_plus (inf s) F p X = absurd X
root_plus (fin true m e) F p X = absurd (false≢true (sym p))
root_plus (fin false m e) F p X = let r = sqrt_nearest m e F in value_signed (sqrt_s (fin false m e)) false r.Y (2 ^ 1074) r.y_is

one_plus : Signed false one
unfolding of_bits
one_plus = refl

-- each course of pow
module _ (x y : Float) (hx : ℕ) (a : 0x40160000 ≤ hx) (b : hx ≤ 0x4067C000)
    (G : T (fits binary64 x)) (F : T (fits binary64 y)) (X : T (finite x)) (p : Signed false x) (i : In from55 to190 x) (k : In (neg ninety_two) ninety_two y) where
  course_plus : (r : Float) → Course x y hx r → Signed false r
  course_plus r at_zero = one_plus
  course_plus r at_one = p
  course_plus r at_minus_one = inverse_plus x i
  course_plus r at_two = square_plus x i
  course_plus r at_half = root_plus x G p X
  course_plus r power = let t = log_range (fabs_s x) hx (omega arith) b in product_plus y (log2_s (fabs_s x) hx) F k t.0 t.1

-- the high word of x
base_word : (x : Float) → T (fits binary64 x) → Signed false x → In from55 to190 x → (0x40160000 ≤ high_word_s x) × (high_word_s x ≤ 0x4067C000)
unfolding of_bits
base_word nan F p i = absurd p
base_word (inf s) F p i = absurd (between_finite from55 (inf s) to190 tt tt i.0 i.1)
base_word (fin true m e) F p i = absurd (false≢true (sym p))
base_word (fin false m e) F p i =
    let x = fin false m e in
    let b = to_bits binary64 x in
    let under = to_bits_under binary64 m e F in
    let back = of_bits-to_bits binary64 x F in
    let low = le_bits binary64 0x4016000000000000 b (lit< tt) under (subst (λ (z : Float). T (le from55 z)) (sym back) i.0) in
    let high = le_bits binary64 b 0x4067C00000000000 under (lit< tt) (subst (λ (z : Float). T (le z to190)) (sym back) i.1) in
    (omega arith, omega arith)

-- the high word of |y|
exponent_word : (y : Float) → T (fits binary64 y) → In (neg ninety_two) ninety_two y → high_word_s y % 0x80000000 ≤ 0x40570000
unfolding of_bits neg
exponent_word nan F i = absurd (between_finite (neg ninety_two) nan ninety_two tt tt i.0 i.1)
exponent_word (inf s) F i = absurd (between_finite (neg ninety_two) (inf s) ninety_two tt tt i.0 i.1)
exponent_word (fin false m e) F i = word_upto false m e F 0x4057000000000000 (lit< tt) i.1
exponent_word (fin true m e) F i = word_upto true m e F 0x4057000000000000 (lit< tt) (le_neg (neg ninety_two) (fin true m e) i.0)

pub pow_plus : (x y : Float) → T (fits binary64 x) → T (fits binary64 y) → In from55 to190 x → In (neg ninety_two) ninety_two y → Signed false (pow_s x y)
unfolding le
pow_plus x y F G i k =
    let X = between_finite from55 x to190 tt tt i.0 i.1 in
    let p = least_plus x X (le_trans (fin false 1 (negsuc 9)) from55 x tt i.0) in
    let w = base_word x F p i in
    let v = exponent_word y G k in
    course_plus x y (high_word_s x) w.0 w.1 F G X p i k (pow_s x y) (course x y (omega arith) (omega arith) (omega arith))
