-- log and logf at the values that ISO C's Annex F names: +0 at 1, -inf at either zero, +inf at +inf, NaN at a NaN, at -inf and at every
-- number below zero. Assumes nothing.
use mathlib.Core.Path.{◌≡◌, refl, sym, ap, ◌∙◌}
use Prim.Native.Nat.{ℕ, zero, suc, ◌+◌, ◌*◌, ◌%◌, ◌<◌}
use native.Mathlib.Nat.{mul-pos, zero-mul, zero-lt-suc}
use native.Mathlib.Omega.{arith}
use mathlib.Core.Bool.{Bool, true, false}
use lib.IntN.{ℤ, pos}
use lib.Dec.{T, ltb→lt}
use lib.Ieee.{Float, nan, inf, fin, Format, binary32, binary64, fits, up, down, top, add, neg, sub, mul, div, round, to_bits, of_bits}
use lib.Ieee.Bits.{of_bits-to_bits}
use lib.Ieee.Exact.{HasValue}
use lib.Ieee.Fits.{up_pos, down_pos}
use lib.Ieee.Positive.{positive}
use Rattle.rounding.proofs.Signed.{N, P, round_zero}
use Rattle.rounding.proofs.Fraction.{add_fraction, sub_is}
use Rattle.rounding.proofs.BitOrder.{to_bits_neg}
use Rattle.words.proofs.PatternLaws.{fits_any_sign, unsigned_rest}
use Rattle.logarithm.specs.Plan.{Plan, log_s}
use Rattle.logarithm.specs.Log.{log64}
use Rattle.logarithm.specs.Logf.{log32}
use Rattle.logarithm.proofs.Regions.{pattern64, pattern32, negative}

-- log's plan in f64, logf's in f32
abbrev pub plan : Format → Plan
plan binary64 = log64
plan binary32 = log32

pub log_one : (f : Format) → log_s (plan f) (plan f).1·0 ≡ of_bits f 0
unfolding log_s of_bits to_bits
log_one binary64 = refl
log_one binary32 = refl

pub log_zero : (f : Format) (s : Bool) → log_s (plan f) (fin s 0 (pos 0)) ≡ inf true
unfolding log_s of_bits to_bits mul div
log_zero binary64 false = refl
log_zero binary64 true = refl
log_zero binary32 false = refl
log_zero binary32 true = refl

pub log_infinity : (f : Format) → log_s (plan f) (inf false) ≡ inf false
unfolding log_s to_bits
log_infinity binary64 = refl
log_infinity binary32 = refl

pub log_nan : (f : Format) → log_s (plan f) nan ≡ nan
unfolding log_s to_bits
log_nan binary64 = refl
log_nan binary32 = refl

pub log_minus_infinity : (f : Format) → log_s (plan f) (inf true) ≡ nan
unfolding log_s to_bits sub add neg div
log_minus_infinity binary64 = refl
log_minus_infinity binary32 = refl

-- ---- numbers below zero

zero_quotient : (f : Format) (y : Float) (s : Bool) (c : ℕ) → 0 < c → HasValue y s 0 c → div f y (fin false 0 (pos 0)) ≡ nan
unfolding div
zero_quotient f nan s c C v = refl
zero_quotient f (inf t) s c C v = absurd v
zero_quotient f (fin t zero e) s c C v = refl
zero_quotient f (fin t (suc m) e) s c C v =
    absurd (omega (arith, mul-pos (mul-pos (zero-lt-suc m) (up_pos e)) C, v.1 ∙ zero-mul (down e)))

nothing_left : (u : Bool) (q a : ℕ) → P u q + (a + 0) ≡ N u q + (0 + a) → q ≡ 0
nothing_left false q a h = omega (arith, h)
nothing_left true q a h = omega (arith, h)

-- (x - x) / 0
self_quotient : (f : Format) (m : ℕ) (e : ℤ) → div f (sub f (fin true m e) (fin true m e)) (fin false 0 (pos 0)) ≡ nan
unfolding neg
self_quotient f m e =
    let x = fin true m e in
    let c = down e * down e in
    let a = add_fraction f true m e false m e in
    let q : a.1 ≡ 0 = nothing_left a.0 a.1 (m * up e * down e) (rw (zero-mul (down e)) at a.3) in
    let d : sub f x x ≡ round f a.0 0 c = sub_is f x x ∙ a.2 ∙ ap (λ (k : ℕ). round f a.0 k c) q in
    let C = mul-pos (down_pos e) (down_pos e) in
    ap (λ (y : Float). div f y (fin false 0 (pos 0))) d ∙ zero_quotient f (round f a.0 0 c) a.0 c C (round_zero f a.0 c C)

digits : Float → ℕ
digits nan = 0
digits (inf s) = 0
digits (fin s m e) = m

zero_digits : (f : Format) → digits (of_bits f 0) ≡ 0
unfolding digits of_bits
zero_digits binary64 = refl
zero_digits binary32 = refl

-- the pattern of a number above zero is not 0
pattern_above : (f : Format) (m : ℕ) (e : ℤ) → T (fits f (fin false m e)) → 0 < m → to_bits f (fin false m e) ≡ 0 → ⊥
unfolding digits
pattern_above f m e F M h =
    omega (arith, M, ap digits (sym (of_bits-to_bits f (fin false m e) F) ∙ ap (of_bits f) h) ∙ zero_digits f)

-- a pattern with the sign bit
signed : (f : Format) (x : Float) (b : ℕ) → to_bits f x ≡ top f + b → (to_bits f x % top f ≡ 0 → ⊥)
    → div f (sub f x x) (fin false 0 (pos 0)) ≡ log_s (plan f) x
unfolding of_bits
signed binary64 x b e z = negative log64 x _ _ _ (pattern64 x _ refl) z (omega (arith, e))
signed binary32 x b e z = negative log32 x _ _ _ (pattern32 x _ refl) z (omega (arith, e))

below_zero : (f : Format) (m : ℕ) (e : ℤ) → T (fits f (fin true m e)) → 0 < m → log_s (plan f) (fin true m e) ≡ nan
below_zero f m e F M =
    let F' = fits_any_sign f true false m e F in
    sym (signed f (fin true m e) _ (to_bits_neg f m e) (λ h. pattern_above f m e F' M (sym (unsigned_rest f true m e F') ∙ h)))
    ∙ self_quotient f m e

pub log_negative : (f : Format) (x : Float) → T (fits f x) → T (positive (neg x)) → log_s (plan f) x ≡ nan
unfolding neg
log_negative f nan F p = absurd p
log_negative f (inf s) F p = absurd p
log_negative f (fin true m e) F p = below_zero f m e F (ltb→lt 0 m p)
log_negative f (fin false m e) F p = absurd p
