-- sqrt where nothing is to be worked out, told from the bits: zeros, the infinities, NaN, negative numbers. Assumes nothing.
use mathlib.Core.Path.{◌≡◌, refl, sym, ap, ◌∙◌, subst}
use Prim.Native.Nat.{ℕ, zero, suc, ◌+◌, ◌-◌, ◌*◌, ◌/◌, ◌%◌, ◌^◌, ◌<◌}
use native.Mathlib.Nat.{zero-mul, lt_irrefl, lt_trans, zero-div}
use native.Mathlib.Omega.{arith}
use mathlib.Core.Bool.{Bool, true, false, cond}
use lib.IntN.{ℤ, pos}
use lib.Dec.{T}
use lib.Ieee.{Float, nan, inf, fin, binary64, up, down, size, hid, top, of_bits, to_bits, fits}
use lib.Ieee.Bits.{of_bits-to_bits}
use Rattle.rounding.proofs.BitOrder.{to_bits_under}
use Rattle.words.proofs.PatternLaws.{size_pattern, fabs_fin}
use Rattle.sqrt.specs.Sqrt.{sqrt_s}

abbrev endless : ℕ
endless = 0x7FF0000000000000

-- ---- which bits a value has
inf_bits : (s : Bool) → to_bits binary64 (inf s) % 2 ^ 63 ≡ endless
unfolding to_bits
inf_bits true = refl
inf_bits false = refl

zero_bits : (s : Bool) (e : ℤ) → to_bits binary64 (fin s zero e) % 2 ^ 63 ≡ 0
unfolding to_bits size
zero_bits s e =
    ap (λ (n : ℕ). (cond s (top binary64) 0 + (size n - 53) * hid binary64 + n / 2 ^ (size n - 53)) % 2 ^ 63)
    (ap (λ (z : ℕ). z * 2 ^ 1074 / down e) (zero-mul (up e)) ∙ zero-div (down e))
    ∙ sign s
  where
    sign : (s : Bool) → (cond s (top binary64) 0 + 0 + 0) % 2 ^ 63 ≡ 0
    sign true = refl
    sign false = refl

not_zero : (s : Bool) (m : ℕ) (e : ℤ) → fits binary64 (fin s (suc m) e) ≡ true → to_bits binary64 (fin s (suc m) e) % 2 ^ 63 ≡ 0 → ⊥
unfolding of_bits
not_zero s m e f h = clash (sym (fabs_fin s (suc m) e) ∙ sym (size_pattern binary64 (fin s (suc m) e) f) ∙ ap (of_bits binary64) h)
  where
    clash : fin false (suc m) e ≡ fin false 0 (pos 0) → ⊥
    clash q = let z : suc m ≡ 0 = cc in omega arith

-- ---- sqrt
pub zero_stays : (x : Float) → fits binary64 x ≡ true → to_bits binary64 x % 2 ^ 63 ≡ 0 → x ≡ sqrt_s x
unfolding sqrt_s
zero_stays nan f h = refl
zero_stays (inf s) f h = absurd (clash (sym (inf_bits s) ∙ h))
  where
    clash : endless ≡ 0 → ⊥
    clash e = omega arith
zero_stays (fin s zero e) f h = refl
zero_stays (fin s (suc m) e) f h = absurd (not_zero s m e f h)

pub infinity_stays : (x : Float) → fits binary64 x ≡ true → to_bits binary64 x ≡ endless → x ≡ sqrt_s x
unfolding sqrt_s of_bits
infinity_stays x f h = subst (λ (z : Float). z ≡ sqrt_s z) (sym (ap (of_bits binary64) h) ∙ of_bits-to_bits binary64 x (subst T (sym f) tt)) refl

-- the answer as the pattern of f64::NAN
pub no_root : (x : Float) → fits binary64 x ≡ true → (to_bits binary64 x % 2 ^ 63 ≡ 0 → ⊥) → endless < to_bits binary64 x
    → of_bits binary64 0x7FF8000000000000 ≡ sqrt_s x
unfolding sqrt_s to_bits of_bits
no_root nan f n h = refl
no_root (inf true) f n h = refl
no_root (inf false) f n h = absurd (lt_irrefl endless h)
no_root (fin s zero e) f n h = absurd (n (zero_bits s e))
no_root (fin true (suc m) e) f n h = refl
no_root (fin false (suc m) e) f n h = absurd (lt_irrefl endless (lt_trans h (to_bits_under binary64 (suc m) e (subst T (sym f) tt))))

-- ---- the root is worked out of the bits, and x has them
pub of_own_bits : (x : Float) → fits binary64 x ≡ true → sqrt_s (of_bits binary64 (to_bits binary64 x)) ≡ sqrt_s x
of_own_bits x f = ap sqrt_s (of_bits-to_bits binary64 x (subst T (sym f) tt))
