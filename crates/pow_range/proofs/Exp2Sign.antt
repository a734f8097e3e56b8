-- `exp2_s` with the sign 1 is no NaN and carries no minus sign, for p_l and p_h of at most 900 in size together: `exp2_plus`. Assumes nothing.
use Prim.Native.Nat.{ℕ, zero, suc, ◌+◌, ◌-◌, ◌*◌, ◌%◌, ◌^◌, ◌≤◌, ◌<◌, zero-le}
use mathlib.Core.Path.{◌≡◌, refl, sym, subst}
use mathlib.Core.Bool.{Bool, true, false}
use native.Mathlib.Omega.{arith}
use native.Mathlib.Nat.{mod-lt}
use lib.IntN.{ℤ, pos, negsuc, neg_ℤ}
use lib.Dec.{T, lit<, leb}
use lib.Ieee.{Float, nan, inf, fin, binary64, up, down, to_bits, of_bits, fits, le, mul}
use lib.Ieee.Bits.{of_bits-to_bits}
use lib.Ieee.Exact.{HasValue}
use lib.Ieee.Fits.{down_pos}
use borrow.Author.Tests.{leb-true, leb-false}
use Rattle.rounding.proofs.Signed.{Signed, signed_of_le, round_signed}
use Rattle.rounding.proofs.BitOrder.{bit_val, endless, bits_val, le_bits, to_bits_under}
use Rattle.rounding.proofs.Order.{between_finite}
use Rattle.rounding.proofs.Range.{In}
use Rattle.words.specs.F64.{◌⊕◌, ◌⊖◌, ◌⊗◌, bits}
use Rattle.words.specs.Bits.{high_word_s, low_word_s}
use Rattle.pow_exp.specs.Exp2.{word, fraction_s, scaled_s, exp2_s}
use Rattle.pow_exp.proofs.Half.{field, below, amount, below_is}
use Rattle.pow_exp.proofs.Laws.{rounded_up, rounded_down, within as scaled-within}
use Rattle.pow_exp.proofs.Courses.{exp2_near}
use Rattle.pow_exp.proofs.FractionExpr.{fraction_fits}
use Rattle.pow_range.proofs.FractionRange.{quarter, four}
use Rattle.pow_range.proofs.NValue.{t_of_word}
use Rattle.pow_range.proofs.Exp2Range.{word_high, word_under, far_range, near_range}

-- ---- the words of a value from 1/4 to 4

-- it has no minus sign
plus_only : (s : Bool) (m : ℕ) (e : ℤ) → T (le quarter (fin s m e)) → s ≡ false
plus_only false m e h = refl
plus_only true m e h =
    let k = signed_of_le quarter (fin true m e) false 1 4 true (m * up e) (down e) (refl, refl) (refl, refl) h in
    let d = down_pos e in
    absurd (clash (m * up e) (down e) k d)
  where
    clash : (a d : ℕ) → 1 * d + a * 4 ≤ 0 * 4 + 0 * d → 0 < d → ⊥
    clash a d k h = omega arith

quarter_bits : quarter ≡ of_bits binary64 0x3FD0000000000000
unfolding of_bits
quarter_bits = refl

four_bits : four ≡ of_bits binary64 0x4010000000000000
unfolding of_bits
four_bits = refl

-- its pattern
bits_in : (z : Float) → T (fits binary64 z) → In quarter four z → (0x3FD0000000000000 ≤ to_bits binary64 z) × (to_bits binary64 z ≤ 0x4010000000000000)
bits_in nan F i = absurd (between_finite quarter nan four tt tt i.0 i.1)
bits_in (inf s) F i = absurd (between_finite quarter (inf s) four tt tt i.0 i.1)
bits_in (fin s m e) F i =
    subst (λ (s : Bool). T (fits binary64 (fin s m e)) → In quarter four (fin s m e) → (0x3FD0000000000000 ≤ to_bits binary64 (fin s m e)) × (to_bits binary64 (fin s m e) ≤ 0x4010000000000000))
    (sym (plus_only s m e i.0)) plus F i
  where
    plus : T (fits binary64 (fin false m e)) → In quarter four (fin false m e) → (0x3FD0000000000000 ≤ to_bits binary64 (fin false m e)) × (to_bits binary64 (fin false m e) ≤ 0x4010000000000000)
    plus F i =
        let x = fin false m e in
        let b = to_bits binary64 x in
        let under = to_bits_under binary64 m e F in
        let back = of_bits-to_bits binary64 x F in
        let low : T (le (of_bits binary64 0x3FD0000000000000) (of_bits binary64 b)) = subst (λ (q : Float). T (le q (of_bits binary64 b))) quarter_bits (subst (λ (y : Float). T (le quarter y)) (sym back) i.0) in
        let high : T (le (of_bits binary64 b) (of_bits binary64 0x4010000000000000)) = subst (λ (q : Float). T (le (of_bits binary64 b) q)) four_bits (subst (λ (y : Float). T (le y four)) (sym back) i.1) in
        (le_bits binary64 0x3FD0000000000000 b (lit< tt) under low, le_bits binary64 b 0x4010000000000000 under (lit< tt) high)

-- ---- scaling it keeps it finite, with no minus sign

-- where j stays the high word of a finite number
within : (z : Float) (n : ℤ) → 0x100000 ≤ (high_word_s z + word n * 0x100000) % 0x100000000 → (high_word_s z + word n * 0x100000) % 0x100000000 < 0x7FF00000
    → (Y : ℕ) × HasValue (scaled_s z n) false Y (2 ^ 1074)
within z n low high =
    let j = (high_word_s z + word n * 0x100000) % 0x100000000 in
    let b = j * 0x100000000 + low_word_s z in
    let lo : low_word_s z < 0x100000000 = mod-lt (to_bits binary64 z) (lit< tt) in
    let under : b < endless binary64 = omega arith in
    let same = scaled-within z n j _ refl low (omega arith) refl in
    (bit_val binary64 b, subst (λ (w : Float). HasValue w false (bit_val binary64 b) (2 ^ 1074)) same (bits_val binary64 b under))

module _ (z : Float) (F : T (fits binary64 z)) (i : In quarter four z) (m : ℕ) (M : m ≤ 902) where
  scaled_up : (Y : ℕ) × HasValue (scaled_s z (pos m)) false Y (2 ^ 1074)
  scaled_up =
      let b = bits_in z F i in
      within z (pos m) (omega arith) (omega arith)

  scaled_down : (Y : ℕ) × HasValue (scaled_s z (neg_ℤ (pos m))) false Y (2 ^ 1074)
  scaled_down = go m M
    where
      go : (m : ℕ) → m ≤ 902 → (Y : ℕ) × HasValue (scaled_s z (neg_ℤ (pos m))) false Y (2 ^ 1074)
      go zero h = let b = bits_in z F i in within z (pos 0) (omega arith) (omega arith)
      go (suc m) h = let b = bits_in z F i in within z (negsuc m) (omega arith) (omega arith)

-- a product of such values carries no minus sign
pub mul_plus : (x y : Float) (X Y : ℕ) → HasValue x false X (2 ^ 1074) → HasValue y false Y (2 ^ 1074) → Signed false (mul binary64 x y)
unfolding mul
mul_plus nan y X Y v w = absurd v
mul_plus (inf _) y X Y v w = absurd v
mul_plus (fin s m e) nan X Y v w = absurd w
mul_plus (fin s m e) (inf _) X Y v w = absurd w
mul_plus (fin s m e) (fin t n d) X Y v w =
    subst (λ (s : Bool). Signed false (mul binary64 (fin s m e) (fin t n d))) (sym v.0)
    (subst (λ (t : Bool). Signed false (mul binary64 (fin false m e) (fin t n d))) (sym w.0) plus)
  where
    plus : Signed false (mul binary64 (fin false m e) (fin false n d))
    plus = round_signed binary64 false (m * up e * (n * up d)) (down e * down d)

-- ---- the power

-- 1.0
abbrev pub one : Float
one = bits 0x3FF0000000000000

one_value : HasValue one false (2 ^ 1074) (2 ^ 1074)
unfolding of_bits
one_value = (refl, refl)

-- a scaled value, times 1
times_one : (z : Float) (n : ℤ) → (Y : ℕ) × HasValue (scaled_s z n) false Y (2 ^ 1074) → Signed false (one ⊗ scaled_s z n)
times_one z n y = mul_plus one (scaled_s z n) (2 ^ 1074) y.0 one_value y.1

module _ (p_l p_h : Float) (s : Bool) (A : ℕ) (u : Bool) (B : ℕ) (vl : HasValue p_l s A (2 ^ 1074)) (vh : HasValue p_h u B (2 ^ 1074))
    (small : A + B ≤ 900 * 2 ^ 1074) where
  abbrev j : ℕ
  j = high_word_s (p_l ⊕ p_h)

  near_plus : leb (j % 0x80000000) 0x3FE00000 ≡ true → Signed false (exp2_s one p_h p_l j)
  near_plus e =
      let h = leb-true (j % 0x80000000) 0x3FE00000 e in
      let i = near_range p_l p_h s A u B vl vh small h in
      rw (exp2_near one p_h p_l j h) (times_one (fraction_s p_h p_l) (pos 0) (scaled_up (fraction_s p_h p_l) (fraction_fits p_h p_l) i 0 (zero-le)))

  far_plus : leb (j % 0x80000000) 0x3FE00000 ≡ false → (t : Bool) → leb 0x80000000 j ≡ t → Signed false (exp2_s one p_h p_l j)
  far_plus e t f = go t f
    where
      low : 0x3FE00000 < j % 0x80000000
      low = leb-false (j % 0x80000000) 0x3FE00000 e

      up : j % 0x80000000 ≤ 0x4090CC00
      up = omega (arith, word_high p_l p_h s A u B vl vh small)

      d_is : below j ≡ 20 - (field j - 0x3FF)
      d_is = below_is j low up (word_under p_l p_h s A u B vl vh small)

      z : Float
      z = fraction_s (p_h ⊖ t_of_word j) p_l

      r : In quarter four z × (amount j ≤ 902)
      r = far_range p_l p_h s A u B vl vh small low

      F : T (fits binary64 z)
      F = fraction_fits (p_h ⊖ t_of_word j) p_l

      go : (t : Bool) → leb 0x80000000 j ≡ t → Signed false (exp2_s one p_h p_l j)
      go false f =
          subst (Signed false) (rounded_up one p_h p_l j (below j) (t_of_word j) z _ low d_is refl refl (leb-false 0x80000000 j f) refl)
          (times_one z (pos (amount j)) (scaled_up z F r.0 (amount j) r.1))
      go true f =
          subst (Signed false) (rounded_down one p_h p_l j (below j) (t_of_word j) z _ low d_is refl refl (leb-true 0x80000000 j f) refl)
          (times_one z (neg_ℤ (pos (amount j))) (scaled_down z F r.0 (amount j) r.1))

  pub exp2_plus : Signed false (exp2_s one p_h p_l (high_word_s (p_l ⊕ p_h)))
  exp2_plus = go (leb (j % 0x80000000) 0x3FE00000) refl
    where
      go : (t : Bool) → leb (j % 0x80000000) 0x3FE00000 ≡ t → Signed false (exp2_s one p_h p_l (high_word_s (p_l ⊕ p_h)))
      go true e = near_plus e
      go false e = far_plus e (leb 0x80000000 j) refl
