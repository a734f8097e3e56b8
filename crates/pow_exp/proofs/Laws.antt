-- What the functions of `pow_exp` give, over plain values. Assumes nothing.
use Prim.Native.Nat.{ℕ, zero, suc, ◌+◌, ◌-◌, ◌*◌, ◌/◌, ◌%◌, ◌^◌, ◌≤◌, ◌<◌}
use mathlib.Core.Path.{◌≡◌, refl, ap, ◌∙◌, subst}
use native.Mathlib.Omega.{arith}
use lib.IntN.{ℤ, pos, neg_ℤ}
use lib.Ieee.{Float}
use borrow.Author.Tests.{le-leb, lt-leb, lt-ltb, le-ltb}
use Rattle.words.specs.F64.{◌⊖◌, ◌⊗◌, bits}
use Rattle.words.specs.Bits.{high_word_s, with_high_word_s}
use Rattle.pow_exp.specs.Exp2.{word, fraction_s, scaled_s, exp2_s}
use Rattle.pow_exp.proofs.Half.{half, field}

-- the word of -n
pub negative_word : (n : ℕ) → 0 < n → word (neg_ℤ (pos n)) ≡ 0x100000000 - n
negative_word zero h = omega arith
negative_word (suc n) h = refl

module _ (z : Float) (n : ℤ) (j : ℕ) (r : Float) (is : j ≡ (high_word_s z + word n * 2 ^ 20) % 2 ^ 32) where
  pub within : 2 ^ 20 ≤ j → j < 2 ^ 31 → r ≡ with_high_word_s z j → r ≡ scaled_s z n
  unfolding scaled_s
  within g h q =
      simp (le-ltb _ _ (subst (λ (k : ℕ). 2 ^ 20 ≤ k) is g), lt-leb _ _ (subst (λ (k : ℕ). k < 2 ^ 31) is h)) (q ∙ ap (with_high_word_s z) is)

-- the two cases of n's sign, where |z| > 0.5
module _ (s p_h p_l : Float) (j d : ℕ) (t f z : Float) (far : 0x3FE00000 < j % 2 ^ 31) (is_d : d ≡ 20 - (field j - 0x3FF)) (is_t : t ≡ with_high_word_s (bits 0) ((j + half j) / 2 ^ d * 2 ^ d)) (is_f : f ≡ fraction_s (p_h ⊖ t) p_l) where
  pub rounded_up : j < 2 ^ 31 → z ≡ scaled_s f (pos (((j + half j) % 2 ^ 20 + 2 ^ 20) / 2 ^ d)) → s ⊗ z ≡ exp2_s s p_h p_l j
  unfolding exp2_s
  rounded_up h q = simp (lt-ltb _ _ far, lt-leb _ _ h) (rw (q, is_f, is_t, is_d))

  pub rounded_down : 2 ^ 31 ≤ j → z ≡ scaled_s f (neg_ℤ (pos (((j + half j) % 2 ^ 20 + 2 ^ 20) / 2 ^ d))) → s ⊗ z ≡ exp2_s s p_h p_l j
  unfolding exp2_s
  rounded_down h q = simp (lt-ltb _ _ far, le-leb _ _ h) (rw (q, is_f, is_t, is_d))
