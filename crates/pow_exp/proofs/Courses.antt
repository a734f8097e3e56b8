-- The course of `product_s` where |z| is below 1024, z the high part of y times log2: `product_within`. Then |z| up to 0.5 leaves n = 0 (`exp2_near`).
-- (Above 0.5: Laws, `rounded_up` and `rounded_down`.) Assumes nothing.
use Prim.Native.Nat.{ℕ, ◌%◌, ◌^◌, ◌<◌, ◌≤◌}
use mathlib.Core.Path.{◌≡◌, refl}
use mathlib.Core.Bool.{Bool, true, false, and-false}
use native.Mathlib.Omega.{arith}
use lib.IntN.{pos}
use lib.Dec.{ltb}
use lib.Ieee.{Float}
use borrow.Author.Tests.{le-ltb, lt-leb, ltb-true}
use Rattle.words.specs.F64.{◌⊕◌, ◌⊖◌, ◌⊗◌}
use Rattle.words.specs.Bits.{high_word_s, low_word_s, with_low_word_s}
use Rattle.pow_log.specs.declared.Parts.{Parts}
use Rattle.pow_exp.specs.Exp2.{fraction_s, scaled_s, exp2_s, bounded_s, product_s}

-- the two parts of y * (t1 + t2)
abbrev pub low_of : Float → Parts → Float
low_of y t = (y ⊖ with_low_word_s y 0) ⊗ t.t1 ⊕ y ⊗ t.t2

abbrev pub high_of : Float → Parts → Float
high_of y t = with_low_word_s y 0 ⊗ t.t1

bounded_within : (s p_h p_l z : Float) (j i : ℕ) → j % 2 ^ 31 < 0x40900000 → bounded_s s p_h p_l z j i ≡ exp2_s s p_h p_l j
unfolding bounded_s
bounded_within s p_h p_l z j i h = go (ltb j 0x80000000) refl
  where
    go : (t : Bool) → ltb j 0x80000000 ≡ t → bounded_s s p_h p_l z j i ≡ exp2_s s p_h p_l j
    go true e = let l = ltb-true j 0x80000000 e in simp (lt-leb 0x40900000 j (omega arith), lt-leb 0x4090CC00 (j % 0x80000000) (omega arith))
    go false e = simp (e, lt-leb 0x4090CC00 (j % 0x80000000) (omega arith), and-false)

pub product_within : (s y : Float) (t : Parts) → high_word_s (low_of y t ⊕ high_of y t) % 2 ^ 31 < 0x40900000
    → product_s s y t ≡ exp2_s s (high_of y t) (low_of y t) (high_word_s (low_of y t ⊕ high_of y t))
unfolding product_s
product_within s y t h =
    let z = low_of y t ⊕ high_of y t in
    bounded_within s (high_of y t) (low_of y t) z (high_word_s z) (low_word_s z) h

pub exp2_near : (s p_h p_l : Float) (j : ℕ) → j % 2 ^ 31 ≤ 0x3FE00000 → exp2_s s p_h p_l j ≡ s ⊗ scaled_s (fraction_s p_h p_l) (pos 0)
unfolding exp2_s
exp2_near s p_h p_l j h = simp (le-ltb _ _ h)
