-- Whether an i32 is zero, by its bits and by its size. Assumes nothing.
use Rattle.std.proofs.Common.{◌≡◌, ℕ, ◌^◌, ◌<◌, ℤ, pos, negsuc, nat_abs, arith, w32, SFits, of_z}

pub zero_of_bits : (k : ℤ) → SFits w32 k → of_z w32 k ≡ 0 → nat_abs k ≡ 0
zero_of_bits (pos n) f e = e
zero_of_bits (negsuc n) f e = absurd (clash n f.sfits e)
  where
    clash : (n : ℕ) → n < 2 ^ 31 → of_z w32 (negsuc n) ≡ 0 → ⊥
    clash n h e = omega arith

pub nonzero_of_bits : (k : ℤ) → (of_z w32 k ≡ 0 → ⊥) → nat_abs k ≡ 0 → ⊥
nonzero_of_bits (pos n) h e = h e
nonzero_of_bits (negsuc n) h e = omega arith
