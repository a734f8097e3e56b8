-- n = [z + 0.5] by the high word j of a z from 0.5 to 1075 in size: what is added and shifted stays within a word. Assumes nothing.
use Prim.Native.Nat.{ℕ, ◌+◌, ◌-◌, ◌*◌, ◌/◌, ◌%◌, ◌^◌, ◌≤◌, ◌<◌}
use mathlib.Core.Path.{◌≡◌, refl, ap}
use mathlib.Core.Bool.{Bool, true, false}
use native.Mathlib.Omega.{arith}
use native.Mathlib.Nat.{div-le_self, div-mul-le_self, mod-eq_of_lt, lt_of_le_of_lt, one-le-pow, pow-le-pow_right, le-div_iff_mul-le}
use lib.Dec.{ltb}
use borrow.Author.Tests.{ltb-true, ltb-false}

-- (w >> d) << d, which loses no digit at the top
pub cut_back : (w d : ℕ) → w < 2 ^ 32 → w / 2 ^ d * 2 ^ d % 2 ^ 32 ≡ w / 2 ^ d * 2 ^ d
cut_back w d h = mod-eq_of_lt (lt_of_le_of_lt (div-mul-le_self w (2 ^ d)) h)

-- half a unit of n, in the digits of j
abbrev pub half : ℕ → ℕ
half j = 0x100000 / 2 ^ (j % 0x80000000 / 0x100000 - 0x3FE)

-- the exponent's field of z + 0.5, and the digits below the unit of n
abbrev pub field : ℕ → ℕ
field j = (j + half j) % 0x80000000 / 0x100000

abbrev pub below : ℕ → ℕ
below j = 0x413 - field j

-- n's size
abbrev pub amount : ℕ → ℕ
amount j = ((j + half j) % 0x100000 + 0x100000) / 2 ^ below j

pub half_le : (j : ℕ) → half j ≤ 0x100000
half_le j = div-le_self 0x100000 (2 ^ (j % 0x80000000 / 0x100000 - 0x3FE))

whole_half : (j : ℕ) → j % 0x80000000 < 0x3FF00000 → half j ≡ 0x100000
whole_half j h =
    let e : j % 0x80000000 / 0x100000 - 0x3FE ≡ 0 = omega arith in
    ap (λ (k : ℕ). 0x100000 / 2 ^ k) e

pub amount_le : (j : ℕ) → amount j ≤ 0x200000
amount_le j = omega (arith, div-le_self ((j + half j) % 0x100000 + 0x100000) (2 ^ below j))

module _ (j : ℕ) (low : 0x3FE00000 < j % 0x80000000) (high : j % 0x80000000 ≤ 0x4090CC00) (word : j < 0x100000000) where
  pub sum_word : j + half j < 0x100000000
  sum_word = omega (arith, half_le j)

  pub field_le : field j ≤ 0x40A
  field_le = omega (arith, half_le j)

  field_ge_at : (t : Bool) → ltb (j % 0x80000000) 0x3FF00000 ≡ t → 0x3FF ≤ field j
  field_ge_at true e = omega (arith, whole_half j (ltb-true (j % 0x80000000) 0x3FF00000 e))
  field_ge_at false e = omega (arith, half_le j, ltb-false (j % 0x80000000) 0x3FF00000 e)

  pub field_ge : 0x3FF ≤ field j
  field_ge = field_ge_at (ltb (j % 0x80000000) 0x3FF00000) refl

  pub field_fits : field j ≤ 0x413
  field_fits = omega (arith, field_le)

  pub shift : below j < 32
  shift = omega (arith, field_ge)

  -- as the definition writes it
  pub below_is : below j ≡ 20 - (field j - 0x3FF)
  below_is = omega (arith, field_ge, field_le)

  pub amount_pos : 0 < amount j
  amount_pos =
      let d : below j ≤ 20 = omega (arith, field_ge) in
      let p : 2 ^ below j ≤ 2 ^ 20 = pow-le-pow_right {n = 2} (omega arith) d in
      let q : 0 < 2 ^ below j = one-le-pow (below j) 2 (omega arith) in
      (le-div_iff_mul-le q).1 (omega (arith, p))
