-- The number with a positive pattern b, as m * 2 ^ k / 2 ^ 2098 where m has 53 digits. Assumes nothing.
use mathlib.Core.Path.{◌≡◌, sym, ap, ◌∙◌, subst}
use Prim.Native.Nat.{ℕ, suc, ◌+◌, ◌-◌, ◌*◌, ◌/◌, ◌%◌, ◌^◌, ◌≤◌, ◌<◌}
use native.Mathlib.Nat.{le_trans, le_of_eq, lt_of_le_of_lt, lt_of_lt_of_le, add_comm, mul_assoc, mul-le-mul_right, mul-lt-mul_of_pos_right, div-eq_of_lt, mod-eq_of_lt}
use native.Mathlib.Omega.{arith}
use mathlib.Core.Bool.{false}
use lib.Count.{count_leading_zeros, leading_top}
use lib.Pow.{pow-add, pow_pos}
use lib.Ieee.{binary64, of_bits}
use lib.Ieee.Exact.{HasValue}
use Rattle.rounding.proofs.BitOrder.{scaled, bit_val, endless, bits_val}
use Rattle.rounding.proofs.Grid.{pow_cancel_lt}
use Rattle.rounding.proofs.Signed.{value_longer}

at_units : (b N : ℕ) → b < endless binary64 → bit_val binary64 b ≡ N → HasValue (of_bits binary64 b) false (N * 2 ^ 1024) (2 ^ 2098)
at_units b N h e =
    value_longer (of_bits binary64 b) false N (2 ^ 1074) (2 ^ 1024)
    (subst (λ (z : ℕ). HasValue (of_bits binary64 b) false z (2 ^ 1074)) e (bits_val binary64 b h))

-- ---- a field that is not 0
pub normal_value : (b : ℕ) → 2 ^ 52 ≤ b → b < endless binary64 → HasValue (of_bits binary64 b) false ((b % 2 ^ 52 + 2 ^ 52) * 2 ^ (b / 2 ^ 52 + 1023)) (2 ^ 2098)
normal_value b lo hi =
    subst (λ (z : ℕ). HasValue (of_bits binary64 b) false z (2 ^ 2098)) (whole (2 ^ 52 + b % 2 ^ 52) (b / 2 ^ 52 - 1) ∙ tidy)
    (at_units b ((2 ^ 52 + b % 2 ^ 52) * 2 ^ (b / 2 ^ 52 - 1)) hi (ap (λ (z : ℕ). scaled z (b % 2 ^ 52) (2 ^ 52)) field))
  where
    field : b / 2 ^ 52 ≡ suc (b / 2 ^ 52 - 1)
    field = omega arith

    whole : (m j : ℕ) → m * 2 ^ j * 2 ^ 1024 ≡ m * 2 ^ (j + 1024)
    whole m j = mul_assoc m (2 ^ j) (2 ^ 1024) ∙ ap (λ (z : ℕ). m * z) (sym (pow-add 2 j 1024))

    tidy : (2 ^ 52 + b % 2 ^ 52) * 2 ^ (b / 2 ^ 52 - 1 + 1024) ≡ (b % 2 ^ 52 + 2 ^ 52) * 2 ^ (b / 2 ^ 52 + 1023)
    tidy =
        ap (λ (z : ℕ). z * 2 ^ (b / 2 ^ 52 - 1 + 1024)) (add_comm (2 ^ 52) (b % 2 ^ 52))
        ∙ ap (λ (z : ℕ). (b % 2 ^ 52 + 2 ^ 52) * 2 ^ z) (let k : b / 2 ^ 52 - 1 + 1024 ≡ b / 2 ^ 52 + 1023 = omega arith in k)

-- ---- a field of 0: the digits are moved up by l
pub subnormal_value : (b l : ℕ) → b < 2 ^ 52 → l ≤ 1024 → HasValue (of_bits binary64 b) false (b * 2 ^ l * 2 ^ (1024 - l)) (2 ^ 2098)
subnormal_value b l h k =
    subst (λ (z : ℕ). HasValue (of_bits binary64 b) false z (2 ^ 2098)) (split ∙ sym (mul_assoc b (2 ^ l) (2 ^ (1024 - l))))
    (at_units b b (omega arith) (ap (λ (z : ℕ). scaled z (b % 2 ^ 52) (2 ^ 52)) (div-eq_of_lt h) ∙ mod-eq_of_lt h))
  where
    split : b * 2 ^ 1024 ≡ b * (2 ^ l * 2 ^ (1024 - l))
    split = ap (λ (z : ℕ). b * 2 ^ z) (let e : 1024 ≡ l + (1024 - l) = omega arith in e) ∙ ap (λ (z : ℕ). b * z) (pow-add 2 l (1024 - l))

-- what the count z of b's leading zeros says: moved up by z - 11, b has 53 digits
pub record Moved (b z : ℕ) : Type 0 where
  pub some : 12 ≤ z
  pub few : z ≤ 63
  pub from : 2 ^ 52 ≤ b * 2 ^ (z - 11)
  pub upto : b * 2 ^ (z - 11) < 2 ^ 53

pub moved : (b : ℕ) → 0 < b → b < 2 ^ 52 → Moved b (count_leading_zeros 64 b)
moved b p h = at (leading_top 64 b p (omega arith))
  where
    at : (j : ℕ) × (count_leading_zeros 64 b + suc j ≡ 64) × (2 ^ j ≤ b) × (b < 2 ^ suc j) → Moved b (count_leading_zeros 64 b)
    at t =
        let j : ℕ = t.0 in
        let z : ℕ = count_leading_zeros 64 b in
        let e : z + suc j ≡ 64 = t.1 in
        let short : j < 52 = pow_cancel_lt j 52 (lt_of_le_of_lt t.2 h) in
        let lo : 2 ^ 52 ≡ 2 ^ j * 2 ^ (z - 11) = ap (λ (k : ℕ). 2 ^ k) (let k : 52 ≡ j + (z - 11) = omega arith in k) ∙ pow-add 2 j (z - 11) in
        let hi : 2 ^ 53 ≡ 2 ^ suc j * 2 ^ (z - 11) = ap (λ (k : ℕ). 2 ^ k) (let k : 53 ≡ suc j + (z - 11) = omega arith in k) ∙ pow-add 2 (suc j) (z - 11) in
        record {
          some = omega arith;
          few = omega arith;
          from = le_trans (le_of_eq lo) (mul-le-mul_right (2 ^ (z - 11)) t.2);
          upto = lt_of_lt_of_le (mul-lt-mul_of_pos_right t.3 (pow_pos (z - 11))) (le_of_eq (sym hi));
        }
