-- From exp_min to exp_max scalbn is one product by a power of 2 (`one_product`), and the powers 2 ^ -(j + 1) are in order (`power_le`).
-- Both in either format. Assumes nothing.
use mathlib.Core.Path.{◌≡◌, ap}
use Prim.Native.Nat.{ℕ, suc, ◌-◌, ◌*◌, ◌+◌, ◌<◌, ◌≤◌, suc-le-suc}
use native.Mathlib.Nat.{le_trans, mul-le-mul_right, mul-lt-mul_of_pos_right}
use native.Mathlib.Omega.{arith}
use mathlib.Core.Bool.{false}
use lib.Dec.{T}
use lib.IntN.{ℤ, negsuc, nat_abs}
use lib.Signed.{lt_z}
use lib.Ieee.{Float, Format, emax, hid, of_bits, mul, le}
use Rattle.rounding.proofs.BitOrder.{hid_pos, bits_le}
use Rattle.scalbn.specs.Scalbn.{exp_min, exp_max, power2, scalbn_s}
use Rattle.scalbn.proofs.Exponents.{sub_above}

-- an exponent between the bounds takes one product
pub one_product : (f : Format) (x : Float) (n : ℤ) → lt_z (exp_max f) n ≡ false → lt_z n (exp_min f) ≡ false → scalbn_s f x n ≡ mul f x (power2 f n)
unfolding scalbn_s
one_product f x n h k = simp (h, k)

-- 2 ^ -(j + 1) by its pattern
power_is : (f : Format) (j : ℕ) → suc j ≤ emax f → power2 f (negsuc j) ≡ of_bits f ((emax f - suc j) * hid f)
power_is f j h = ap (λ (n : ℤ). of_bits f (nat_abs n * hid f)) (sub_above (emax f) (suc j) h)

-- a greater j has the lesser power
pub power_le : (f : Format) (i j : ℕ) → i ≤ j → suc j ≤ emax f → T (le (power2 f (negsuc j)) (power2 f (negsuc i)))
power_le f i j h k =
    rw (power_is f j k, power_is f i (le_trans (suc-le-suc h) k))
    (bits_le f ((emax f - suc j) * hid f) ((emax f - suc i) * hid f) (mul-le-mul_right (hid f) (less (emax f)))
    (mul-lt-mul_of_pos_right (small (emax f) (le_trans (suc-le-suc h) k)) (hid_pos f)))
  where
    less : (e : ℕ) → e - suc j ≤ e - suc i
    less e = omega arith

    small : (e : ℕ) → suc i ≤ e → e - suc i < 2 * e + 1
    small e l = omega arith
