-- The root cut to a whole number: `root n` is the greatest r with r * r ≤ n. Assumes nothing.
use mathlib.Core.Path.{◌≡◌, refl, sym, ap, ◌∙◌, subst}
use Prim.Native.Nat.{ℕ, zero, suc, ◌+◌, ◌*◌, ◌/◌, ◌^◌, ◌≤◌, ◌<◌}
use native.Mathlib.Nat.{lt_of_lt_of_le, le_of_eq, le_trans, mul-one, pow-suc, div-lt_iff_lt-mul, mul-le-mul_left}
use native.Mathlib.Omega.{arith}
use mathlib.Core.Bool.{Bool, true, false, not}
use lib.Dec.{T, leb, leb→le, nleb→lt}
use lib.Pow.{pow_pos}
use lib.Ieee.{size}
use lib.Ieee.Digits.{size-lt}
use Rattle.words.specs.Pick.{pick}
use Rattle.sqrt.specs.Sqrt.{root_of, root}

-- n's root lies from r to below r + 1
abbrev pub RootIs : ℕ → ℕ → Type 0
RootIs n r = (r * r ≤ n) × (n < (r + 1) * (r + 1))

-- one digit more in base 4: twice the root, or that and 1
step : (n s : ℕ) → RootIs (n / 4) s → RootIs n (pick (leb ((2 * s + 1) * (2 * s + 1)) n) (2 * s + 1) (2 * s))
step n s h = go (leb ((2 * s + 1) * (2 * s + 1)) n) (leb→le ((2 * s + 1) * (2 * s + 1)) n) (nleb→lt ((2 * s + 1) * (2 * s + 1)) n)
  where
    go : (b : Bool) → (T b → (2 * s + 1) * (2 * s + 1) ≤ n) → (T (not b) → n < (2 * s + 1) * (2 * s + 1)) → RootIs n (pick b (2 * s + 1) (2 * s))
    go true p q = (p tt, above n (n / 4) s h.1 (rest n))
      where
        rest : (n : ℕ) → n < 4 * (n / 4) + 4
        rest n = omega arith

        above : (n d s : ℕ) → d < (s + 1) * (s + 1) → n < 4 * d + 4 → n < (2 * s + 1 + 1) * (2 * s + 1 + 1)
        above n d s a b = omega arith
    go false p q = (below n (n / 4) s h.0 (whole n), q tt)
      where
        whole : (n : ℕ) → 4 * (n / 4) ≤ n
        whole n = omega arith

        below : (n d s : ℕ) → s * s ≤ d → 4 * d ≤ n → 2 * s * (2 * s) ≤ n
        below n d s a b = omega arith

pub root_of_is : (k n : ℕ) → n < 4 ^ k → RootIs n (root_of k n)
unfolding root_of
root_of_is zero n h = (omega arith, omega arith)
root_of_is (suc k) n h = step n (root_of k (n / 4)) (root_of_is k (n / 4) ((div-lt_iff_lt-mul (four)).1 (subst (λ (z : ℕ). n < z) (pow-suc 4 k) h)))
  where
    four : 0 < 4
    four = omega arith

-- 4 ^ k is the square of 2 ^ k
pub four : (k : ℕ) → 4 ^ k ≡ 2 ^ k * 2 ^ k
four zero = refl
four (suc k) = pow-suc 4 k ∙ ap (λ (z : ℕ). z * 4) (four k) ∙ even (2 ^ k) ∙ sym (ap (λ (z : ℕ). z * z) (pow-suc 2 k))
  where
    even : (p : ℕ) → p * p * 4 ≡ p * 2 * (p * 2)
    even p = omega arith

pub root_is : (n : ℕ) → RootIs n (root n)
unfolding root
root_is n =
    root_of_is (size n) n
    (lt_of_lt_of_le (size-lt n)
    (le_trans (le_of_eq (sym (mul-one (2 ^ size n)))) (le_trans (mul-le-mul_left (2 ^ size n) (pow_pos (size n))) (le_of_eq (sym (four (size n)))))))
