-- Every positive f64 is A * 4 ^ (h + 475) / 2 ^ 2098 for some A and h, so that its root has for digits the whole number q nearest to the root of
-- A * 2 ^ 52; and an f64 is a whole number of units of its last digit. Assumes nothing.
use mathlib.Core.Path.{◌≡◌, refl, sym, ap, ◌∙◌, subst}
use mathlib.Core.Logic.{◌⊎◌, inl, inr}
use Prim.Native.Nat.{ℕ, zero, suc, ◌+◌, ◌-◌, ◌*◌, ◌/◌, ◌%◌, ◌^◌, ◌≤◌, ◌<◌, zero-le, suc-le-suc}
use native.Mathlib.Nat.{le_trans, le_of_eq, lt_of_lt_of_le, lt_of_le_of_lt, le_of_suc-le-suc, mul_assoc, mul-pos, mul-le-mul_right, mul-lt-mul_of_pos_right, eq_of_mul-eq-mul_right, one-mul, zero-lt-suc}
use native.Mathlib.Omega.{arith}
use mathlib.Core.Bool.{Bool, true, false, not}
use lib.IntN.{ℤ}
use lib.Dec.{T, leb, leb→le, nleb→lt}
use lib.Pow.{pow-add, pow_pos}
use lib.Ieee.{Float, fin, binary64, down, fits, size}
use lib.Ieee.Digits.{size-lt, size-le, size_reaches}
use lib.Ieee.Exact.{HasValue}
use lib.Ieee.Fits.{down_pos}
use Rattle.rounding.proofs.Grid.{OnGrid, on_grid, pow_cancel_lt}
use Rattle.sqrt.specs.Sqrt.{root}
use Rattle.sqrt.proofs.Root.{RootIs, root_is}
use Rattle.rounding.proofs.Signed.{value_longer}
use Rattle.sqrt.proofs.Positive.{AtEven, at_even, even_part, odd_part}

-- ---- values in units of 2 ^ -1074
module _ (m : ℕ) (e : ℤ) (Z : ℕ) (t : T (fits binary64 (fin false m e))) (v : HasValue (fin false m e) false Z (2 ^ 1074)) where
  on : (j : ℕ) × OnGrid binary64 m e j
  on = on_grid binary64 false m e t

  units : Z ≡ m * 2 ^ on.0
  units = eq_of_mul-eq-mul_right (down e) (down_pos e) Z (m * 2 ^ on.0) (sym v.1 ∙ on.1.0)

  -- from 2 ^ 52 of 2 ^ k units on, an f64 is a multiple of them
  pub multiple : (k : ℕ) → 2 ^ 52 * 2 ^ k ≤ Z → (w : ℕ) × (Z ≡ w * 2 ^ k)
  multiple k h = (m * 2 ^ (j - k), units ∙ ap (λ (n : ℕ). m * 2 ^ n) (back j k deep) ∙ ap (λ (n : ℕ). m * n) (pow-add 2 (j - k) k) ∙ sym (mul_assoc m (2 ^ (j - k)) (2 ^ k)))
    where
      j : ℕ
      j = on.0

      deep : k ≤ j
      deep =
          le_of_suc-le-suc (le_of_add (pow_cancel_lt (52 + k) (53 + j)
          (lt_of_le_of_lt (le_of_eq (pow-add 2 52 k))
          (lt_of_le_of_lt h (lt_of_lt_of_le (subst (λ (n : ℕ). n < 2 ^ 53 * 2 ^ j) (sym units) (mul-lt-mul_of_pos_right on.1.1 (pow_pos j))) (le_of_eq (sym (pow-add 2 53 j))))))))
        where
          le_of_add : 52 + k < 53 + j → k < suc j
          le_of_add g = omega arith

      back : (j k : ℕ) → k ≤ j → j ≡ j - k + k
      back j k h = omega arith

-- ---- a positive x: its root has the 53 digits of q, in units of 2 ^ (h + 474)
pub record Found (x : Float) : Type 0 where
  pub A : ℕ
  pub h : ℕ
  pub q : ℕ
  pub lo : 2 ^ 52 ≤ A
  pub hi : A < 2 ^ 54
  pub small : h < 1100
  pub near : (q * q < A * 2 ^ 52 + q) × (A * 2 ^ 52 ≤ q * q + q)
  pub value : AtEven x A h

-- the whole number nearest to the root of M
near_root : (M : ℕ) → 0 < M → (q : ℕ) × (q * q < M + q) × (M ≤ q * q + q)
near_root M p = go (root M) (root_is M) (leb M (root M * root M + root M)) (leb→le M (root M * root M + root M)) (nleb→lt M (root M * root M + root M))
  where
    go : (r : ℕ) → RootIs M r → (b : Bool) → (T b → M ≤ r * r + r) → (T (not b) → r * r + r < M) → (q : ℕ) × (q * q < M + q) × (M ≤ q * q + q)
    go zero h true a b = absurd (none h.1)
      where
        none : M < 1 → ⊥
        none h = omega arith
    go (suc r) h true a b = let k = h.0 in (suc r, omega arith, a tt)
    go r h false a b = let k = b tt in let l = h.1 in (r + 1, omega arith, omega arith)

found_at : (x : Float) (b A : ℕ) (N : ℕ) → HasValue x false N (2 ^ 2098) → N ≡ A * (2 ^ (b / 2) * 2 ^ (b / 2)) → 950 ≤ b → b < 3150 → 2 ^ 52 ≤ A → A < 2 ^ 54 → Found x
found_at x b A N v e from upto lo hi =
    let q = near_root (A * 2 ^ 52) (mul-pos (lt_of_lt_of_le (pow_pos 52) lo) (pow_pos 52)) in
    record { A = A; h = b / 2 - 475; q = q.0; lo = lo; hi = hi; small = omega arith; near = (q.1, q.2); value = at_even x N b A v e from }

-- a number of up to 53 digits, moved up to 53
lift : (a : ℕ) → 0 < a → a < 2 ^ 53 → (s : ℕ) × (s ≤ 52) × (2 ^ 52 ≤ a * 2 ^ s) × (a * 2 ^ s < 2 ^ 53)
lift a p h = let from = n_from in let upto = n_upto in (
  53 - n,
  omega arith,
  le_trans (le_of_eq (up 52 (n - 1) (omega arith))) (mul-le-mul_right (2 ^ (53 - n)) (size_reaches a (n - 1) (omega arith))),
  lt_of_lt_of_le (mul-lt-mul_of_pos_right (size-lt a) (pow_pos (53 - n))) (le_of_eq (sym (up 53 n (omega arith)))),
)
  where
    n : ℕ
    n = size a

    n_from : 0 < n
    n_from = pow_cancel_lt 0 n (lt_of_le_of_lt p (size-lt a))

    n_upto : n ≤ 53
    n_upto = size-le a 53 h

    up : (d i : ℕ) → d ≡ i + (53 - n) → 2 ^ d ≡ 2 ^ i * 2 ^ (53 - n)
    up d i e = ap (λ (z : ℕ). 2 ^ z) e ∙ pow-add 2 i (53 - n)

parity : (k r : ℕ) → k % 2 ≡ r → (k % 2 ≡ 0) ⊎ (k % 2 ≡ 0 → ⊥)
parity k zero e = inl e
parity k (suc r) e = inr (λ g. omega (arith, g))

pub found : (m : ℕ) (e : ℤ) (X : ℕ) → T (fits binary64 (fin false (suc m) e)) → HasValue (fin false (suc m) e) false X (2 ^ 1074) → Found (fin false (suc m) e)
found m e X t v = at (on (suc m) e X t v).0 (units (suc m) e X t v) (on (suc m) e X t v).1.2 (lift (suc m) (zero-lt-suc m) (on (suc m) e X t v).1.1)
  where
    x : Float
    x = fin false (suc m) e

    at : (j : ℕ) → X ≡ suc m * 2 ^ j → suc m * 2 ^ j < 2 ^ 2098 → (s : ℕ) × (s ≤ 52) × (2 ^ 52 ≤ suc m * 2 ^ s) × (suc m * 2 ^ s < 2 ^ 53) → Found x
    at j X-is fine u = let f = few in let l = lo in let g = hi in elim (parity k (k % 2) refl) [
      | inl g ↦ found_at x k D (X * 2 ^ 1024) w (N ∙ even_part D k g) (omega arith) k_lt lo (omega arith)
      | inr g ↦ found_at x k (D * 2) (X * 2 ^ 1024) w (N ∙ odd_part D k g) (omega arith) k_lt (omega arith) (omega arith)
    ]
      where
        s : ℕ
        s = u.0

        few : s ≤ 52
        few = u.1

        D : ℕ
        D = suc m * 2 ^ s

        lo : 2 ^ 52 ≤ D
        lo = u.2

        hi : D < 2 ^ 53
        hi = u.3

        k : ℕ
        k = j + (1024 - s)

        w : HasValue x false (X * 2 ^ 1024) (2 ^ 2098)
        w = value_longer x false X (2 ^ 1074) (2 ^ 1024) v

        j_lt : j < 2098
        j_lt = pow_cancel_lt j 2098 (lt_of_le_of_lt (le_trans (le_of_eq (sym (one-mul (2 ^ j)))) (mul-le-mul_right (2 ^ j) (suc-le-suc zero-le))) fine)

        k_lt : k < 3150
        k_lt = let l = j_lt in omega arith

        N : X * 2 ^ 1024 ≡ D * 2 ^ k
        N =
            ap (λ (z : ℕ). z * 2 ^ 1024) X-is
            ∙ ap (λ (z : ℕ). suc m * 2 ^ j * 2 ^ z) (let g : 1024 ≡ s + (1024 - s) = let l = few in omega arith in g)
            ∙ ap (λ (z : ℕ). suc m * 2 ^ j * z) (pow-add 2 s (1024 - s))
            ∙ turn (suc m) (2 ^ j) (2 ^ s) (2 ^ (1024 - s))
            ∙ ap (λ (z : ℕ). D * z) (sym (pow-add 2 j (1024 - s)))
          where
            turn : (a p q r : ℕ) → a * p * (q * r) ≡ a * q * (p * r)
            turn a p q r = omega arith
