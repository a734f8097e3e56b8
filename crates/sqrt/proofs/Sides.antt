-- On which side of a middle a root lies, over whole numbers. The root of M lies within a half of q, so that of S, M squares of U, within half of U
-- of Y, which is q * U. Z is any other number; from B * U on it is a multiple of U. Assumes nothing.
use mathlib.Core.Path.{◌≡◌, refl, sym, ap, ◌∙◌, subst}
use mathlib.Core.Logic.{inl, inr}
use Prim.Native.Nat.{ℕ, zero, suc, ◌+◌, ◌*◌, ◌≤◌, ◌<◌, zero-le}
use native.Mathlib.Nat.{le_trans, le_of_eq, le_of_lt, lt_of_lt_of_le, lt_of_le_of_lt, lt_of_mul-lt-mul_right, le_of_suc-le-suc, eq-or-lt_of_le, mul-pos, mul-le-mul, mul-le-mul_left, mul-le-mul_right, mul-lt-mul_of_pos_right, zero-mul}
use native.Mathlib.Omega.{arith}
use mathlib.Core.Bool.{Bool, true, false, not}
use lib.Dec.{T, leb, leb→le, nleb→lt}

module _ (M U q B S Y Z : ℕ) (U_pos : 0 < U) (s : S ≡ M * (U * U)) (y : Y ≡ q * U) (big : B ≤ q) (full : B * B ≤ M) (below : q * q < M + q) (above : M ≤ q * q + q) (grid : B * U ≤ Z → (w : ℕ) × (Z ≡ w * U)) where
  square : 0 < U * U
  square = mul-pos U_pos U_pos

  -- ---- a z above y
  far_above : (w : ℕ) → Z ≡ w * U → q < w → 4 * S < (Y + Z) * (Y + Z)
  far_above w e g = lt_of_lt_of_le (less (mul-le-mul_right (U * U) above)) (mul-le-mul at_least at_least)
    where
      less : M * (U * U) ≤ (q * q + q) * (U * U) → 4 * S < (2 * q + 1) * U * ((2 * q + 1) * U)
      less a = let k = square in omega arith

      at_least : (2 * q + 1) * U ≤ Y + Z
      at_least = let k : suc q * U ≤ w * U = mul-le-mul_right U g in omega arith

  pub nearer_than_above : Y < Z → 4 * S < (Y + Z) * (Y + Z)
  nearer_than_above h =
      let w = grid (le_trans (mul-le-mul_right U big) (le_of_lt (subst (λ (n : ℕ). n < Z) y h))) in
      far_above w.0 w.1 (lt_of_mul-lt-mul_right U (subst (λ (n : ℕ). q * U < n) w.1 (subst (λ (n : ℕ). n < Z) y h)))

  -- ---- a z below y
  far_below : (p : ℕ) → q ≡ suc p → Z ≤ p * U → (Y + Z) * (Y + Z) < 4 * S
  far_below p e g = lt_of_le_of_lt (mul-le-mul at_most at_most) (less (mul-le-mul_right (U * U) long))
    where
      y_is : Y ≡ suc p * U
      y_is = y ∙ ap (λ (n : ℕ). n * U) e

      at_most : Y + Z ≤ (2 * p + 1) * U
      at_most = let k = y_is in omega arith

      long : p * p + p + 1 ≤ M
      long = let k : suc p * suc p < M + suc p = subst (λ (n : ℕ). n * n < M + n) e below in omega arith

      less : (p * p + p + 1) * (U * U) ≤ M * (U * U) → (2 * p + 1) * U * ((2 * p + 1) * U) < 4 * S
      less a = let k = square in omega arith

  -- y is B * U itself, and not above the root
  at_start : q ≡ B → Z < Y → (Y + Z) * (Y + Z) < 4 * S
  at_start e h = lt_of_lt_of_le (twice Y Z h) (whole (mul-le-mul_right (U * U) full))
    where
      twice : (Y Z : ℕ) → Z < Y → (Y + Z) * (Y + Z) < 4 * (Y * Y)
      twice Y Z h = let a : (Y + Z) * (Y + Z) ≤ (Y + Z) * (2 * Y) = mul-le-mul_left (Y + Z) (omega arith) in let b : (Y + Z) * (2 * Y) < 2 * Y * (2 * Y) = mul-lt-mul_of_pos_right (omega arith) (omega arith) in omega arith

      whole : B * B * (U * U) ≤ M * (U * U) → 4 * (Y * Y) ≤ 4 * S
      whole a = let k : Y ≡ B * U = y ∙ ap (λ (n : ℕ). n * U) e in let l : Y * Y ≡ B * U * (B * U) = ap (λ (n : ℕ). n * n) k in omega arith

  pred : (q : ℕ) → 0 < q → (p : ℕ) × (q ≡ suc p)
  pred zero h = absurd (no h)
    where
      no : 0 < 0 → ⊥
      no h = omega arith
  pred (suc p) h = (p, refl)

  pub nearer_than_below : Z < Y → (Y + Z) * (Y + Z) < 4 * S
  nearer_than_below h = go (leb (B * U) Z) (leb→le (B * U) Z) (nleb→lt (B * U) Z)
    where
      under : Z < q * U
      under = subst (λ (n : ℕ). Z < n) y h

      q_pos : 0 < q
      q_pos = lt_of_mul-lt-mul_right U (lt_of_le_of_lt (le_of_eq (zero-mul U)) (lt_of_le_of_lt zero-le under))

      p : (p : ℕ) × (q ≡ suc p)
      p = pred q q_pos

      on : (w : ℕ) × (Z ≡ w * U) → (Y + Z) * (Y + Z) < 4 * S
      on w =
          let l : w.0 < q = lt_of_mul-lt-mul_right U (subst (λ (n : ℕ). n < q * U) w.1 under) in
          let g : w.0 ≤ p.0 = le_of_suc-le-suc (subst (λ (n : ℕ). w.0 < n) p.1 l) in
          far_below p.0 p.1 (le_trans (le_of_eq w.1) (mul-le-mul_right U g))

      off : Z < B * U → (Y + Z) * (Y + Z) < 4 * S
      off l = elim (eq-or-lt_of_le big) [
        | inl e ↦ at_start (sym e) h
        | inr g ↦ far_below p.0 p.1 (le_trans (le_of_lt l) (mul-le-mul_right U (le_of_suc-le-suc (subst (λ (n : ℕ). B < n) p.1 g))))
      ]

      go : (b : Bool) → (T b → B * U ≤ Z) → (T (not b) → Z < B * U) → (Y + Z) * (Y + Z) < 4 * S
      go true a b = on (grid (a tt))
      go false a b = off (b tt)
