-- The root in halves, 2 * r + 0 or 1: its whole part, and whether anything was cut off. It stands for twice the root: it lies on the
-- same side of every even number. Assumes nothing.
use mathlib.Core.Path.{◌≡◌, refl, subst}
use Prim.Native.Nat.{ℕ, zero, suc, ◌+◌, ◌*◌, ◌≤◌, ◌<◌}
use native.Mathlib.Nat.{le_of_suc-le-suc, lt_of_not-le, mul-le-mul, mul-le-mul_right, mul-pos, mul-lt-mul_of_pos_right}
use native.Mathlib.Omega.{arith}
use mathlib.Core.Bool.{Bool, true, false}
use lib.Dec.{T, eqb, eqb→eq}
use Rattle.words.specs.Pick.{pick}
use Rattle.sqrt.proofs.Root.{RootIs}

-- 2 * r, and 1 more where r * r is not all of n
abbrev pub halves : ℕ → ℕ → ℕ
halves n r = 2 * r + pick (eqb (r * r) n) 0 1

bit : (b : Bool) → pick b 0 1 ≤ 1
bit true = omega arith
bit false = omega arith

-- ---- t against the root: by squares
at_most : (n r t : ℕ) → RootIs n r → t * t ≤ n → t ≤ r
at_most n r t h l = le_of_suc-le-suc (lt_of_not-le (λ g. over (mul-le-mul g g)))
  where
    over : suc r * suc r ≤ t * t → ⊥
    over g = let k = h.1 in omega arith

above : (n r t : ℕ) → RootIs n r → n < t * t → r < t
above n r t h l = lt_of_not-le (λ g. under (mul-le-mul g g))
  where
    under : t * t ≤ r * r → ⊥
    under g = let k = h.0 in omega arith

module _ (n r t : ℕ) (h : RootIs n r) where
  -- the root is t at least
  pub from_below : t * t ≤ n → 2 * t ≤ halves n r
  from_below l = let k = at_most n r t h l in omega arith

  pub under : n < t * t → halves n r < 2 * t
  under l = let k = above n r t h l in let b = bit (eqb (r * r) n) in omega arith

  -- the root is t at most: where r is t there is nothing to cut off
  pub over : t * t < n → 2 * t < halves n r
  over l = go (eqb (r * r) n) (eqb→eq (r * r) n)
    where
      go : (b : Bool) → (T b → r * r ≡ n) → 2 * t < 2 * r + pick b 0 1
      go true e = let k = lt_of_not-le (λ (g : r ≤ t). no (e tt) (mul-le-mul g g)) in omega arith
        where
          no : r * r ≡ n → r * r ≤ t * t → ⊥
          no e g = omega arith
      go false e = let k : t ≤ r = at_most n r t h (weak n (t * t) l) in omega arith
        where
          weak : (n m : ℕ) → m < n → m ≤ n
          weak n m l = omega arith

-- ---- n is M squares of 2 * G, and the root of M lies within a half of q: so does that of n of q, in units of 2 * G
module _ (n M G q r : ℕ) (G_pos : 0 < G) (e : n ≡ M * (2 * G * (2 * G))) (h : RootIs n r) where
  square : 0 < G * G
  square = mul-pos G_pos G_pos

  pub half_over : M ≤ q * q + q → 2 * halves n r < 2 * (q * (4 * G)) + 4 * G
  half_over l =
      let k : halves n r < 2 * ((2 * q + 1) * G) = under n r ((2 * q + 1) * G) h (big (mul-le-mul_right (G * G) l) square) in
      wide (halves n r) k
    where
      big : M * (G * G) ≤ (q * q + q) * (G * G) → 0 < G * G → n < (2 * q + 1) * G * ((2 * q + 1) * G)
      big a b = omega arith

      wide : (a : ℕ) → a < 2 * ((2 * q + 1) * G) → 2 * a < 2 * (q * (4 * G)) + 4 * G
      wide a k = omega arith

  pub half_under : q * q < M + q → 2 * (q * (4 * G)) < 2 * halves n r + 4 * G
  half_under l = go q refl
    where
      big : (p : ℕ) → q ≡ suc p → (p * p + p + 1) * (G * G) ≤ M * (G * G) → (2 * p + 1) * G * ((2 * p + 1) * G) < n
      big p g a = let s = square in omega arith

      less : (p : ℕ) → q ≡ suc p → p * p + p + 1 ≤ M
      less p g = let k : suc p * suc p < M + suc p = subst (λ (z : ℕ). z * z < M + z) g l in omega arith

      wide : (p a : ℕ) → 2 * ((2 * p + 1) * G) < a → 2 * (suc p * (4 * G)) < 2 * a + 4 * G
      wide p a k = omega arith

      none : (a : ℕ) → 2 * (0 * (4 * G)) < 2 * a + 4 * G
      none a = let g = G_pos in omega arith

      go : (z : ℕ) → q ≡ z → 2 * (z * (4 * G)) < 2 * halves n r + 4 * G
      go zero g = none (halves n r)
      go (suc p) g = wide p (halves n r) (over n r ((2 * p + 1) * G) h (big p g (mul-le-mul_right (G * G) (less p g))))

-- where M has 2 * k + 1 or 2 * k + 2 digits the root has k + 1: from K = 2 ^ k to below 2 * K
module _ (n M G K r : ℕ) (G_pos : 0 < G) (e : n ≡ M * (2 * G * (2 * G))) (h : RootIs n r) where
  pub digits_from : K * K ≤ M → K * (4 * G) ≤ halves n r
  digits_from l = wide (halves n r) (from_below n r (K * (2 * G)) h (big (mul-le-mul_right (G * G) l)))
    where
      big : K * K * (G * G) ≤ M * (G * G) → K * (2 * G) * (K * (2 * G)) ≤ n
      big a = omega arith

      wide : (a : ℕ) → 2 * (K * (2 * G)) ≤ a → K * (4 * G) ≤ a
      wide a k = omega arith

  pub digits_under : M < K * K → halves n r < K * (4 * G)
  digits_under l = wide (halves n r) (under n r (K * (2 * G)) h (big (mul-lt-mul_of_pos_right l (mul-pos G_pos G_pos))))
    where
      big : M * (G * G) < K * K * (G * G) → n < K * (2 * G) * (K * (2 * G))
      big a = omega arith

      wide : (a : ℕ) → a < 2 * (K * (2 * G)) → a < K * (4 * G)
      wide a k = omega arith
