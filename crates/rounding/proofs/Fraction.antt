-- Each operation on finite values as the rounding of one signed fraction, whatever the signs:
--   `sum_is`, `add_is`, `add-fraction`: of the sum, whose parts above and below zero are those of the operands added up;
--   `sub_is`: a difference is the sum with the negative; `mul_is`, `div_is`: of the product and of the quotient;
--   `mul_commutes`: a product does not depend on the order of its factors, infinities and NaN included.
-- Assumes nothing.
use mathlib.Core.Path.{◌≡◌, refl, ap, ◌∙◌}
use Prim.Native.Nat.{ℕ, ◌+◌, ◌-◌, ◌*◌, ◌≤◌, ◌<◌}
use native.Mathlib.Nat.{mul_comm}
use native.Mathlib.Omega.{arith}
use mathlib.Core.Bool.{Bool, true, false, not, ◌&&◌, cond}
use lib.IntN.{ℤ}
use lib.Dec.{T, ltb, eqb, eqb→eq, ltb→lt, nltb→le, not_T}
use lib.Ieee.{Float, nan, inf, fin, Format, up, down, unlike, round, neg, sum, add, mul, sub, div}
use lib.Ieee.Bits.{cond_no}
use Rattle.rounding.proofs.Signed.{P, N, P-mul, N-mul}

-- ---- the sign of a product

-- the sign of a product with a value that carries no minus sign
pub unlike_false : (s : Bool) → unlike s false ≡ s
unlike_false false = refl
unlike_false true = refl

-- the sign of a product does not depend on the order of its factors
pub unlike_comm : (s t : Bool) → unlike s t ≡ unlike t s
unlike_comm false false = refl
unlike_comm false true = refl
unlike_comm true false = refl
unlike_comm true true = refl

-- ---- sums

-- ±a / c + ±b / c is the rounding of a ±q / c that is their sum
abbrev pub SumIs : Format → Bool → ℕ → Bool → ℕ → ℕ → Type 0
SumIs f s a t b c = (u : Bool) × (q : ℕ) × (sum f s a t b c ≡ round f u q c) × (P u q + (N s a + N t b) ≡ N u q + (P s a + P t b))

-- the sum of two fractions with one denominator is the rounding of one signed fraction
pub sum_is : (f : Format) (s : Bool) (a : ℕ) (t : Bool) (b c : ℕ) → SumIs f s a t b c
unfolding sum
sum_is f false a false b c = (false, a + b, refl, omega arith)
sum_is f true a true b c = (true, a + b, refl, omega arith)
sum_is f false a true b c = go (ltb a b) (ltb→lt a b) (nltb→le a b)
  where
    go : (w : Bool) → (T w → a < b) → (T (not w) → b ≤ a)
        → (u : Bool) × (q : ℕ) × (cond w (round f true (b - a) c) (round f false (a - b) c) ≡ round f u q c)
        × (P u q + (0 + b) ≡ N u q + (a + 0))
    go true h k = let l = h tt in (true, b - a, refl, omega arith)
    go false h k = let l = k tt in (false, a - b, refl, omega arith)
sum_is f true a false b c = go (ltb a b) (ltb→lt a b) (nltb→le a b) (ltb b a) (nltb→le b a)
  where
    go : (w : Bool) → (T w → a < b) → (T (not w) → b ≤ a) → (v : Bool) → (T (not v) → a ≤ b)
        → (u : Bool) × (q : ℕ) × (cond w (round f false (b - a) c) (round f (true && v) (a - b) c) ≡ round f u q c)
        × (P u q + (a + 0) ≡ N u q + (0 + b))
    go true h k v j = let l = h tt in (false, b - a, refl, omega arith)
    go false h k true j = let l = k tt in (true, a - b, refl, omega arith)
    go false h k false j = let l = k tt in let r = j tt in (false, a - b, refl, omega arith)

-- a sum of finite values, over the product of their denominators
pub add_is : (f : Format) (s : Bool) (m : ℕ) (e : ℤ) (t : Bool) (n : ℕ) (d : ℤ)
    → add f (fin s m e) (fin t n d) ≡ sum f s (m * up e * down d) t (n * up d * down e) (down e * down d)
unfolding add
add_is f s m e t n d = refl

-- a sum of finite values is the rounding of one signed fraction
pub add_fraction : (f : Format) (s : Bool) (m : ℕ) (e : ℤ) (t : Bool) (n : ℕ) (d : ℤ)
    → (u : Bool) × (q : ℕ) × (add f (fin s m e) (fin t n d) ≡ round f u q (down e * down d))
    × (P u q + (N s (m * up e) * down d + N t (n * up d) * down e) ≡ N u q + (P s (m * up e) * down d + P t (n * up d) * down e))
add_fraction f s m e t n d =
    let S = sum_is f s (m * up e * down d) t (n * up d * down e) (down e * down d) in (
      S.0,
      S.1,
      add_is f s m e t n d ∙ S.2,
      rw (P-mul s (m * up e) (down d), P-mul t (n * up d) (down e), N-mul s (m * up e) (down d), N-mul t (n * up d) (down e)) at S.3,
    )

-- a difference is the sum with the negative
pub sub_is : (f : Format) (x y : Float) → sub f x y ≡ add f x (neg y)
unfolding sub
sub_is f x y = refl

-- ---- products

-- a product of finite values is the rounding of the product of their fractions
pub mul_is : (f : Format) (s : Bool) (m : ℕ) (e : ℤ) (t : Bool) (n : ℕ) (d : ℤ)
    → mul f (fin s m e) (fin t n d) ≡ round f (unlike s t) (m * up e * (n * up d)) (down e * down d)
unfolding mul
mul_is f s m e t n d = refl

-- a product does not depend on the order of its factors
pub mul_commutes : (f : Format) (x y : Float) → mul f x y ≡ mul f y x
unfolding mul
mul_commutes f nan nan = refl
mul_commutes f nan (inf t) = refl
mul_commutes f nan (fin t n d) = refl
mul_commutes f (inf s) nan = refl
mul_commutes f (inf s) (inf t) = ap inf (unlike_comm s t)
mul_commutes f (inf s) (fin t n d) = ap (λ (b : Bool). cond (eqb n 0) nan (inf b)) (unlike_comm s t)
mul_commutes f (fin s m e) nan = refl
mul_commutes f (fin s m e) (inf t) = ap (λ (b : Bool). cond (eqb m 0) nan (inf b)) (unlike_comm s t)
mul_commutes f (fin s m e) (fin t n d) =
    ap (λ (b : Bool). round f b (m * up e * (n * up d)) (down e * down d)) (unlike_comm s t)
    ∙ ap (λ (a : ℕ). round f (unlike t s) a (down e * down d)) (mul_comm (m * up e) (n * up d))
    ∙ ap (λ (a : ℕ). round f (unlike t s) (n * up d * (m * up e)) a) (mul_comm (down e) (down d))

-- ---- quotients

-- a quotient of finite values, by one that is not zero, is the rounding of the quotient of their fractions
pub div_is : (f : Format) (s : Bool) (m : ℕ) (e : ℤ) (t : Bool) (n : ℕ) (d : ℤ) → 0 < n
    → div f (fin s m e) (fin t n d) ≡ round f (unlike s t) (m * up e * down d) (down e * (n * up d))
unfolding div
div_is f s m e t n d h =
    cond_no (eqb n 0) (cond (eqb m 0) nan (inf (unlike s t))) (round f (unlike s t) (m * up e * down d) (n * up d * down e))
    (not_T (eqb n 0) (λ (u : T (eqb n 0)). not_zero n h (eqb→eq n 0 u)))
    ∙ ap (λ (a : ℕ). round f (unlike s t) (m * up e * down d) a) (mul_comm (n * up d) (down e))
  where
    not_zero : (n : ℕ) → 0 < n → n ≡ 0 → ⊥
    not_zero n h e = omega arith
