-- Whole numbers with a sign, by what a shift makes of them: u is p + K. Their order, their sums and the sizes of their differences are then those of
-- natural numbers. Assumes nothing.
use mathlib.Core.Path.{◌≡◌, refl, sym, ap, ◌∙◌}
use mathlib.Core.Bool.{Bool, true, false, cond}
use Prim.Native.Nat.{ℕ, zero, suc, ◌+◌, ◌-◌, ◌≤◌, ◌<◌}
use native.Mathlib.Omega.{arith}
use borrow.Author.Tests.{ltb-true, ltb-false, lt-ltb, le-ltb}
use lib.Dec.{ltb}
use lib.IntN.{ℤ, pos, negsuc, neg_ℤ, nat_abs, ◌+ℤ◌, ◌-ℤ◌, pos-ne-negsuc}
use lib.IntN.{+ℤ_assoc, +ℤ_comm, neg_ℤ-+ℤ, neg_ℤ-neg_ℤ, +ℤ-neg_ℤ_cancel, -ℤ-+ℤ_cancel}
use lib.Signed.{lt_z}
use Rattle.words.specs.Pick.{pick}

-- ---- sizes

-- the size of a difference: one of the two is zero
pub size_is : (u v : ℕ) → nat_abs (pos u -ℤ pos v) ≡ (u - v) + (v - u)
size_is u zero = omega arith
size_is u (suc v) = go (ltb u (suc v)) refl
  where
    go : (t : Bool) → ltb u (suc v) ≡ t → nat_abs (cond t (negsuc (suc v - suc u)) (pos (u - suc v))) ≡ (u - suc v) + (suc v - u)
    go true h = let l = ltb-true u (suc v) h in omega arith
    go false h = let l = ltb-false u (suc v) h in omega arith

size_neg : (z : ℤ) → nat_abs (neg_ℤ z) ≡ nat_abs z
size_neg (pos zero) = refl
size_neg (pos (suc n)) = refl
size_neg (negsuc n) = refl

-- a difference the other way round has the same size
pub size_turned : (p q : ℤ) → nat_abs (p -ℤ q) ≡ nat_abs (q -ℤ p)
size_turned p q =
    sym (size_neg (p -ℤ q))
    ∙ ap nat_abs (neg_ℤ-+ℤ p (neg_ℤ q) ∙ ap (λ (z : ℤ). neg_ℤ p +ℤ z) (neg_ℤ-neg_ℤ q) ∙ +ℤ_comm (neg_ℤ p) q)

-- the size of a sum is at most the sum of the sizes
size_sum : (x y : ℤ) → nat_abs (x +ℤ y) ≤ nat_abs x + nat_abs y
size_sum (pos a) (pos b) = omega arith
size_sum (pos a) (negsuc b) = omega (arith, size_is a (suc b))
size_sum (negsuc a) (pos b) = omega (arith, size_is b (suc a))
size_sum (negsuc a) (negsuc b) = omega arith

-- by way of a third
pub size_through : (p q r : ℤ) → nat_abs (p -ℤ r) ≤ nat_abs (p -ℤ q) + nat_abs (q -ℤ r)
size_through p q r = rw (sym through) (size_sum (p -ℤ q) (q -ℤ r))
  where
    through : (p -ℤ q) +ℤ (q -ℤ r) ≡ p -ℤ r
    through = sym (+ℤ_assoc (p -ℤ q) q (neg_ℤ r)) ∙ ap (λ (z : ℤ). z -ℤ r) (-ℤ-+ℤ_cancel p q)

-- ---- a shift

-- ±n, shifted by a K from n on
pub shift : (K n : ℕ) (minus : Bool) → n ≤ K → pos (pick minus (K - n) (K + n)) ≡ pick minus (neg_ℤ (pos n)) (pos n) +ℤ pos K
shift K n false h = ap pos (omega arith)
shift K zero true h = ap pos (omega arith)
shift K (suc n) true h = rw (le-ltb K (suc n) h)

pos_eq : {u v : ℕ} → pos u ≡ pos v → u ≡ v
pos_eq e = ap nat_abs e

-- a whole number below zero that is shifted to u
lowered : (K u a : ℕ) → pos u ≡ negsuc a +ℤ pos K → u + suc a ≡ K
lowered K u a e = go (ltb K (suc a)) refl
  where
    go : (t : Bool) → ltb K (suc a) ≡ t → u + suc a ≡ K
    go true h = absurd (pos-ne-negsuc u (suc a - suc K) (e ∙ rw h))
    go false h = let l = ltb-false K (suc a) h in let d : u ≡ K - suc a = pos_eq (e ∙ rw h) in omega arith

same_order : (a b u v : ℕ) → (a < b → u < v) → (u < v → a < b) → ltb a b ≡ ltb u v
same_order a b u v h k = go (ltb u v) refl
  where
    go : (t : Bool) → ltb u v ≡ t → ltb a b ≡ t
    go true e = lt-ltb a b (k (ltb-true u v e))
    go false e = let l = ltb-false u v e in le-ltb a b (not_less (λ (x : a < b). clash (h x) l))
      where
        not_less : (a < b → ⊥) → b ≤ a
        not_less n = omega arith

        clash : u < v → v ≤ u → ⊥
        clash x y = omega arith

module _ (K u v : ℕ) (p q : ℤ) (U : pos u ≡ p +ℤ pos K) (W : pos v ≡ q +ℤ pos K) where
  unshifted : pos u -ℤ pos K ≡ p
  unshifted = ap (λ (z : ℤ). z -ℤ pos K) U ∙ +ℤ-neg_ℤ_cancel p (pos K)

  -- the differences are the same
  pub shift_difference : pos u -ℤ pos v ≡ p -ℤ q
  shift_difference =
      ap (λ (z : ℤ). pos u +ℤ neg_ℤ z) W
      ∙ ap (λ (z : ℤ). pos u +ℤ z) (neg_ℤ-+ℤ q (pos K) ∙ +ℤ_comm (neg_ℤ q) (neg_ℤ (pos K)))
      ∙ sym (+ℤ_assoc (pos u) (neg_ℤ (pos K)) (neg_ℤ q))
      ∙ ap (λ (z : ℤ). z -ℤ q) unshifted

  pub shift_eq : p ≡ q → u ≡ v
  shift_eq e = pos_eq (U ∙ ap (λ (z : ℤ). z +ℤ pos K) e ∙ sym W)

  pub eq_shift : u ≡ v → p ≡ q
  eq_shift e = sym unshifted ∙ ap (λ (n : ℕ). pos n -ℤ pos K) e ∙ ap (λ (z : ℤ). z -ℤ pos K) W ∙ +ℤ-neg_ℤ_cancel q (pos K)

-- n more
pub shift_plus : (K u n : ℕ) (p : ℤ) → pos u ≡ p +ℤ pos K → pos (u + n) ≡ (p +ℤ pos n) +ℤ pos K
shift_plus K u n p U =
    ap (λ (z : ℤ). z +ℤ pos n) U ∙ +ℤ_assoc p (pos K) (pos n) ∙ ap (λ (z : ℤ). p +ℤ z) (+ℤ_comm (pos K) (pos n)) ∙ sym (+ℤ_assoc p (pos n) (pos K))

-- the order is the same
pub shift_less : (K u v : ℕ) (p q : ℤ) → pos u ≡ p +ℤ pos K → pos v ≡ q +ℤ pos K → lt_z p q ≡ ltb u v
shift_less K u v (pos a) (pos b) U W =
    let x = pos_eq U in let y = pos_eq W in same_order a b u v (λ h. omega arith) (λ h. omega arith)
shift_less K u v (pos a) (negsuc b) U W = let x = pos_eq U in let y = lowered K v b W in sym (le-ltb u v (omega arith))
shift_less K u v (negsuc a) (pos b) U W = let x = lowered K u a U in let y = pos_eq W in sym (lt-ltb u v (omega arith))
shift_less K u v (negsuc a) (negsuc b) U W =
    let x = lowered K u a U in let y = lowered K v b W in same_order b a u v (λ h. omega arith) (λ h. omega arith)
