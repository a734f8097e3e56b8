-- Sums of an exponent n, an i32, and a number that a format gives: where they fit, and on which side of a bound they lie. Assumes nothing.
use Prim.Native.Nat.{ℕ, suc, ◌-◌, ◌^◌, ◌≤◌, ◌<◌}
use native.Mathlib.Omega.{arith}
use mathlib.Core.Path.{◌≡◌, refl, sym, ap, ◌∙◌, subst}
use mathlib.Core.Bool.{Bool, true, false}
use lib.Dec.{T, ltb}
use lib.IntN.{ℤ, pos, negsuc, sub_ℕ, ◌+ℤ◌}
use lib.Signed.{lt_z}
use mir.Syntax.{w32}
use mir.Val.{SFits, to_z, of_z}
use mir.ValLaws.{to_z-of_z}
use borrow.Author.Tests.{lt-ltb, le-ltb, ltb-true, ltb-false}

-- what a local i32 holds that was given z
abbrev pub local : ℤ → ℤ
local z = to_z w32 (of_z w32 z)

-- and one that was given the sum of such a local and a number
pub held_sum : (z k : ℤ) → SFits w32 z → SFits w32 (z +ℤ k) → local (local z +ℤ k) ≡ z +ℤ k
held_sum z k f g = ap (λ (v : ℤ). local (v +ℤ k)) (to_z-of_z w32 z f) ∙ to_z-of_z w32 (z +ℤ k) g

-- from b on the difference of two natural numbers is the natural one
pub sub_above : (a b : ℕ) → b ≤ a → sub_ℕ a b ≡ pos (a - b)
sub_above a b h = simp (le-ltb a b h)

sub_below : (a b : ℕ) → a < b → sub_ℕ a b ≡ negsuc (b - suc a)
sub_below a b h = simp (lt-ltb a b h)

-- the difference of two numbers below 2 ^ 31, or a number up to it, fits
sub_fits : (a b : ℕ) → a < 2 ^ 31 → b ≤ 2 ^ 31 → SFits w32 (sub_ℕ a b)
sub_fits a b h k = go (ltb a b) refl
  where
    go : (t : Bool) → ltb a b ≡ t → SFits w32 (sub_ℕ a b)
    go true e = rw (sub_below a b (ltb-true a b e)) (record { sfits = omega (arith, ltb-true a b e) })
    go false e = rw (sub_above a b (ltb-false a b e)) (record { sfits = omega arith })

-- n - M, for an n above M = K + 1, is a natural number
module _ (K : ℕ) where
  -- it fits
  pub less_fits : (n : ℤ) → SFits w32 n → lt_z (pos (suc K)) n ≡ true → SFits w32 (n +ℤ negsuc K)
  less_fits (pos m) f t = rw (sub_above m (suc K) (omega (arith, ltb-true (suc K) m t))) (record { sfits = omega (arith, f.sfits) })
  less_fits (negsuc m) f t = absurd (subst T (sym t) tt)

  -- and is not below 0
  pub less_above : (j : ℕ) (n : ℤ) → lt_z (pos (suc K)) n ≡ true → lt_z (n +ℤ negsuc K) (negsuc j) ≡ false
  less_above j (pos m) t = rw (sub_above m (suc K) (omega (arith, ltb-true (suc K) m t))) refl
  less_above j (negsuc m) t = absurd (subst T (sym t) tt)

-- n + A, for an n below 0, is below A
module _ (K A : ℕ) where
  -- it fits
  pub more_fits : (n : ℤ) → A < 2 ^ 31 → SFits w32 n → lt_z n (negsuc K) ≡ true → SFits w32 (n +ℤ pos A)
  more_fits (pos m) h f t = absurd (subst T (sym t) tt)
  more_fits (negsuc m) h f t = sub_fits A (suc m) h f.sfits

  -- and is not above any M from A on
  pub more_below : (M : ℕ) (n : ℤ) → A ≤ M → lt_z n (negsuc K) ≡ true → lt_z (pos M) (n +ℤ pos A) ≡ false
  more_below M (pos m) h t = absurd (subst T (sym t) tt)
  more_below M (negsuc m) h t = go (ltb A (suc m)) refl
    where
      go : (b : Bool) → ltb A (suc m) ≡ b → lt_z (pos M) (sub_ℕ A (suc m)) ≡ false
      go true e = rw (sub_below A (suc m) (ltb-true _ _ e)) refl
      go false e = rw (sub_above A (suc m) (ltb-false _ _ e)) (le-ltb M (A - suc m) (omega arith))
