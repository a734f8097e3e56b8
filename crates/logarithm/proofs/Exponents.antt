-- A small number and the exponent of a field are small together, so their sum is an i32. Assumes nothing.
use Prim.Native.Nat.{ℕ, zero, suc, ◌+◌, ◌-◌, ◌^◌, ◌<◌, ◌≤◌}
use native.Mathlib.Omega.{arith}
use mathlib.Core.Path.{◌≡◌, refl, sym, ap, ◌∙◌, subst}
use mathlib.Core.Bool.{Bool, true, false, cond}
use lib.Dec.{ltb}
use lib.IntN.{ℤ, pos, negsuc, nat_abs, sub_ℕ, ◌+ℤ◌, ◌-ℤ◌}
use borrow.Author.Tests.{ltb-true}
use mir.Syntax.{w32}
use mir.Val.{SFits, to_z, of_z}
use mir.ValLaws.{to_z_pos, to_z-of_z}

difference_size : (a b : ℕ) → nat_abs (sub_ℕ a b) ≤ a + b
difference_size a b = go (ltb a b) refl
  where
    go : (t : Bool) → ltb a b ≡ t → nat_abs (cond t (negsuc (b - suc a)) (pos (a - b))) ≤ a + b
    go true e = omega (arith, ltb-true a b e)
    go false e = omega arith

sum_size : (a b : ℤ) → nat_abs (a +ℤ b) ≤ nat_abs a + nat_abs b
sum_size (pos a) (pos b) = omega arith
sum_size (pos a) (negsuc b) = difference_size a (suc b)
sum_size (negsuc a) (pos b) = omega (arith, difference_size b (suc a))
sum_size (negsuc a) (negsuc b) = omega arith

field_size : (e b : ℕ) → nat_abs (pos e -ℤ pos b) ≤ e + b
field_size e zero = omega arith
field_size e (suc b) = difference_size e (suc b)

sum_small : (e b : ℕ) → e < 8192 → b < 8192 → (k : ℤ) → nat_abs k < 64 → nat_abs (k +ℤ (pos e -ℤ pos b)) < 2 ^ 24
sum_small e b h i k s = omega (arith, s, h, i, sum_size k (pos e -ℤ pos b), field_size e b)

small_fits : (z : ℤ) → nat_abs z < 2 ^ 31 → SFits w32 z
small_fits (pos n) h = record { sfits = h }
small_fits (negsuc n) h = record { sfits = omega (arith, h) }

-- a whole number, as an i32 holds it
abbrev pub held : ℤ → ℤ
held z = to_z w32 (of_z w32 z)

-- the exponent of the field e, where 1's field is b
abbrev power : ℕ → ℕ → ℤ
power e b = to_z w32 e -ℤ to_z w32 b

module _ (e b : ℕ) (h : e < 8192) (i : b < 8192) where
  power_is : power e b ≡ pos e -ℤ pos b
  power_is =
      ap (λ (z : ℤ). z -ℤ to_z w32 b) (to_z_pos w32 e (omega (arith, h)))
      ∙ ap (λ (z : ℤ). pos e -ℤ z) (to_z_pos w32 b (omega (arith, i)))

  pub power_fits : SFits w32 (power e b)
  power_fits =
      subst (SFits w32) (sym power_is) (small_fits (pos e -ℤ pos b) (omega (arith, h, i, field_size e b)))

  module _ (k : ℤ) (f : SFits w32 k) where
    sum_is : held k +ℤ held (power e b) ≡ k +ℤ (pos e -ℤ pos b)
    sum_is =
        ap (λ (z : ℤ). z +ℤ held (power e b)) (to_z-of_z w32 k f)
        ∙ ap (λ (z : ℤ). k +ℤ z) (to_z-of_z w32 (power e b) power_fits ∙ power_is)

    pub sum_fits : nat_abs k < 64 → SFits w32 (held k +ℤ held (power e b))
    sum_fits s =
        subst (SFits w32) (sym sum_is) (small_fits (k +ℤ (pos e -ℤ pos b)) (omega (arith, sum_small e b h i k s)))

    pub sum_held : nat_abs k < 64 → held (held k +ℤ held (power e b)) ≡ k +ℤ (pos e -ℤ pos b)
    sum_held s = to_z-of_z w32 (held k +ℤ held (power e b)) (sum_fits s) ∙ sum_is
