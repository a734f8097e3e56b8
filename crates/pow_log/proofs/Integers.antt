-- The signed numbers of `pow`: differences of small naturals, as i32 locals hold them. Assumes nothing.
use Prim.Native.Nat.{ℕ, zero, suc, ◌+◌, ◌-◌, ◌≤◌, ◌<◌}
use mathlib.Core.Path.{◌≡◌, sym, ap, ◌∙◌, subst}
use mathlib.Core.Bool.{Bool, true, false, cond}
use native.Mathlib.Omega.{arith}
use lib.Dec.{ltb}
use lib.IntN.{ℤ, pos, negsuc, neg_ℤ, ◌+ℤ◌, ◌-ℤ◌, +ℤ_assoc, +ℤ_comm, +ℤ_idl, -ℤ-+ℤ_cancel}
use lib.Signed.{mag}
use mir.Syntax.{w32}
use mir.Val.{SFits, to_z, of_z}
use mir.ValLaws.{to_z-of_z}
use borrow.Author.Tests.{lt-ltb}

-- a u32 below 2 ^ 31, as an i32
pub small : (n : ℕ) → n < 0x80000000 → to_z w32 n ≡ pos n
small n h = simp (lt-ltb n 0x80000000 h)

mag_sub : (a b : ℕ) (t : Bool) → mag (cond t (negsuc (b - suc a)) (pos (a - b))) ≤ a + b
mag_sub a b true = omega arith
mag_sub a b false = omega arith

mag_difference : (a b : ℕ) → mag (pos a -ℤ pos b) ≤ a + b
mag_difference a zero = omega arith
mag_difference a (suc b) = mag_sub a (suc b) (ltb a (suc b))

module _ (a b : ℕ) (h : a ≤ 0x200000) (k : b ≤ 0x200000) where
  difference : to_z w32 a -ℤ to_z w32 b ≡ pos a -ℤ pos b
  difference = simp (lt-ltb a 0x80000000 (omega arith), lt-ltb b 0x80000000 (omega arith))

  pub fits_difference : SFits w32 (to_z w32 a -ℤ to_z w32 b)
  fits_difference =
      subst (λ (z : ℤ). SFits w32 z) (sym difference) (record { sfits = omega (arith, mag_difference a b) })

  -- a - b, worked out in i32
  pub held_difference : to_z w32 (of_z w32 (to_z w32 a -ℤ to_z w32 b)) ≡ pos a -ℤ pos b
  held_difference = to_z-of_z w32 _ fits_difference ∙ difference

-- (a - b) + (e - a) and (e - b) + 1
pub through : (a b e : ℤ) → (a -ℤ b) +ℤ (e -ℤ a) ≡ e -ℤ b
through a b e =
    +ℤ_comm (a -ℤ b) (e -ℤ a) ∙ sym (+ℤ_assoc (e -ℤ a) a (neg_ℤ b)) ∙ ap (λ (z : ℤ). z -ℤ b) (-ℤ-+ℤ_cancel e a)

pub one_more : (e : ℕ) (b : ℤ) → (pos e -ℤ b) +ℤ pos 1 ≡ pos (e + 1) -ℤ b
one_more e b =
    +ℤ_assoc (pos e) (neg_ℤ b) (pos 1) ∙ ap (λ (z : ℤ). pos e +ℤ z) (+ℤ_comm (neg_ℤ b) (pos 1)) ∙ sym (+ℤ_assoc (pos e) (pos 1) (neg_ℤ b))

pub less_than_zero : (n : ℕ) → pos 0 -ℤ pos n ≡ neg_ℤ (pos n)
less_than_zero n = +ℤ_idl (neg_ℤ (pos n))
