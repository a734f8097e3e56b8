-- Each promise of specs/Line, for both formats. Assumes nothing.
use mathlib.Core.Path.{◌≡◌, refl, sym, ap, ◌∙◌}
use mathlib.Core.Bool.{Bool, true, false, ◌||◌, or_comm}
use mathlib.Core.Logic.{◌⊎◌, inl, inr}
use Prim.Native.Nat.{ℕ, ◌+◌, ◌-◌, ◌≤◌}
use native.Mathlib.Omega.{arith}
use borrow.Author.Tests.{ltb-true, ltb-false}
use lib.Dec.{ltb}
use lib.IntN.{ℤ, pos, nat_abs, ◌+ℤ◌, ◌-ℤ◌}
use lib.Ieee.{Format, binary32, binary64, nan_bits, of_bits}
use Rattle.words.specs.Pick.{pick}
use Rattle.distance.specs.Distance.{place_s, distance_s, code_of, steps_of}
use Rattle.distance.specs.Line.{Number, Steps, AtZero, PastLargest, InOrder, NextPlace, RefusesNan, CountsSteps, ZeroForSame, EitherOrder, NoShortcut}
use Rattle.std.specs.Prelude.{Option, None, Some}
use Rattle.distance.proofs.Shift.{size_is, size_turned, size_through, shift_difference, shift_eq, eq_shift, shift_plus, shift_less}
use Rattle.distance.proofs.PlaceCode.{distance_is}
use Rattle.distance.proofs.PlaceLaws.{middle, rank, rank_is, lt_rank, rank_eq, eq_rank}
use Rattle.distance.proofs.LineLaws.{next_rank, rank_next, largest_next, steps_rank, rank_steps}

pub at_zero : (f : Format) → AtZero f
unfolding place_s
at_zero binary32 = (refl, refl)
at_zero binary64 = (refl, refl)

module _ (f : Format) where
  pub past_largest : PastLargest f
  past_largest = largest_next f

  same_rank : (a b : ℕ) → place_s f a ≡ place_s f b → rank f a ≡ rank f b
  same_rank a b = shift_eq middle (rank f a) (rank f b) (place_s f a) (place_s f b) (rank_is f a) (rank_is f b)

  same_place : (a b : ℕ) → rank f a ≡ rank f b → place_s f a ≡ place_s f b
  same_place a b = eq_shift middle (rank f a) (rank f b) (place_s f a) (place_s f b) (rank_is f a) (rank_is f b)

  pub in_order : InOrder f
  in_order a b A B = (
    lt_rank f a b A B ∙ sym (shift_less middle (rank f a) (rank f b) (place_s f a) (place_s f b) (rank_is f a) (rank_is f b)),
    (λ h. same_place a b (eq_rank f a b A B h), λ h. rank_eq f a b A B (same_rank a b h)),
  )

  pub next_place : NextPlace f
  next_place a b A B = (
    λ h. eq_shift middle (rank f b) (rank f a + 1) (place_s f b) (place_s f a +ℤ pos 1) (rank_is f b)
        (shift_plus middle (rank f a) 1 (place_s f a) (rank_is f a)) (next_rank f a b A B h),
    λ h. rank_next f a b A B (shift_eq middle (rank f b) (rank f a + 1) (place_s f b) (place_s f a +ℤ pos 1) (rank_is f b)
        (shift_plus middle (rank f a) 1 (place_s f a) (rank_is f a)) h),
  )

  -- ---- the distance of numbers
  far : (a b : ℕ) → Number f a → Number f b → distance_s f a b ≡ Some (nat_abs (place_s f a -ℤ place_s f b))
  far a b A B = distance_is f a b ∙ rw (A, B)

  far_rank : (a b : ℕ) → Number f a → Number f b → distance_s f a b ≡ Some ((rank f a - rank f b) + (rank f b - rank f a))
  far_rank a b A B =
      far a b A B
      ∙ ap (λ (z : ℤ). Some (nat_abs z)) (sym (shift_difference middle (rank f a) (rank f b) (place_s f a) (place_s f b) (rank_is f a) (rank_is f b)))
      ∙ ap (λ (n : ℕ). Some n) (size_is (rank f a) (rank f b))

  none : (a b : ℕ) → nan_bits f a || nan_bits f b ≡ true → distance_s f a b ≡ None
  none a b h = distance_is f a b ∙ rw h

  pub refuses_nan : RefusesNan f
  refuses_nan a b = (
    λ h. (none a b h, ap code_of (none a b h), ap steps_of (none a b h)),
    λ A B. (far a b A B ∙ ap (λ (d : Option ℕ). Some (steps_of d)) (sym (far a b A B)), ap code_of (far a b A B)),
  )

  -- so many steps, where the ranks differ by as many
  pub counts_steps : CountsSteps f
  counts_steps a b n A B = (λ e. up (ap steps_of (sym (far_rank a b A B) ∙ e)) (ltb (rank f b) (rank f a)) refl, λ s. far_rank a b A B ∙ ap (λ (m : ℕ). Some m) (down s))
    where
      up : (rank f a - rank f b) + (rank f b - rank f a) ≡ n → (t : Bool) → ltb (rank f b) (rank f a) ≡ t
          → Steps f n (of_bits f a) (of_bits f b) ⊎ Steps f n (of_bits f b) (of_bits f a)
      up e false h = let l = ltb-false (rank f b) (rank f a) h in inl (rank_steps f n a b A B (omega arith))
      up e true h = let l = ltb-true (rank f b) (rank f a) h in inr (rank_steps f n b a B A (omega arith))

      down : Steps f n (of_bits f a) (of_bits f b) ⊎ Steps f n (of_bits f b) (of_bits f a) → (rank f a - rank f b) + (rank f b - rank f a) ≡ n
      down (inl s) = omega (arith, steps_rank f n a b A B s)
      down (inr s) = omega (arith, steps_rank f n b a B A s)

  pub zero_for_same : ZeroForSame f
  zero_for_same a b A B = (
    λ e. let d : (rank f a - rank f b) + (rank f b - rank f a) ≡ 0 = ap steps_of (sym (far_rank a b A B) ∙ e) in same_place a b (omega arith),
    λ e. let r = same_rank a b e in far_rank a b A B ∙ ap (λ (m : ℕ). Some m) (omega arith),
  )

  pub either_order : EitherOrder f
  either_order a b =
      distance_is f a b
      ∙ ap (λ (t : Bool). pick t None (Some (nat_abs (place_s f a -ℤ place_s f b)))) (or_comm (nan_bits f a) (nan_bits f b))
      ∙ ap (λ (d : ℕ). pick (nan_bits f b || nan_bits f a) None (Some d)) (size_turned (place_s f a) (place_s f b))
      ∙ sym (distance_is f b a)

  pub no_shortcut : NoShortcut f
  no_shortcut a b c B = go (nan_bits f a) (nan_bits f c) refl refl
    where
      go : (s t : Bool) → nan_bits f a ≡ s → nan_bits f c ≡ t → steps_of (distance_s f a c) ≤ steps_of (distance_s f a b) + steps_of (distance_s f b c)
      go true t h k = omega (arith, ap steps_of (none a c (rw h)))
      go false true h k = omega (arith, ap steps_of (none a c (rw (h, k))))
      go false false h k =
          rw (far a c h k, far a b h B, far b c B k) (size_through (place_s f a) (place_s f b) (place_s f c))
