-- Whether x has a fraction:
--   `fraction_at`: ±d / w has one exactly where w does not divide d;
--   `whole_test`: of a number x, the test x == floor(x) holds exactly where it has none;
--   `fraction_nan`: a NaN has none;
--   `own_floor`: what is its own floor has none.
-- Assumes nothing.
use mathlib.Core.Path.{◌≡◌, refl, sym, ap, ◌∙◌}
use mathlib.Core.Logic.{inl, inr}
use mathlib.Core.Bool.{Bool, true, false, not}
use Prim.Native.Nat.{ℕ, ◌*◌, ◌%◌, ◌<◌}
use native.Mathlib.Nat.{eq-zero-or-pos}
use native.Mathlib.Omega.{arith}
use lib.Dec.{T, eqb}
use lib.Ieee.{Float, nan, inf, fin, Format, up, down, is_nan, eq, fits}
use lib.Ieee.Exact.{HasValue}
use lib.Ieee.Fits.{down_pos}
use borrow.Author.Tests.{eq-eqb, ne_eqb}
use Rattle.floor.specs.Floor.{floor_s}
use Rattle.floor.proofs.FloorValues.{rest_same, floor_inf, floor_own, floor_same, floor_differs, floor_whole}
use Rattle.whole.specs.Whole.{has_fraction_s}

pub fraction_at : (x : Float) (s : Bool) (d w : ℕ) → 0 < w → HasValue x s d w → has_fraction_s x ≡ not (eqb (d % w) 0)
unfolding has_fraction_s
fraction_at nan s d w W v = elim v [ ]
fraction_at (inf _) s d w W v = elim v [ ]
fraction_at (fin t m e) s d w W v = ap not (rest_same (m * up e) (down e) d w (down_pos e) W v.1)

inf_itself : (s : Bool) → eq (inf s) (inf s) ≡ true
unfolding eq
inf_itself true = refl
inf_itself false = refl

pub whole_test : (f : Format) (x : Float) → T (fits f x) → T (not (is_nan x)) → eq x (floor_s f x) ≡ not (has_fraction_s x)
unfolding has_fraction_s
whole_test f nan F n = absurd (unfold is_nan in n)
whole_test f (inf s) F n = rw (floor_inf f s) (inf_itself s)
whole_test f (fin s m e) F n =
    elim (eq-zero-or-pos (m * up e % down e)) [
      | inl z ↦ floor_same f s m e z ∙ sym (ap (λ (b : Bool). not (not b)) (eq-eqb (m * up e % down e) 0 z))
      | inr p ↦
          let some : m * up e % down e ≡ 0 → ⊥ = λ z. omega arith in
          floor_differs f s m e F some ∙ sym (ap (λ (b : Bool). not (not b)) (ne_eqb (m * up e % down e) 0 some))
    ]

pub fraction_nan : has_fraction_s nan ≡ false
unfolding has_fraction_s
fraction_nan = refl

pub own_floor : (f : Format) (x : Float) → T (fits f x) → x ≡ floor_s f x → has_fraction_s x ≡ false
unfolding has_fraction_s
own_floor f nan F h = refl
own_floor f (inf s) F h = refl
own_floor f (fin s m e) F h = ap not (eq-eqb (m * up e % down e) 0 (floor_whole f s m e F (floor_own f s m e h)))
