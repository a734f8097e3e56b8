-- Horner's rule by the length of the list, in either format and over any type of numbers: what each return of `horner` gives. Assumes nothing.
use mathlib.Core.Path.{◌≡◌, refl, ap, ◌∙◌}
use mathlib.Core.List.{List, [], ◌∷◌}
use Prim.Native.Nat.{◌<◌, ◌-◌}
use native.Mathlib.Omega.{arith}
use lib.ListN.{length, get_or, take, drop}
use Rattle.std.specs.Prelude.{map}
use lib.Ieee.{Float, Format, of_bits, add, mul}
use borrow.Author.Rules.{part_to_end}
use Rattle.poly.specs.Horner.{horner_s}

module _ {A : Type 0} (float : A → Float) (f : Format) where
  pub none : (l : List A) (x : Float) → length l ≡ 0 → of_bits f 0 ≡ horner_s f (map float l) x
  unfolding horner_s
  none [] x h = refl
  none (c ∷ cs) x h = absurd (omega (arith, h))

  pub one : (l : List A) (c : A) (x : Float) → length l ≡ 1 → c ≡ get_or l 0 c → float c ≡ horner_s f (map float l) x
  unfolding horner_s
  one [] c x h e = absurd (omega (arith, h))
  one (a ∷ []) c x h e = ap float e
  one (a ∷ (b ∷ cs)) c x h e = absurd (omega (arith, h))

  -- r is the value of the list behind its first coefficient c
  pub more :
      (l : List A) (c : A) (x r m s : Float) → 1 < length l → c ≡ get_or l 0 c
      → r ≡ horner_s f (map float (take (length l - 1) (drop 1 l))) x → m ≡ mul f x r → s ≡ add f (float c) m → s ≡ horner_s f (map float l) x
  unfolding horner_s
  more [] c x r m s h e u v w = absurd (omega (arith, h))
  more (a ∷ []) c x r m s h e u v w = absurd (omega (arith, h))
  more (a ∷ (b ∷ cs)) c x r m s h e u v w =
      w ∙ ap (λ (z : A). add f (float z) m) e ∙ ap (add f (float a)) v
      ∙ ap (λ (z : Float). add f (float a) (mul f x z)) (u ∙ ap (λ (l : List A). horner_s f (map float l) x) (part_to_end (a ∷ (b ∷ cs)) 1))
