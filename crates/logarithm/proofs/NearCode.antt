-- What `near` works out, step by step, and the definition, over the plan. Assumes nothing.
use mathlib.Core.Path.{◌≡◌, refl}
use lib.IntN.{ℤ}
use lib.Ieee.{Float, of_int, add, sub, mul, div}
use mir.Syntax.{w32}
use mir.Val.{SFits}
use mir.ValLaws.{to_z-of_z}
use Rattle.poly.specs.Horner.{horner_s}
use Rattle.logarithm.proofs.Exponents.{held}
use Rattle.logarithm.specs.Plan.{Plan, near_s}

module _ (p : Plan) where
  pub sum_is :
      (x : Float) (k : ℤ) → SFits w32 k
      → (one : Float) → one ≡ p.1·0 → (f : Float) → f ≡ sub p.format x one
      → (two : Float) → two ≡ p.2·0 → (d : Float) → d ≡ add p.format two f → (s : Float) → s ≡ div p.format f d
      → (z : Float) → z ≡ mul p.format s s → (w : Float) → w ≡ mul p.format z z
      → (odd : Float) → odd ≡ horner_s p.format p.LG_odd w → (t2 : Float) → t2 ≡ mul p.format z odd
      → (even : Float) → even ≡ horner_s p.format p.LG_even w → (t1 : Float) → t1 ≡ mul p.format w even
      → (r : Float) → r ≡ add p.format t2 t1
      → (half : Float) → half ≡ p.0·5 → (h : Float) → h ≡ mul p.format half f → (hfsq : Float) → hfsq ≡ mul p.format h f
      → (dk : Float) → dk ≡ of_int p.format (held k)
      → (a : Float) → a ≡ add p.format hfsq r → (b : Float) → b ≡ mul p.format s a → (lo : Float) → lo ≡ mul p.format dk p.LN2_LO
      → (c : Float) → c ≡ add p.format b lo → (e : Float) → e ≡ sub p.format c hfsq → (g : Float) → g ≡ add p.format e f
      → (hi : Float) → hi ≡ mul p.format dk p.LN2_HI → (y : Float) → y ≡ add p.format g hi → y ≡ near_s p x k
  unfolding near_s
  sum_is x k F one i₁ f i₂ two i₃ d i₄ s i₅ z i₆ w i₇ odd i₈ t2 i₉ even j₁ t1 j₂ r j₃ half j₄ h j₅ hfsq j₆ dk j₇ a j₈ b j₉ lo k₁ c k₂ e k₃ g k₄ hi k₅ y k₆ =
      rw (k₆, k₅, k₄, k₃, k₂, k₁, j₉, j₈, j₇, j₆, j₅, j₄, j₃, j₂, j₁, i₉, i₈, i₇, i₆, i₅, i₄, i₃, i₂, i₁, to_z-of_z w32 k F) refl
