-- Horner's rule as an expression, over the format, so that intervals bound it: `hornerE` has for its value horner_s of the value of its variable
-- (`horner-is`). Assumes nothing.
use mathlib.Core.Path.{◌≡◌, refl, ap}
use mathlib.Core.List.{List, [], ◌∷◌}
use lib.Ieee.{Float, Format, add, mul, of_bits}
use Rattle.rounding.proofs.Range.{Expr, con, plus, times, eval}
use Rattle.poly.specs.Horner.{horner_s}

unfoldable pub horner_e : Format → List Float → Expr → Expr
horner_e f [] z = con (of_bits f 0)
horner_e f (c ∷ []) z = con c
horner_e f (c ∷ (d ∷ cs)) z = plus (con c) (times z (horner_e f (d ∷ cs) z))

pub horner_is : (f : Format) (c : List Float) (z : Expr) (ρ : List Float) → eval f ρ (horner_e f c z) ≡ horner_s f c (eval f ρ z)
unfolding horner_e horner_s eval
horner_is f [] z ρ = refl
horner_is f (c ∷ []) z ρ = refl
horner_is f (c ∷ (d ∷ cs)) z ρ = ap (λ (v : Float). add f c (mul f (eval f ρ z) v)) (horner_is f (d ∷ cs) z ρ)
