-- A polynomial's value by Horner's rule, over the list of its coefficients and in either format. Each operation is rounded once.
use Rattle.std.specs.Prelude.{List, [], ◌∷◌, Float}
use Rattle.std.specs.Float.{Format}
use Rattle.std.specs.Float.Ieee.{of_bits, add, mul}

-- No coefficient: +0. One: that coefficient. More: the first plus x times the value of the rest.
unfoldable pub horner_s : Format → List Float → Float → Float
horner_s f [] x = of_bits f 0
horner_s f (c ∷ []) x = c
horner_s f (c ∷ (d ∷ cs)) x = add f c (mul f x (horner_s f (d ∷ cs) x))
