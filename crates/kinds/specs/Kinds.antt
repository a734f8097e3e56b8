-- The kinds that there are, a row each: the kind, the bytes of its body, the bytes of each value in its answer, the tail. kinds.txt at the top
-- of the repository has the same rows, with the functions' names.
use Rattle.std.specs.Prelude.{ℕ, List, [], ◌∷◌}
use Rattle.kinds.specs.Shape.{Shape, shape, sign, shape_in}

unfoldable pub shapes : List Shape
shapes =
    shape 1 8 (8 ∷ []) []
    ∷ shape 2 8 (8 ∷ []) (sign ∷ [])
    ∷ shape 3 8 (8 ∷ []) []
    ∷ shape 4 8 (8 ∷ []) []
    ∷ shape 7 8 (8 ∷ 8 ∷ []) []
    ∷ shape 17 4 (4 ∷ []) (sign ∷ [])
    ∷ shape 18 4 (4 ∷ []) []
    ∷ shape 19 4 (4 ∷ []) []
    ∷ shape 20 4 (4 ∷ []) []
    ∷ []

abbrev pub shape_of : ℕ → Shape
shape_of k = shape_in shapes k

-- the bytes of the longest answer
abbrev pub longest_answer : ℕ
longest_answer = 17
