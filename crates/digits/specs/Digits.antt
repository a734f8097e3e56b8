-- Numbers as bytes, the lowest first, at any width. A byte that is not there counts as 0.
use Rattle.std.specs.Prelude.{ℕ, zero, suc, ◌+◌, ◌*◌, ◌/◌, ◌%◌, List, [], ◌∷◌, get_or, drop}

-- the w lowest bytes of x
unfoldable pub digits : ℕ → ℕ → List ℕ
digits zero x = []
digits (suc w) x = x % 256 ∷ digits w (x / 256)

-- the number that the first w bytes of s make
unfoldable pub word : ℕ → List ℕ → ℕ
word zero s = 0
word (suc w) s = get_or s 0 0 + 256 * word w (drop 1 s)
