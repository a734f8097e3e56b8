-- The table of names as the code has it, and what it tells of a kind.
use Rattle.std.specs.Prelude.{ℕ, ◌≡◌, List, [], ◌∷◌, Option, Some, None, if◌then◌else◌}
use Rattle.words.specs.Tests.{◌=?◌}
use Rattle.text.specs.Names.{Name}
use Rattle.text.specs.Line.{head_of}
use Rattle.text.specs.declared.names.Row.{Row}

-- the rows are those of a table: each has the head and the kind of its name
abbrev pub Rows : List Row → List Name → Type 0
Rows [] [] = Unit {0}
Rows [] (n ∷ N) = ⊥
Rows (r ∷ R) [] = ⊥
Rows (r ∷ R) (n ∷ N) = (r.head.now ≡ head_of n) × ((r.kind ≡ n.kind) × Rows R N)

-- the head of a kind's line, where the kind has a name
unfoldable pub head_for : List Name → ℕ → Option (List ℕ)
head_for [] k = None
head_for (n ∷ ns) k = if k =? n.kind then Some (head_of n) else head_for ns k
