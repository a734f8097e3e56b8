-- How many bytes a call moves.
use Rattle.std.specs.Prelude.{◌≡◌, ℕ, ◌≤◌, List, length, take, Option, IfSome}

-- what a call that is handed n bytes may answer: how many of them it moved, or none of that where it failed
abbrev pub Moved : ℕ → Option ℕ → Type 0
Moved n got = IfSome got (λ k. k ≤ n)

-- so many bytes of the list are a front of it
abbrev pub IsPrefixLen : ℕ → List ℕ → Type 0
IsPrefixLen n s = (n ≤ length s) × (n ≡ length (take n s))
