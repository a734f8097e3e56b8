-- What every step of a run keeps to.
use Rattle.std.specs.Prelude.{◌≡◌, ℕ, ◌≤◌, ◌<◌, List, [], length}
use Rattle.records.specs.Tally.{nothing}
use Rattle.records.specs.Run.{Out}

-- a record counts nothing and writes nothing, or takes one byte at least, of those that are there, and writes within the room
pub record Sound (s : List ℕ) (room : ℕ) (o : Out) : Type 0 where
  pub stops : o.tally.records ≡ 0 → (o.tally ≡ nothing) × (o.bytes ≡ [])
  pub goes : (o.tally.records ≡ 0 → ⊥) → (o.tally.records ≡ 1) × ((0 < o.tally.read) × (o.tally.read ≤ length s))
  pub fits : o.tally.written ≤ room
  pub counts : o.tally.written ≡ length o.bytes

-- a step all of whose outcomes are so
abbrev pub Lawful : (List ℕ → ℕ → Out) → Type 0
Lawful S = (s : List ℕ) (room : ℕ) → Sound s room (S s room)
