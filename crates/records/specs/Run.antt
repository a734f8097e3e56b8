-- What a run does: by any step, and a batch by a table of kinds.
use Rattle.std.specs.Prelude.{ℕ, zero, suc, ◌+◌, ◌-◌, List, [], ◌∷◌, ◌++◌, length, drop, if◌then◌else◌}
use Rattle.words.specs.Tests.{◌<?◌, ◌=?◌}
use Rattle.digits.specs.Digits.{word}
use Rattle.records.specs.Reply.{bytes_of}
use Rattle.records.specs.Row.{Row, row_in}
use Rattle.records.specs.declared.Code.{Code}
use Rattle.records.specs.declared.Code.TheVariants.{Done, Unknown, Cut, Full}
use Rattle.records.specs.Tally.{nothing, ◌⊞◌}
use Rattle.records.specs.declared.Tally.{Tally}

-- What a run reports, with the bytes that it wrote.
pub record Out : Type 0 where
  pub code : Code
  pub tally : Tally
  pub bytes : List ℕ

-- nothing done, for the reason of a code
abbrev pub stop : Code → Out
stop c = record { code = c; tally = nothing; bytes = [] }

-- an item of 1 + w bytes, a record with a body of w or a line, for which x is written
abbrev pub took : ℕ → List ℕ → Out
took w x = record { code = Done; tally = record { records = 1; read = 1 + w; written = length x }; bytes = x }

-- one thing done and then another
abbrev pub ahead : Out → Out → Out
ahead a b = record { code = b.code; tally = a.tally ⊞ b.tally; bytes = a.bytes ++ b.bytes }

-- the tests in their order: a body of w bytes where `left` are there, an answer x where there is room for `room`
abbrev pub choose : ℕ → ℕ → ℕ → List ℕ → Out
choose w left room x =
    if w =? 0 then stop Unknown else
    if left <? w then stop Cut else
    if room <? length x then stop Full else
    took w x

-- a record whose kind has row r, over the bytes s behind the kind
abbrev pub known : Row → List ℕ → ℕ → Out
known r s room = choose r.width (length s) room (bytes_of (r.reply (word r.width s)))

-- the record at the front of s
unfoldable pub one : List Row → List ℕ → ℕ → Out
one T [] room = stop Done
one T (k ∷ s) room = known (row_in T k) s room

-- an item and, where it was taken, the rest
abbrev pub next : ℕ → Out → Out → Out
next zero o rest = o
next (suc n) o rest = ahead o rest

-- at most n items (records, or lines), by a step that takes the first of them or stops
unfoldable pub steps_by : (List ℕ → ℕ → Out) → ℕ → List ℕ → ℕ → Out
steps_by S zero s room = stop Done
steps_by S (suc n) s room =
    let o = S s room in
    next o.tally.records o (steps_by S n (drop o.tally.read s) (room - o.tally.written))

-- all of them, by a step that takes a byte at least with each
unfoldable pub run_by : (List ℕ → ℕ → Out) → List ℕ → ℕ → Out
run_by S s room = steps_by S (suc (length s)) s room

-- all records, by a table
abbrev pub run : List Row → List ℕ → ℕ → Out
run T s room = run_by (one T) s room
