-- What a feed does, over any table of kinds: one call, and the call that closes it.
use Rattle.std.specs.Prelude.{ℕ, ◌+◌, ◌-◌, Bool, true, List, [], ◌∷◌, ◌++◌, length, if◌then◌else◌}
use Rattle.words.specs.Tests.{◌<?◌}
use Rattle.records.specs.Row.{Row, row_in}
use Rattle.records.specs.declared.Code.{Code}
use Rattle.records.specs.declared.Code.TheVariants.{Done, Unknown, Cut, Full}
use Rattle.records.specs.Run.{Out, one}

-- A feed is open, and holds the bytes of a record that has begun, or none; or an unknown kind has stopped it.
pub data State : Type 0 where
  Open : List ℕ → State
  Stopped : State

-- the start of a record: no bytes, or a known kind and less than its body
unfoldable pub begun : List Row → List ℕ → Bool
begun T [] = true
begun T (k ∷ s) = length s <? (row_in T k).width

-- What a call leaves: the next feed, how many bytes of the piece it took, the bytes that it wrote, and a code.
pub record Call : Type 0 where
  pub feed : State
  pub taken : ℕ
  pub bytes : List ℕ
  pub code : Code

-- the call ends here, for the reason of a code
abbrev pub ends : State → Code → Call
ends f c = record { feed = f; taken = 0; bytes = []; code = c }

-- n bytes taken and x written, and then what the rest of the call does
abbrev pub goes : ℕ → List ℕ → Call → Call
goes n x c = record { feed = c.feed; taken = n + c.taken; bytes = x ++ c.bytes; code = c.code }

-- The next byte, where h is held, by what a batch says of h with that byte behind it: a code, and the answer x. An unknown kind is not taken, and stops the feed. A byte
-- before a record's last is taken and held, and the call goes on (held). The last one is not taken where the answer has no room; else it is
-- taken, the answer is written, nothing is held, and the call goes on (answered).
abbrev pub turn : Code → List ℕ → List ℕ → Call → Call → Call
turn Unknown h x held answered = ends Stopped Unknown
turn Cut h x held answered = goes 1 [] held
turn Full h x held answered = ends (Open h) Full
turn Done h x held answered = goes 1 x answered

-- the bytes of a piece in turn, where h is held
unfoldable pub takes : List Row → List ℕ → List ℕ → ℕ → Call
takes T h [] room = ends (Open h) Done
takes T h (b ∷ p) room =
    let s = h ++ (b ∷ []) in
    let o = one T s room in
    turn o.code h o.bytes (takes T s p room) (takes T [] p (room - o.tally.written))

-- One call, with a piece and room for so many bytes. A feed that holds no start of a record is as one that was stopped.
unfoldable pub call : List Row → State → List ℕ → ℕ → Call
call T (Open h) p room = if begun T h then takes T h p room else ends Stopped Unknown
call T Stopped p room = ends Stopped Unknown

-- What closing leaves.
pub record Close : Type 0 where
  pub feed : State
  pub code : Code

-- 2 where a record has begun, 0 where none has
abbrev pub over : List ℕ → Code
over [] = Done
over (b ∷ s) = Cut

unfoldable pub close : List Row → State → Close
close T (Open h) = if begun T h then record { feed = Open []; code = over h } else record { feed = Stopped; code = Unknown }
close T Stopped = record { feed = Stopped; code = Unknown }
