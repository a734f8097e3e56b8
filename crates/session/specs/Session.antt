-- A program that reads, writes and goes on, as a definition over its decisions and all that the outside does. Over any program of that form.
use Rattle.std.specs.Prelude.{Bool, true, false, List, [], ◌∷◌, ◌++◌, ◌⊎◌, ℕ, ◌+◌, ◌≤◌, ◌<◌, length, Option, None, Some}
use Rattle.decide.specs.Decide.{after_s}
use Rattle.decide.specs.declared.Next.{Next}
use Rattle.decide.specs.declared.Next.TheVariants.{Go, Close, Break}

-- what a read brought: bytes, no byte at all being the end of the input; or a failure
pub data Heard : Type 0 where
  brought : List ℕ → Heard
  failed : Heard

-- what the read returned: how many bytes, or none of that where it failed
abbrev pub returned : Heard → Option ℕ
returned (brought p) = Some (length p)
returned failed = None

abbrev pub piece : Heard → List ℕ
piece (brought p) = p
piece failed = []

-- What the outside does in a turn: a read, and whether the write took all that it was handed.
pub record Event : Type 0 where
  pub heard : Heard
  pub sent : Bool

-- What a program does in a turn: the bytes that it hands to write, a stop code, and the bytes that it carries over to the next turn.
pub record Turn : Type 0 where
  pub bytes : List ℕ
  pub code : ℕ
  pub left : List ℕ

-- A program: its turn, over the bytes carried over and what the read brought; and what it writes at the end, by the code.
pub record Program : Type 0 where
  pub turn : List ℕ → Heard → Turn
  pub closing : ℕ → List ℕ

abbrev pub turn_of : Program → List ℕ → Event → Turn
turn_of P rest e = P.turn rest e.heard

abbrev pub next_of : Program → List ℕ → Event → Next
next_of P rest e = after_s (returned e.heard) (turn_of P rest e).code (length (turn_of P rest e).left) e.sent

-- All bytes that are handed to write, in their order, and the code of the end, if there is one.
pub record Said : Type 0 where
  pub bytes : List ℕ
  pub code : Option ℕ

-- what a turn says that sent the bytes x, and then what the later turns say
abbrev pub says : Program → Next → List ℕ → Said → Said
says P (Go kept) x later = record { bytes = x ++ later.bytes; code = later.code }
says P (Close code) x later = record { bytes = x ++ P.closing code; code = Some code }
says P Break x later = record { bytes = x; code = None }

-- The program from the bytes carried over on. It ends with no code where the turns are used up.
unfoldable pub session : Program → List ℕ → List Event → Said
session P rest [] = record { bytes = []; code = None }
session P rest (e ∷ es) = says P (next_of P rest e) (turn_of P rest e).bytes (session P (turn_of P rest e).left es)

-- it stops here, or later
abbrev pub StopsOr : Next → Type 0 → Type 0
StopsOr (Go kept) later = later
StopsOr (Close code) later = Unit
StopsOr Break later = Unit

-- Among these events is one at which the program stops.
unfoldable pub Stops : Program → List ℕ → List Event → Type 0
Stops P rest [] = ⊥
Stops P rest (e ∷ es) = StopsOr (next_of P rest e) (Stops P (turn_of P rest e).left es)

-- a turn in which neither fails
abbrev pub came : List ℕ → Event
came p = record { heard = brought p; sent = true }

-- An input that comes in such pieces, where no read and no write fails: an event a piece, and the end of the input.
abbrev pub delivered : List (List ℕ) → List Event
delivered [] = came [] ∷ []
delivered (p ∷ ps) = came p ∷ delivered ps

-- The same before it has ended.
abbrev pub arriving : List (List ℕ) → List Event
arriving [] = []
arriving (p ∷ ps) = came p ∷ arriving ps

-- no piece is empty: a read of no byte is the end
abbrev pub NoneEmpty : List (List ℕ) → Type 0
NoneEmpty [] = Unit
NoneEmpty (p ∷ ps) = (0 < length p) × NoneEmpty ps

-- a read or a write fails in one of these events
abbrev pub FailsIn : Heard → Bool → Type 0
FailsIn failed sent = Unit
FailsIn (brought p) true = ⊥
FailsIn (brought p) false = Unit

abbrev pub Failing : List Event → Type 0
Failing [] = ⊥
Failing (e ∷ es) = FailsIn e.heard e.sent ⊎ Failing es

-- what is carried over and what a read brings are together of at most so many bytes
abbrev pub Fits : Program → ℕ → List ℕ → List Event → Type 0
Fits P size rest [] = Unit
Fits P size rest (e ∷ es) = (length rest + length (piece e.heard) ≤ size) × Fits P size (turn_of P rest e).left es
