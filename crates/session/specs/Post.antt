-- What a loop of turns promises: there are events, of which no contract can say more, and the code is what the definition gives for them. Of the
-- bytes that are sent only that is promised which a program's own calls of write ask for.
use Rattle.std.specs.Prelude.{◌≡◌, Bool, List, [], ◌⊎◌, ℕ, ◌+◌, ◌-◌, ◌^◌, ◌≤◌, length, take, Option}
use Rattle.decide.specs.Decide.{end_s}
use Rattle.decide.specs.declared.Next.{Next}
use Rattle.decide.specs.declared.Next.TheVariants.{Go}
use Rattle.session.specs.Session.{Event, piece, Program, turn_of, next_of, session, Stops, Fits}

-- one turn, with the bytes carried over in rest; b is the buffer that carries afterwards
pub record Passed (P : Program) (size : ℕ) (rest : List ℕ) (r : Next) (b : List ℕ) : Type 0 where
  pub event : Event
  pub fits : length rest + length (piece event.heard) ≤ size
  pub next : r ≡ next_of P rest event
  pub carried : take (length (turn_of P rest event).left) b ≡ (turn_of P rest event).left

-- one turn, after which, where it goes on, so many bytes are carried over
pub record Took (P : Program) (size : ℕ) (rest : List ℕ) (r : Next) (later : List ℕ) : Type 0 where
  pub buffer : List ℕ
  pub passed : Passed P size rest r buffer
  pub carried : (kept : ℕ) → r ≡ Go kept → later ≡ take kept buffer

-- it goes on until it is told to stop: only after 2 ^ 64 - 1 turns it ends by itself
abbrev pub Full : Program → List Event → Type 0
Full P es = Stops P [] es ⊎ (length es ≡ 2 ^ 64 - 1)

-- all turns
pub record Ran (P : Program) (size : ℕ) (r : Option ℕ) : Type 0 where
  pub events : List Event
  pub fits : Fits P size [] events
  pub full : Full P events
  pub code : r ≡ (session P [] events).code

-- the program; closed: the closing bytes were taken
pub record Served (P : Program) (size : ℕ) (r : Option ℕ) : Type 0 where
  pub events : List Event
  pub fits : Fits P size [] events
  pub full : Full P events
  pub closed : Bool
  pub result : r ≡ end_s (session P [] events).code closed
