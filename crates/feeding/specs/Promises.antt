-- What a feed promises, over a table T in which no answer is longer than L. proofs/Promised has a proof of each, for every table and every L.
use Rattle.std.specs.Prelude.{ℕ, ◌+◌, ◌-◌, ◌≤◌, ◌<◌, ◌≡◌, true, false, ◌⊎◌, List, [], ◌∷◌, ◌++◌, length, drop}
use Rattle.records.specs.declared.Code.TheVariants.{Done, Unknown, Cut, Full}
use Rattle.records.specs.Row.{Row}
use Rattle.records.specs.Run.{Out, stop, one, run}
use Rattle.feeding.specs.Feed.{State, Open, Stopped, begun, Call, ends, goes, call, over, close}
use Rattle.feeding.specs.Host.{Offer, host, Piece, stream, line, again, Through, Longest, Roomy, offering}

-- a feed that calls can leave: it has stopped, or holds the start of a record
abbrev pub Good : List Row → State → Type 0
Good T (Open h) = begun T h ≡ true
Good T Stopped = Unit

-- The start of a record is no bytes, or bytes that a batch finds cut.
abbrev pub Starts : List Row → Type 0
Starts T =
    (h : List ℕ) (room : ℕ) →
    (begun T h ≡ true → (h ≡ []) ⊎ (one T h room ≡ stop Cut)) × ((h ≡ []) ⊎ (one T h room ≡ stop Cut) → begun T h ≡ true)

-- A call takes no more than the piece, writes no more than the room, and leaves such a feed.
abbrev pub Within : List Row → Type 0
Within T =
    (f : State) (p : List ℕ) (room : ℕ) → Good T f →
    let c = call T f p room in
    (c.taken ≤ length p) × ((length c.bytes ≤ room) × Good T c.feed)

-- Why a call ended: the piece is used up; or h is held, and a batch refuses h with the next byte behind it, in the room that is left: for its kind,
-- and the feed has stopped; or for want of room, and it holds h.
pub data Ended (T : List Row) (p : List ℕ) (room : ℕ) (c : Call) : Type 0 where
  used_up : c.code ≡ Done → c.taken ≡ length p → Ended T p room c
  unknown : (h q : List ℕ) (b : ℕ) → drop c.taken p ≡ b ∷ q → one T (h ++ (b ∷ [])) (room - length c.bytes) ≡ stop Unknown → c.code ≡ Unknown → c.feed ≡ Stopped → Ended T p room c
  no_room : (h q : List ℕ) (b : ℕ) → drop c.taken p ≡ b ∷ q → one T (h ++ (b ∷ [])) (room - length c.bytes) ≡ stop Full → c.code ≡ Full → c.feed ≡ Open h → Ended T p room c

-- A call goes on until then, unless the feed has stopped before.
abbrev pub Ends : List Row → Type 0
Ends T = (h p : List ℕ) (room : ℕ) → begun T h ≡ true → Ended T p room (call T (Open h) p room)

-- calls that did r, and then the call that closes, did what a batch did: the answers in a row, and the code
pub record Same (T : List Row) (r : Call) (o : Out) : Type 0 where
  pub answers : r.bytes ≡ o.bytes
  pub code : (close T r.feed).code ≡ o.code

-- The same answers. Every stream, offered in any way, with room for the longest answer at each call and calls enough, is answered as by a batch
-- that has room for all. A call is enough for each byte; those that offer none do not count.
abbrev pub SameAnswers : List Row → ℕ → Type 0
SameAnswers T L =
    Longest T L → (s : List ℕ) (os : List Offer) → Roomy L os → length s ≤ offering os →
    (room : ℕ) → ((run T s room).code ≡ Full → ⊥) → Same T (host T (Open []) s os) (run T s room)

-- The same by pieces: any pieces, empty ones too, with any rooms, and what is left at the end offered again with room for the longest answer.
abbrev pub SamePieces : List Row → ℕ → Type 0
SamePieces T L =
    Longest T L → (ps : List Piece) (n more : ℕ) → L ≤ more → length (stream ps) ≤ n →
    (room : ℕ) → ((run T (stream ps) room).code ≡ Full → ⊥) → Same T (line T (Open []) [] (ps ++ again n more)) (run T (stream ps) room)

-- And whatever the rooms were: once all is taken, or the feed has stopped.
abbrev pub SameOnceDone : List Row → Type 0
SameOnceDone T =
    (s : List ℕ) (os : List Offer) → Through s (host T (Open []) s os) →
    (room : ℕ) → ((run T s room).code ≡ Full → ⊥) → Same T (host T (Open []) s os) (run T s room)

-- Progress. With that room a call on a piece that is not empty takes a byte, or stops on an unknown kind.
abbrev pub Progress : List Row → ℕ → Type 0
Progress T L =
    Longest T L → (f : State) (b : ℕ) (p : List ℕ) (room : ℕ) → L ≤ room →
    (0 < (call T f (b ∷ p) room).taken) ⊎ (call T f (b ∷ p) room ≡ ends Stopped Unknown)

-- A feed that has stopped stays so, takes nothing, writes nothing, and answers 1 to every call and to the one that closes it.
abbrev pub StaysStopped : List Row → Type 0
StaysStopped T =
    ((p : List ℕ) (room : ℕ) → call T Stopped p room ≡ ends Stopped Unknown)
    × (close T Stopped ≡ record { feed = Stopped; code = Unknown })

-- One that holds no start of a record is as one that has stopped.
abbrev pub NoStart : List Row → Type 0
NoStart T =
    (h : List ℕ) → begun T h ≡ false →
    ((p : List ℕ) (room : ℕ) → call T (Open h) p room ≡ call T Stopped p room) × (close T (Open h) ≡ close T Stopped)

-- Any other answers 0 to an empty piece, whatever the room; and closing it gives back an empty feed, and 0 or 2.
abbrev pub OthersClose : List Row → Type 0
OthersClose T =
    (h : List ℕ) → begun T h ≡ true →
    ((room : ℕ) → call T (Open h) [] room ≡ ends (Open h) Done) × (close T (Open h) ≡ record { feed = Open []; code = over h })

-- What a call took and wrote stands, also after a 3: the same call with more room is that call, and then another on what it left.
abbrev pub GoesOn : List Row → Type 0
GoesOn T =
    (f : State) (p : List ℕ) (room more : ℕ) →
    let c = call T f p room in
    call T f p (room + more) ≡ goes c.taken c.bytes (call T c.feed (drop c.taken p) (room + more - length c.bytes))
