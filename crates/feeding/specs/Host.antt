-- What a host does with a feed, over any table of kinds: call by call it offers as much as it likes of the bytes that were not yet taken.
use Rattle.std.specs.Prelude.{ℕ, zero, suc, ◌≤◌, ◌≡◌, ◌⊎◌, List, [], ◌∷◌, ◌++◌, length, take, drop}
use Rattle.records.specs.declared.Code.TheVariants.{Done}
use Rattle.records.specs.Reply.{bytes_of}
use Rattle.records.specs.Row.{Row, row_in}
use Rattle.feeding.specs.Feed.{State, Stopped, Call, ends, goes, call}

-- A call to come: the first `size` bytes of those that were not yet taken (all, where there are fewer), and room for so many bytes.
pub record Offer : Type 0 where
  pub size : ℕ
  pub room : ℕ

-- Some calls in turn on a stream s: the last feed, how many bytes were taken in all, and the answers in a row. Each call begins where the one
-- before it ceased to take, so that what that one left is offered again.
unfoldable pub host : List Row → State → List ℕ → List Offer → Call
host T f s [] = ends f Done
host T f s (o ∷ os) =
    let c = call T f (take o.size s) o.room in
    goes c.taken c.bytes (host T c.feed (drop c.taken s) os)

-- The same told by pieces: each stands behind what was left of those before it, and an empty one offers only that again.
pub record Piece : Type 0 where
  pub bytes : List ℕ
  pub room : ℕ

abbrev pub stream : List Piece → List ℕ
stream [] = []
stream (p ∷ ps) = p.bytes ++ stream ps

unfoldable pub line : List Row → State → List ℕ → List Piece → Call
line T f left [] = ends f Done
line T f left (p ∷ ps) =
    let offered = left ++ p.bytes in
    let c = call T f offered p.room in
    goes c.taken c.bytes (line T c.feed (drop c.taken offered) ps)

-- what is left, offered again so many times
abbrev pub again : ℕ → ℕ → List Piece
again zero room = []
again (suc n) room = record { bytes = []; room = room } ∷ again n room

-- all of s was taken, or the feed has stopped
abbrev pub Through : List ℕ → Call → Type 0
Through s r = (r.taken ≡ length s) ⊎ (r.feed ≡ Stopped)

-- no answer is longer than L
abbrev pub Longest : List Row → ℕ → Type 0
Longest T L = (k b : ℕ) → ((row_in T k).width ≡ 0 → ⊥) → length (bytes_of ((row_in T k).reply b)) ≤ L

-- each call has room for so many bytes
abbrev pub Roomy : ℕ → List Offer → Type 0
Roomy L [] = Unit
Roomy L (o ∷ os) = (L ≤ o.room) × Roomy L os

-- how many of the calls offer a byte, where there is one
abbrev pub counted : ℕ → ℕ → ℕ
counted zero n = n
counted (suc k) n = suc n

abbrev pub offering : List Offer → ℕ
offering [] = 0
offering (o ∷ os) = counted o.size (offering os)
