-- Calls in turn by a host in C, and what they promise together. The host keeps the feed's 32 bytes, and reads in them what a call took and wrote.
use Rattle.std.specs.Prelude.{◌≡◌, List, [], ◌∷◌, ◌++◌, map, ℕ, zero, suc, ◌^◌, ◌≤◌, ◌<◌, length, take, drop}
use Rattle.digits.specs.Digits.{word}
use Rattle.kinds.specs.Kinds.{longest_answer}
use Rattle.records.specs.Codes.{number_s}
use Rattle.records.specs.declared.Code.TheVariants.{Full}
use Rattle.records.specs.Run.{run}
use Rattle.replies.specs.Table.{table}
use Rattle.feeding.specs.Host.{Offer, offering}
use Rattle.feed.specs.Pushes.{Bytes}
use Rattle.entries.specs.Feed.{push_bytes_s, close_bytes_s}

-- so many zero bytes: a feed that is empty
abbrev pub zeros : ℕ → List ℕ
zeros zero = []
zeros (suc n) = 0 ∷ zeros n

-- A call to come: the first `size` bytes of those that were not yet taken, and an answer buffer with whatever stands in it.
pub record Lent : Type 0 where
  pub size : ℕ
  pub buffer : List ℕ

-- the feed's bytes in the end, and the answers in a row
pub record Turns : Type 0 where
  pub feed : List ℕ
  pub answers : List ℕ

unfoldable pub turns : List ℕ → List ℕ → List Lent → Turns
turns feed s [] = record { feed = feed; answers = [] }
turns feed s (l ∷ ls) =
    let c = push_bytes_s feed (take l.size s) l.buffer in
    let taken = word 8 (drop 16 c.feed) in
    let written = word 8 (drop 24 c.feed) in
    let rest = turns c.feed (drop taken s) ls in
    record { feed = rest.feed; answers = take written c.answers ++ rest.answers }

-- each buffer has room for the longest answer, and a length of 64 bits
abbrev pub Lendable : List Lent → Type 0
Lendable [] = Unit
Lendable (l ∷ ls) = ((longest_answer ≤ length l.buffer) × (length l.buffer < 256 ^ 8)) × Lendable ls

abbrev pub offer : Lent → Offer
offer l = record { size = l.size; room = length l.buffer }

-- A stream of bytes that a host in C feeds in any pieces, from 32 zero bytes on, with room for the longest answer at each call and calls enough, is
-- answered as by a batch that has room for all: the answers in a row, and the code of closing.
abbrev pub FedAsBatch : Type 0
FedAsBatch =
    (s : List ℕ) → Bytes s → length s < 256 ^ 8 → (ls : List Lent) → Lendable ls → length s ≤ offering (map offer ls) →
    (room : ℕ) → ((run table s room).code ≡ Full → ⊥) →
    let r = turns (zeros 32) s ls in
    (r.answers ≡ (run table s room).bytes) × ((close_bytes_s r.feed).code ≡ number_s (run table s room).code)
