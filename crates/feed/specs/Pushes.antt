-- Pushes in turn, each on the feed that the one before handed back, and what they promise together.
use Rattle.std.specs.Prelude.{◌≡◌, List, [], ◌∷◌, ◌++◌, ℕ, ◌≤◌, ◌<◌, length, take, drop}
use Rattle.kinds.specs.Kinds.{longest_answer}
use Rattle.records.specs.declared.Code.TheVariants.{Full}
use Rattle.records.specs.Run.{run}
use Rattle.replies.specs.Table.{table}
use Rattle.feeding.specs.Feed.{Open, call}
use Rattle.feeding.specs.Host.{Offer, Roomy, offering}
use Rattle.feed.specs.Fields.{meant, fields}
use Rattle.feed.specs.Post.{close_s}
use Rattle.feed.specs.declared.Feed.{Feed}

-- a list of bytes
abbrev pub Bytes : List ℕ → Type 0
Bytes [] = Unit
Bytes (b ∷ s) = (b < 256) × Bytes s

-- the feed in the end, and the answers in a row
pub record Pushes : Type 0 where
  pub feed : Feed
  pub answers : List ℕ

-- each push offers a front of what was not yet taken, with room for so many bytes
unfoldable pub pushes : Feed → List ℕ → List Offer → Pushes
pushes f s [] = record { feed = f; answers = [] }
pushes f s (o ∷ os) =
    let c = call table (meant f) (take o.size s) o.room in
    let rest = pushes (fields c.feed) (drop c.taken s) os in
    record { feed = rest.feed; answers = c.bytes ++ rest.answers }

-- A stream of bytes that is pushed in any pieces, with room for the longest answer at each push and pushes enough, is answered as by a batch that
-- has room for all: the answers in a row, and the code of closing.
abbrev pub PushedAsBatch : Type 0
PushedAsBatch =
    (s : List ℕ) → Bytes s → (os : List Offer) → Roomy longest_answer os → length s ≤ offering os →
    (room : ℕ) → ((run table s room).code ≡ Full → ⊥) →
    let r = pushes (fields (Open [])) s os in
    (r.answers ≡ (run table s room).bytes) × ((close_s r.feed).code ≡ (run table s room).code)
