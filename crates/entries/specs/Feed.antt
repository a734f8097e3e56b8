-- What `rvt_feed_push` and `rvt_feed_close` do: the feed's methods, with the feed and its counts as 32 bytes that the host lends. A feed of another length
-- is code 10, and nothing is touched.
use Rattle.std.specs.Prelude.{◌≡◌, List, ◌++◌, ℕ, length, drop, eqb}
use Rattle.std.proofs.lemmas.List.Edits.{sets}
use Rattle.words.specs.Pick.{pick}
use Rattle.digits.specs.Digits.{word, digits}
use Rattle.records.specs.Codes.{number_s}
use Rattle.feed.specs.Fields.{fields}
use Rattle.feed.specs.Post.{push_s, close_s}
use Rattle.feed.specs.declared.Feed.{Feed}

-- the feed in the first 16 bytes: the number that the bytes held make, and how many they are
unfoldable pub feed_at : List ℕ → Feed
feed_at s = record { held = word 8 s; length = word 8 (drop 8 s) }

-- a feed, and what a call took and wrote: four numbers of eight bytes, the lowest first
unfoldable pub feed_bytes : Feed → ℕ → ℕ → List ℕ
feed_bytes f taken written = digits 8 f.held ++ (digits 8 f.length ++ (digits 8 taken ++ digits 8 written))

-- a call: its code, and the feed and the answers as it leaves them
pub record Push : Type 0 where
  pub code : ℕ
  pub feed : List ℕ
  pub answers : List ℕ

abbrev pub push_bytes_s : List ℕ → List ℕ → List ℕ → Push
push_bytes_s feed piece answers =
    let c = push_s (feed_at feed) piece answers in
    pick (eqb (length feed) 32)
    (record { code = number_s c.code; feed = feed_bytes (fields c.feed) c.taken (length c.bytes); answers = sets answers 0 c.bytes })
    (record { code = 10; feed = feed; answers = answers })

-- the entry gave this code, and left the feed and the answers so
pub record Kept (c : Push) (r : ℕ) (f a : List ℕ) : Type 0 where
  pub code : r ≡ c.code
  pub feed : f ≡ c.feed
  pub answers : a ≡ c.answers

-- the call that closes: its code, and the feed as it leaves it
pub record End : Type 0 where
  pub code : ℕ
  pub feed : List ℕ

abbrev pub close_bytes_s : List ℕ → End
close_bytes_s feed =
    let c = close_s (feed_at feed) in
    pick (eqb (length feed) 32)
    (record { code = number_s c.code; feed = feed_bytes (fields c.feed) 0 0 })
    (record { code = 10; feed = feed })

pub record Told (c : End) (r : ℕ) (f : List ℕ) : Type 0 where
  pub code : r ≡ c.code
  pub feed : f ≡ c.feed
