-- What the methods of a feed promise, as records with named parts.
use Rattle.std.specs.Prelude.{◌≡◌, List, ℕ, length}
use Rattle.std.proofs.lemmas.List.Edits.{sets}
use Rattle.replies.specs.Table.{table}
use Rattle.feeding.specs.Feed.{Call, Close, call, close}
use Rattle.feed.specs.Fields.{meant, fields}
use Rattle.feed.specs.declared.Feed.{Feed}
use Rattle.feed.specs.declared.Fed.{Fed}
use Rattle.feed.specs.declared.Closed.{Closed}

abbrev pub push_s : Feed → List ℕ → List ℕ → Call
push_s f piece answers = call table (meant f) piece (length answers)

abbrev pub close_s : Feed → Close
close_s f = close table (meant f)

-- what a call did, and every byte of the answer buffer
pub record Pushed (c : Call) (r : Fed) (before after : List ℕ) : Type 0 where
  pub feed : r.feed ≡ fields c.feed
  pub taken : r.taken ≡ c.taken
  pub written : r.written ≡ length c.bytes
  pub code : r.code ≡ c.code
  pub buffer : after ≡ sets before 0 c.bytes

-- what closing did
pub record Shut (c : Close) (r : Closed) : Type 0 where
  pub feed : r.feed ≡ fields c.feed
  pub code : r.code ≡ c.code
