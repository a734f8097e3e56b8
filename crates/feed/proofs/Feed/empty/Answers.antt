-- `feed::Feed::empty` meets its contract: no bytes make 0. Assumes nothing.
use mathlib.Core.Path.{sym}
use Rattle.feed.proofs.FieldLaws.{none_held}
use Rattle.feed.proofs.Feed.empty.Goals as goal

pub returns : goal.returns
returns c = λ i. record { held = sym none_held i; length = 0 }
