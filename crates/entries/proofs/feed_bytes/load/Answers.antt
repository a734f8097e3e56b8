-- `entries::feed_bytes::load` meets its contract. Assumes nothing.
use Rattle.entries.proofs.FeedLaws.{loaded}
use Rattle.entries.proofs.feed_bytes.load.Goals as goal

pub returns : goal.returns
returns c = loaded c.args.s.now _ _ c.get.ensures c.get-2.ensures
