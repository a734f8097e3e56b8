-- `entries::feed_bytes::store` meets its contract: four runs of stores fill the feed. Assumes nothing.
use borrow.Author.Rules.{rules}
use Rattle.entries.proofs.FeedLaws.{stored}
use Rattle.entries.proofs.feed_bytes.store.Goals as goal

pub returns : goal.returns
returns c = stored c.args.f _ _ c.args.s.now _ _ _ _ (search rules) c.put.ensures c.put-2.ensures c.put-3.ensures c.put-4.ensures
