-- `entries::feed_bytes::rvt_feed_close` meets its contract: a feed of its length is what closing leaves. Assumes nothing.
use borrow.Author.Rules.{rules}
use Rattle.entries.proofs.FeedLaws.{close_told}
use Rattle.entries.proofs.feed_bytes.rvt_feed_close.Goals as goal

pub returns : goal.returns
returns c = close_told c.args.feed.now _ _ _ _ (search rules) c.from.ensures c.load-f.ensures c.close-t.ensures c.store.ensures
