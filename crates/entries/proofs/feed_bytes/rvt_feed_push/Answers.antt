-- `entries::feed_bytes::rvt_feed_push` meets its contract: a feed of its length is what a push leaves. Assumes nothing.
use borrow.Author.Rules.{rules}
use Rattle.entries.proofs.FeedLaws.{push_kept}
use Rattle.entries.proofs.feed_bytes.rvt_feed_push.Goals as goal

pub returns : goal.returns
returns c =
    push_kept c.args.feed.now c.args.piece.now c.args.answers.now _ _ _ _ _ (search rules) c.from.ensures c.load-f.ensures c.push-t.ensures c.store.ensures
