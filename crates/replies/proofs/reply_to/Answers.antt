-- `replies::reply_to` meets its contract: in a kind's arm the kind's own function gives its row, and in the last the kind is in no row. Assumes nothing.
use mathlib.Core.Path.{sym, ◌∙◌}
use borrow.Author.Rules.{rules}
use Rattle.replies.specs.Table.{meanings, table}
use Rattle.replies.proofs.TableLaws.{Apart, reply_none}
use Rattle.replies.proofs.reply_to.Goals as goal

pub returns-in_default : goal.returns-in_default
unfolding table meanings
returns-in_default c =
    let apart : Apart (Unit {0}) table c.args.kind = search rules in
    c.number.ensures ∙ sym (reply_none (Unit {0}) c.args.kind c.args.bits apart)
