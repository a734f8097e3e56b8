-- `console::relay::reply_lines` meets its contract: the bytes that were looked at are answered as far as their lines are finished. Assumes
-- nothing.
use Rattle.console.proofs.LineLoop.{Looked}
use Rattle.console.proofs.relay.reply_lines.Given as goal

abbrev pub invariant-loop-i : goal.invariant-loop-i
invariant-loop-i l = Looked l.text l.initial.out l.out l.i l.read l.written
