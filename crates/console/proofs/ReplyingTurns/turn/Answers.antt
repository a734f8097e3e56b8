-- `console::Replying` keeps 26 bytes at most from turn to turn. Assumes nothing.
use Rattle.console.proofs.PassLaws.{kept_small}
use Rattle.console.proofs.ReplyingTurns.turn.Goals as goal

pub invariant_of-self-2-clause-carried : goal.invariant_of-self-2-clause-carried
invariant_of-self-2-clause-carried c = kept_small _ _ _ _ c.pass-next.ensures _ c.in-Go.is
