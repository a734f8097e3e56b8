-- `serve::Answering` keeps less than a record from turn to turn. Assumes nothing.
use Rattle.serve.proofs.PassLaws.{kept_small}
use Rattle.serve.proofs.AnsweringTurns.turn.Goals as goal

pub invariant_of-self-2-clause-carried : goal.invariant_of-self-2-clause-carried
invariant_of-self-2-clause-carried c = kept_small _ _ _ _ _ c.pass-next.ensures _ c.in-Go.is c.args.self.now.to_answer
