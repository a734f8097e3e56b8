-- `session::turns::Turns::run` meets its contract: the turns are counted, and the events so far are the program's. Assumes nothing.
use Rattle.std.proofs.Common.{◌≡◌, []}
use Rattle.session.proofs.LoopLaws.{Going}
use Rattle.session.proofs.turns.Turns.run.Given as goal

abbrev pub invariant-loop : goal.invariant-loop
invariant-loop g l = record {
  program : g.Self.Turns.program l.self ≡ g.Self.Turns.program l.initial.self;
  size : g.Self.Turns.size l.self ≡ g.Self.Turns.size l.initial.self;
  going :
      g.Self.Turns.carried l.initial.self ≡ [] →
      Going (g.Self.Turns.program l.initial.self) (g.Self.Turns.size l.initial.self) l.counter (g.Self.Turns.carried l.self);
}
