-- `sqrt::nearest_root` meets its contract. Assumes nothing.
use Rattle.sqrt.proofs.Turns.{Taken}
use Rattle.sqrt.proofs.nearest_root.Given as goal

abbrev pub invariant-loop : goal.invariant-loop
invariant-loop l = Taken l.a l.left l.root l.rest l.counter
