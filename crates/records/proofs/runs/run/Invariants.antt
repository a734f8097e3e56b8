-- `records::runs::run` meets its contract: each turn is one item more of the run. Assumes nothing.
use Prim.Native.Nat.{◌-◌}
use lib.ListN.{length}
use Rattle.records.proofs.LoopLaws.{Going}
use Rattle.records.proofs.runs.run.Given as goal

abbrev pub invariant-loop-one : goal.invariant-loop-one
invariant-loop-one g l = Going g.S.Step.step_s l.input l.initial.output l.output l.tally

abbrev pub decreases-loop-one : goal.decreases-loop-one
decreases-loop-one g l = length l.input - l.tally.read
