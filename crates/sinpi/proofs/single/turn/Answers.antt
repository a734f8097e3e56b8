-- `sinpi::single::turn` meets its contract. Assumes nothing.
use Rattle.sinpi.specs.Sinpif.{turn_s}
use Rattle.sinpi.proofs.single.turn.Goals as goal

pub returns : goal.returns
unfolding turn_s
returns c = rw c.floor.ensures
