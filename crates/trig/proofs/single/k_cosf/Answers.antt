-- `trig::single::k_cosf` meets its contract: the code is the definition, operation by operation. Assumes nothing.
use Rattle.trig.specs.KCosf.{k_cosf_s}
use Rattle.trig.proofs.single.k_cosf.Goals as goal

pub returns : goal.returns
unfolding k_cosf_s
returns c = rw c.narrow.ensures
