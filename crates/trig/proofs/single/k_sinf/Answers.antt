-- `trig::single::k_sinf` meets its contract: the code is the definition, operation by operation. Assumes nothing.
use Rattle.trig.specs.KSinf.{k_sinf_s}
use Rattle.trig.proofs.single.k_sinf.Goals as goal

pub returns : goal.returns
unfolding k_sinf_s
returns c = rw c.narrow.ensures
