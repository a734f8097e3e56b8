-- `trig::k_cos` meets its contract: the code is the definition, operation by operation. Assumes nothing.
use mathlib.Core.Path.{refl}
use Rattle.trig.specs.KCos.{k_cos_s}
use Rattle.trig.proofs.k_cos.Goals as goal

pub returns : goal.returns
unfolding k_cos_s
returns c = refl
