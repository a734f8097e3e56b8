-- `sign_number` of an f32 meets its contract. Assumes nothing.
use denote.Floats.{passes}
use Rattle.erf.proofs.SignBit.{sign_exact}
use Rattle.erf.proofs.width.F32Width.sign_number.Goals as goal

pub int_to_float-result : goal.int_to_float-result
int_to_float-result c = rw c.sign.ensures (sign_exact c.args.self (passes _ c.well_formed.0.1))
