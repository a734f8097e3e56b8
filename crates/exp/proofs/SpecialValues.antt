-- exp and expf of a NaN, worked out by the checker from the definitions. Assumes nothing.
use Rattle.std.proofs.Common.{◌≡◌, refl}
use lib.Ieee.{nan, ne, to_bits}
use Rattle.exp.specs.Exp.{special_s, exp_s}
use Rattle.exp.specs.Expf as Expf
use Rattle.exp.specs.Expf.{expf_s}

pub exp_nan : exp_s nan ≡ nan
unfolding exp_s special_s ne to_bits
exp_nan = refl

pub expf_nan : expf_s nan ≡ nan
unfolding expf_s Expf.special_s to_bits
expf_nan = refl
