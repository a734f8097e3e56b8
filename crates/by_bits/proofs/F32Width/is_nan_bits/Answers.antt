-- `by_bits::F32Width::is_nan_bits` meets its contract. Assumes nothing.
use lib.Ieee.{binary32}
use Rattle.by_bits.proofs.NanLaws.{nan_test}
use Rattle.by_bits.proofs.F32Width.is_nan_bits.Goals as goal

pub returns : goal.returns
returns c = nan_test binary32 c.args.x
