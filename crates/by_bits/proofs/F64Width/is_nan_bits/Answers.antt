-- `by_bits::F64Width::is_nan_bits` meets its contract. Assumes nothing.
use lib.Ieee.{binary64}
use Rattle.by_bits.proofs.NanLaws.{nan_test}
use Rattle.by_bits.proofs.F64Width.is_nan_bits.Goals as goal

pub returns : goal.returns
returns c = nan_test binary64 c.args.x
