-- `words::real::F32Real::bits` meets its contract. Assumes nothing.
use lib.Ieee.{binary32}
use Rattle.words.proofs.PatternLaws.{not_nan, nan_pattern}
use Rattle.words.proofs.real.F32Real.bits.Goals as goal

pub float_to_bits-result : goal.float_to_bits-result
float_to_bits-result c = not_nan _ c.if-self.false

pub returns-then-self : goal.returns-then-self
returns-then-self c = nan_pattern binary32 _ c.if-self.true
