-- `words::real::F32Real::from_pattern` meets its contract. Assumes nothing.
use lib.Ieee.{binary32, div, of_bits}
use Rattle.words.proofs.PatternLaws.{pattern_nan, pattern_not_nan}
use Rattle.words.proofs.real.F32Real.from_pattern.Goals as goal

pub returns-then-n-gt2139095040 : goal.returns-then-n-gt2139095040
unfolding div of_bits
returns-then-n-gt2139095040 c = pattern_nan binary32 _ c.if-n-gt2139095040.true

pub float_from_bits-result : goal.float_from_bits-result
float_from_bits-result c = pattern_not_nan binary32 _ c.if-n-gt2139095040.false
