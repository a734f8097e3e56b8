-- `words::real::F64Real::from_pattern` meets its contract. Assumes nothing.
use lib.Ieee.{binary64, div, of_bits}
use Rattle.words.proofs.PatternLaws.{pattern_nan, pattern_not_nan}
use Rattle.words.proofs.real.F64Real.from_pattern.Goals as goal

pub returns-then-n-gt9218868437227405312 : goal.returns-then-n-gt9218868437227405312
unfolding div of_bits
returns-then-n-gt9218868437227405312 c = pattern_nan binary64 _ c.if-n-gt9218868437227405312.true

pub float_from_bits-result : goal.float_from_bits-result
float_from_bits-result c = pattern_not_nan binary64 _ c.if-n-gt9218868437227405312.false
