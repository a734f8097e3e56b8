-- `words::real::F64Real::fabs` meets its contract. Assumes nothing.
use mathlib.Core.Path.{refl}
use lib.Ieee.{binary64}
use Rattle.words.specs.Fabs.{fabs_s}
use Rattle.words.proofs.PatternLaws.{nan_kept, not_nan, size_number, size_pattern}
use Rattle.words.proofs.real.F64Real.fabs.Goals as goal

pub returns-then-self : goal.returns-then-self
unfolding fabs_s
returns-then-self c = record { holds = c.well_formed.0.1; value = nan_kept fabs_s refl _ c.if-self.true }

pub float_to_bits-result : goal.float_to_bits-result
float_to_bits-result c = not_nan _ c.if-self.false

pub float_from_bits-result : goal.float_from_bits-result
float_from_bits-result c = size_number binary64 c.args.self _ c.well_formed.0.1 refl c.if-self.false

pub returns : goal.returns
returns c = record { holds = c.well_formed.0.1; value = size_pattern binary64 c.args.self c.well_formed.0.1 }
