-- `erf::erf` meets its contract. Assumes nothing.
use Rattle.words.proofs.PatternLaws.{nan_kept}
use Rattle.erf.specs.Erf64.{erf_s}
use Rattle.erf.proofs.Laws64.{erf_special}
use Rattle.erf.proofs.erf.Goals as goal

pub returns-then-x : goal.returns-then-x
returns-then-x c = nan_kept erf_s erf_special.erf_nan _ c.if-x.true
