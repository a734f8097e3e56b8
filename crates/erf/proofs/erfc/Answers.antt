-- `erf::erfc` meets its contract. Assumes nothing.
use Rattle.words.proofs.PatternLaws.{nan_kept}
use Rattle.erf.specs.Erf64.{erfc_s}
use Rattle.erf.proofs.Laws64.{erf_special}
use Rattle.erf.proofs.erfc.Goals as goal

pub returns-then-x : goal.returns-then-x
returns-then-x c = nan_kept erfc_s erf_special.erfc_nan _ c.if-x.true
