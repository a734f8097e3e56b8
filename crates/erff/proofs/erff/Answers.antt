-- `erff::erff` meets its contract. Assumes nothing.
use Rattle.words.proofs.PatternLaws.{nan_kept}
use Rattle.erff.specs.Erff.{erff_s}
use Rattle.erff.proofs.Laws32.{erff_special}
use Rattle.erff.proofs.erff.Goals as goal

pub returns-then-x : goal.returns-then-x
returns-then-x c = nan_kept erff_s erff_special.erf_nan _ c.if-x.true
