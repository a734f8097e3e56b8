-- `erff::erfcf` meets its contract. Assumes nothing.
use Rattle.words.proofs.PatternLaws.{nan_kept}
use Rattle.erff.specs.Erff.{erfcf_s}
use Rattle.erff.proofs.Laws32.{erff_special}
use Rattle.erff.proofs.erfcf.Goals as goal

pub returns-then-x : goal.returns-then-x
returns-then-x c = nan_kept erfcf_s erff_special.erfc_nan _ c.if-x.true
