-- `erf::erf_erfc` meets its contract: both fields are made of one y. Assumes nothing.
use native.Mathlib.Omega.{arith}
use Rattle.words.proofs.PatternLaws.{nan_kept}
use Rattle.erf.specs.Erf64.{erf64, erf_s, erfc_s}
use Rattle.erf.proofs.Laws64.{erf_special}
use Rattle.erf.proofs.SharedLaws as shared
use Rattle.erf.proofs.erf_erfc.Goals as goal

pub returns-then-x : goal.returns-then-x
returns-then-x c = (nan_kept erf_s erf_special.erf_nan _ c.if-x.true, nan_kept erfc_s erf_special.erfc_nan _ c.if-x.true)

pub erf_of-requires : goal.erf_of-requires
erf_of-requires c =
    (λ a m. m, (c.size_word-ix.ensures, c.sign-sign.ensures, shared.within erf64 (omega arith) (omega arith) c.y_of_erfc-y.ensures))
