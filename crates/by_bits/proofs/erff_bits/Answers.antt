-- `by_bits::erff_bits` meets its contract. Assumes nothing.
use Rattle.erff.specs.Erff.{erff_s}
use Rattle.erff.proofs.Laws32.{erff_special}
use Rattle.by_bits.proofs.erff_bits.Goals as goal

pub returns : goal.returns
returns c = c.on_bits.ensures erff_s (λ a b h. h) erff_special.erf_nan
