-- `by_bits::erfc_bits` meets its contract. Assumes nothing.
use Rattle.erf.specs.Erf64.{erfc_s}
use Rattle.erf.proofs.Laws64.{erf_special}
use Rattle.by_bits.proofs.erfc_bits.Goals as goal

pub returns : goal.returns
returns c = c.on_bits.ensures erfc_s (λ a b h. h) erf_special.erfc_nan
