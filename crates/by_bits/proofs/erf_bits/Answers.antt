-- `by_bits::erf_bits` meets its contract. Assumes nothing.
use Rattle.erf.specs.Erf64.{erf_s}
use Rattle.erf.proofs.Laws64.{erf_special}
use Rattle.by_bits.proofs.erf_bits.Goals as goal

pub returns : goal.returns
returns c = c.on_bits.ensures erf_s (λ a b h. h) erf_special.erf_nan
