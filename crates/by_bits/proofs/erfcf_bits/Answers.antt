-- `by_bits::erfcf_bits` meets its contract. Assumes nothing.
use Rattle.erff.specs.Erff.{erfcf_s}
use Rattle.erff.proofs.Laws32.{erff_special}
use Rattle.by_bits.proofs.erfcf_bits.Goals as goal

pub returns : goal.returns
returns c = c.on_bits.ensures erfcf_s (λ a b h. h) erff_special.erfc_nan
