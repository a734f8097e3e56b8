-- `by_bits::tgamma_bits` meets its contract. Assumes nothing.
use Rattle.tgamma.specs.Tgamma.{tgamma_s}
use Rattle.tgamma.proofs.SpecialValues.{tgamma_nan}
use Rattle.by_bits.proofs.tgamma_bits.Goals as goal

pub returns : goal.returns
returns c = c.on_bits.ensures tgamma_s (λ a b h. h) tgamma_nan
