-- `by_bits::tgammaf_bits` meets its contract. Assumes nothing.
use Rattle.tgammaf.specs.Tgammaf.{tgammaf_s}
use Rattle.tgammaf.proofs.SpecialValues.{tgammaf_special}
use Rattle.by_bits.proofs.tgammaf_bits.Goals as goal

pub returns : goal.returns
returns c = c.on_bits.ensures tgammaf_s (λ a b h. h) tgammaf_special.at_nan
