-- `by_bits::lgamma_r_bits` meets its contract. Assumes nothing.
use borrow.Author.Rules.{rules}
use Rattle.lgamma.specs.Lgamma64.{lgamma_s}
use Rattle.lgamma.proofs.SpecialValues.{lgamma_special}
use Rattle.by_bits.proofs.lgamma_r_bits.Goals as goal

pub returns : goal.returns
returns c = c.signed_on_bits.ensures lgamma_s (λ a b s h. search rules) lgamma_special.at_nan
