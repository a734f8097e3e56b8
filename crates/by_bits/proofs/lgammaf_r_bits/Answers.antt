-- `by_bits::lgammaf_r_bits` meets its contract. Assumes nothing.
use borrow.Author.Rules.{rules}
use Rattle.lgammaf.specs.Lgammaf.{lgammaf_s}
use Rattle.lgammaf.proofs.SpecialValues.{lgammaf_special}
use Rattle.by_bits.proofs.lgammaf_r_bits.Goals as goal

pub returns : goal.returns
returns c = c.signed_on_bits.ensures lgammaf_s (λ a b s h. search rules) lgammaf_special.at_nan
