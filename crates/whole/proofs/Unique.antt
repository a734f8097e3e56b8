-- The contracts of `whole` and `wholef` determine both parts of their answers: any two that they allow for the same argument coincide. Assumes nothing.
use mathlib.Core.Path.{◌≡◌, sym, ◌∙◌}
use contract.Lifetimes.{Lfts}
use Rattle.whole.specs.declared.WholePart.{WholePart}
use Rattle.whole.proofs.whole.Reads as whole
use Rattle.whole.proofs.wholef.Reads as wholef

pub whole_determined : (κs : Lfts 0) (a : _) (r r' : WholePart) (s s' : _) → whole.Post κs a r s → whole.Post κs a r' s' → r ≡ r'
whole_determined κs a r r' s s' p q = λ i. record { number = (p.0 ∙ sym q.0) i; fraction = (p.1 ∙ sym q.1) i }

pub wholef_determined : (κs : Lfts 0) (a : _) (r r' : WholePart) (s s' : _) → wholef.Post κs a r s → wholef.Post κs a r' s' → r ≡ r'
wholef_determined κs a r r' s s' p q = λ i. record { number = (p.0 ∙ sym q.0) i; fraction = (p.1 ∙ sym q.1) i }
