-- The contract of the pair determines it: any two that it allows for the same argument coincide. Assumes nothing.
use mathlib.Core.Path.{◌≡◌, sym, ◌∙◌}
use contract.Lifetimes.{Lfts}
use Rattle.erf.specs.declared.Pair.{Pair}
use Rattle.erf.proofs.erf_erfc.Reads as both

pub pair_determined : (κs : Lfts 0) (a : _) (r r' : Pair) (s s' : _) → both.Post κs a r s → both.Post κs a r' s' → r ≡ r'
pair_determined κs a r r' s s' p q = λ i. record { erf = (p.0 ∙ sym q.0) i; erfc = (p.1 ∙ sym q.1) i }
