-- The contracts of two parts determine their answers: any two that they allow for the same argument coincide. Assumes nothing.
use mathlib.Core.Path.{◌≡◌, sym, ◌∙◌}
use Prim.Native.Nat.{ℕ}
use contract.Lifetimes.{Lfts}
use Rattle.by_bits.specs.declared.PairBits.{PairBits}
use Rattle.by_bits.specs.declared.SignedBits.{SignedBits}
use Rattle.by_bits.proofs.erf_erfc_bits.Reads as pair
use Rattle.by_bits.proofs.lgamma_r_bits.Reads as lgamma
use Rattle.by_bits.proofs.lgammaf_r_bits.Reads as lgammaf

pub lgamma_determined : (κs : Lfts 0) (a : _) (r r' : SignedBits ℕ) (s s' : _) → lgamma.Post κs a r s → lgamma.Post κs a r' s' → r ≡ r'
lgamma_determined κs a r r' s s' p q = λ i. record { value = (p.0 ∙ sym q.0) i; sign = (p.1 ∙ sym q.1) i }

pub lgammaf_determined : (κs : Lfts 0) (a : _) (r r' : SignedBits ℕ) (s s' : _) → lgammaf.Post κs a r s → lgammaf.Post κs a r' s' → r ≡ r'
lgammaf_determined κs a r r' s s' p q = λ i. record { value = (p.0 ∙ sym q.0) i; sign = (p.1 ∙ sym q.1) i }

pub pair_determined : (κs : Lfts 0) (a : _) (r r' : PairBits) (s s' : _) → pair.Post κs a r s → pair.Post κs a r' s' → r ≡ r'
pair_determined κs a r r' s s' p q = λ i. record { erf = (p.0 ∙ sym q.0) i; erfc = (p.1 ∙ sym q.1) i }
