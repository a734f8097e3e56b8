-- The contracts of the two trips determine their answers: any two that they allow for the same arguments coincide. Assumes nothing.
use mathlib.Core.Path.{◌≡◌}
use contract.Lifetimes.{Lfts}
use Rattle.records.specs.declared.Code.{Code}
use Rattle.records.specs.declared.Report.{Report}
use Rattle.records.proofs.StepLaws.{did_same}
use Rattle.text.proofs.trip.requests_of.Reads as there
use Rattle.text.proofs.trip.text_of.Reads as back

-- the code, the counts, and every byte of the buffer that was lent
pub requests_determined : (κs : Lfts 2) (a : _) (r r' : Report Code) (s s' : _) → there.Post κs a r s → there.Post κs a r' s' →
    (r ≡ r') × (s.1.0.now ≡ s'.1.0.now)
requests_determined κs a r r' s s' p q = did_same _ r r' 0 a.1.0.now s.1.0.now s'.1.0.now p q

pub text_determined : (κs : Lfts 2) (a : _) (r r' : Report Code) (s s' : _) → back.Post κs a r s → back.Post κs a r' s' →
    (r ≡ r') × (s.1.0.now ≡ s'.1.0.now)
text_determined κs a r r' s s' p q = did_same _ r r' 0 a.1.0.now s.1.0.now s'.1.0.now p q
