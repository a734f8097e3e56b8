-- Each public contract determines its answer: any two answers that it allows for the same arguments coincide. Assumes nothing.
use mathlib.Core.Path.{◌≡◌, sym, ◌∙◌}
use mathlib.Core.List.{List}
use Prim.Native.Nat.{ℕ}
use contract.Lifetimes.{Lfts}
use denote.Ref.{Bor}
use denote.MutBor.{MutBor}
use Rattle.records.specs.declared.Code.{Code}
use Rattle.records.specs.declared.Report.{Report}
use Rattle.records.proofs.StepLaws.{did_same}
use Rattle.stream.proofs.batch.Reads as batch
use Rattle.stream.proofs.batch_rest.Reads as rest
use Rattle.stream.proofs.batch_front.Reads as front

-- the code, the counts, and every byte of the answer buffer
pub batch_determined : (κs : Lfts 2) (a : _) (r r' : Report Code) (s s' : _) → batch.Post κs a r s → batch.Post κs a r' s' →
    (r ≡ r') × (s.1.0.now ≡ s'.1.0.now)
batch_determined κs a r r' s s' p q = did_same _ r r' 0 a.1.0.now s.1.0.now s'.1.0.now p q

-- the tail, its place, and every byte of the answer buffer
pub rest_determined : (κs : Lfts 2) (a : _) (r r' : Bor (List ℕ)) (s s' : _) → rest.Post κs a r s → rest.Post κs a r' s' →
    ((r.now ≡ r'.now) × (r.ref_ptr ≡ r'.ref_ptr)) × (s.1.0.now ≡ s'.1.0.now)
rest_determined κs a r r' s s' p q = ((p.tail ∙ sym q.tail, p.place ∙ sym q.place), p.buffer ∙ sym q.buffer)

-- the front and its place; the bytes behind it are no longer the contract's to speak of, since the lent slice lives on in what is handed back
pub front_determined : (κs : Lfts 2) (a : _) (r r' : MutBor (List ℕ)) (s s' : _) → front.Post κs a r s → front.Post κs a r' s' →
    (r.now ≡ r'.now) × (r.ref_ptr ≡ r'.ref_ptr)
front_determined κs a r r' s s' p q = (p.bytes ∙ sym q.bytes, p.place ∙ sym q.place)
