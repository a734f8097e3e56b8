-- Each contract determines its answer: any two numbers and answer buffers that it allows for the same arguments coincide. Assumes nothing.
use mathlib.Core.Path.{◌≡◌, sym, ◌∙◌}
use mathlib.Core.List.{List}
use Prim.Native.Nat.{ℕ}
use lib.IntN.{ℤ}
use contract.Lifetimes.{Lfts}
use Rattle.records.specs.Run.{Out}
use Rattle.entries.specs.Post.{Reported}
use Rattle.entries.proofs.apart.rvt_distance.Reads as distance
use Rattle.entries.proofs.apart.rvt_distance_code.Reads as distance-code
use Rattle.entries.proofs.apart.rvt_distancef.Reads as distancef
use Rattle.entries.proofs.apart.rvt_distancef_code.Reads as distancef-code
use Rattle.entries.proofs.feed_bytes.rvt_feed_push.Reads as push
use Rattle.entries.proofs.feed_bytes.rvt_feed_close.Reads as close
use Rattle.entries.proofs.pair.rvt_erf_erfc.Reads as pair
use Rattle.entries.proofs.report.rvt_batch.Reads as batch
use Rattle.entries.proofs.rvt_tgamma.Reads as tgamma
use Rattle.entries.proofs.rvt_lgamma_r_value.Reads as value
use Rattle.entries.proofs.rvt_lgamma_r_sign.Reads as sign
use Rattle.entries.proofs.rvt_erf.Reads as erf
use Rattle.entries.proofs.rvt_erfc.Reads as erfc
use Rattle.entries.proofs.rvt_lgammaf_r_value.Reads as valuef
use Rattle.entries.proofs.rvt_lgammaf_r_sign.Reads as signf
use Rattle.entries.proofs.rvt_tgammaf.Reads as tgammaf
use Rattle.entries.proofs.rvt_erff.Reads as erff
use Rattle.entries.proofs.rvt_erfcf.Reads as erfcf
use Rattle.entries.proofs.rvt_batch_code.Reads as code
use Rattle.entries.proofs.rvt_batch_records.Reads as records
use Rattle.entries.proofs.rvt_batch_read.Reads as read
use Rattle.entries.proofs.rvt_batch_written.Reads as written

pub tgamma_determined : (κs : Lfts 0) (a : _) (r r' : ℕ) (s s' : _) → tgamma.Post κs a r s → tgamma.Post κs a r' s' → r ≡ r'
tgamma_determined κs a r r' s s' p q = p ∙ sym q

pub value_determined : (κs : Lfts 0) (a : _) (r r' : ℕ) (s s' : _) → value.Post κs a r s → value.Post κs a r' s' → r ≡ r'
value_determined κs a r r' s s' p q = p ∙ sym q

pub sign_determined : (κs : Lfts 0) (a : _) (r r' : ℤ) (s s' : _) → sign.Post κs a r s → sign.Post κs a r' s' → r ≡ r'
sign_determined κs a r r' s s' p q = p ∙ sym q

pub erf_determined : (κs : Lfts 0) (a : _) (r r' : ℕ) (s s' : _) → erf.Post κs a r s → erf.Post κs a r' s' → r ≡ r'
erf_determined κs a r r' s s' p q = p ∙ sym q

pub erfc_determined : (κs : Lfts 0) (a : _) (r r' : ℕ) (s s' : _) → erfc.Post κs a r s → erfc.Post κs a r' s' → r ≡ r'
erfc_determined κs a r r' s s' p q = p ∙ sym q

pub valuef_determined : (κs : Lfts 0) (a : _) (r r' : ℕ) (s s' : _) → valuef.Post κs a r s → valuef.Post κs a r' s' → r ≡ r'
valuef_determined κs a r r' s s' p q = p ∙ sym q

pub signf_determined : (κs : Lfts 0) (a : _) (r r' : ℤ) (s s' : _) → signf.Post κs a r s → signf.Post κs a r' s' → r ≡ r'
signf_determined κs a r r' s s' p q = p ∙ sym q

pub tgammaf_determined : (κs : Lfts 0) (a : _) (r r' : ℕ) (s s' : _) → tgammaf.Post κs a r s → tgammaf.Post κs a r' s' → r ≡ r'
tgammaf_determined κs a r r' s s' p q = p ∙ sym q

pub erff_determined : (κs : Lfts 0) (a : _) (r r' : ℕ) (s s' : _) → erff.Post κs a r s → erff.Post κs a r' s' → r ≡ r'
erff_determined κs a r r' s s' p q = p ∙ sym q

pub erfcf_determined : (κs : Lfts 0) (a : _) (r r' : ℕ) (s s' : _) → erfcf.Post κs a r s → erfcf.Post κs a r' s' → r ≡ r'
erfcf_determined κs a r r' s s' p q = p ∙ sym q

pub distance_determined : (κs : Lfts 0) (a : _) (r r' : ℕ) (s s' : _) → distance.Post κs a r s → distance.Post κs a r' s' → r ≡ r'
distance_determined κs a r r' s s' p q = p ∙ sym q

pub distance_code_determined : (κs : Lfts 0) (a : _) (r r' : ℕ) (s s' : _) → distance-code.Post κs a r s → distance-code.Post κs a r' s' → r ≡ r'
distance_code_determined κs a r r' s s' p q = p ∙ sym q

pub distancef_determined : (κs : Lfts 0) (a : _) (r r' : ℕ) (s s' : _) → distancef.Post κs a r s → distancef.Post κs a r' s' → r ≡ r'
distancef_determined κs a r r' s s' p q = p ∙ sym q

pub distancef_code_determined : (κs : Lfts 0) (a : _) (r r' : ℕ) (s s' : _) → distancef-code.Post κs a r s → distancef-code.Post κs a r' s' → r ≡ r'
distancef_code_determined κs a r r' s s' p q = p ∙ sym q

-- the code, and every byte of the pair
pub pair_determined : (κs : Lfts 1) (a : _) (r r' : ℕ) (s s' : _) → pair.Post κs a r s → pair.Post κs a r' s' → (r ≡ r') × (s.1.0.now ≡ s'.1.0.now)
pair_determined κs a r r' s s' p q = (p.code ∙ sym q.code, p.bytes ∙ sym q.bytes)

-- the number, and every byte of the answer buffer
same : (o : Out) (part : Out → ℕ) (r r' : ℕ) (a b b' : List ℕ) → Reported o part r a b → Reported o part r' a b' → (r ≡ r') × (b ≡ b')
same o part r r' a b b' p q = (p.number ∙ sym q.number, p.buffer ∙ sym q.buffer)

pub code_determined : (κs : Lfts 2) (a : _) (r r' : ℕ) (s s' : _) → code.Post κs a r s → code.Post κs a r' s' → (r ≡ r') × (s.1.0.now ≡ s'.1.0.now)
code_determined κs a r r' s s' p q = same _ _ r r' _ s.1.0.now s'.1.0.now p q

pub records_determined : (κs : Lfts 2) (a : _) (r r' : ℕ) (s s' : _) → records.Post κs a r s → records.Post κs a r' s' → (r ≡ r') × (s.1.0.now ≡ s'.1.0.now)
records_determined κs a r r' s s' p q = same _ _ r r' _ s.1.0.now s'.1.0.now p q

pub read_determined : (κs : Lfts 2) (a : _) (r r' : ℕ) (s s' : _) → read.Post κs a r s → read.Post κs a r' s' → (r ≡ r') × (s.1.0.now ≡ s'.1.0.now)
read_determined κs a r r' s s' p q = same _ _ r r' _ s.1.0.now s'.1.0.now p q

pub written_determined : (κs : Lfts 2) (a : _) (r r' : ℕ) (s s' : _) → written.Post κs a r s → written.Post κs a r' s' → (r ≡ r') × (s.1.0.now ≡ s'.1.0.now)
written_determined κs a r r' s s' p q = same _ _ r r' _ s.1.0.now s'.1.0.now p q

-- the code, and every byte of the answers and of the report
pub batch_determined : (κs : Lfts 3) (a : _) (r r' : ℕ) (s s' : _) → batch.Post κs a r s → batch.Post κs a r' s' →
    (r ≡ r') × ((s.1.0.now ≡ s'.1.0.now) × (s.1.1.0.now ≡ s'.1.1.0.now))
batch_determined κs a r r' s s' p q = (p.code ∙ sym q.code, (p.answers ∙ sym q.answers, p.report ∙ sym q.report))

-- the code, and every byte of the feed and of the answers
pub push_determined : (κs : Lfts 3) (a : _) (r r' : ℕ) (s s' : _) → push.Post κs a r s → push.Post κs a r' s' →
    (r ≡ r') × ((s.0.now ≡ s'.0.now) × (s.1.1.0.now ≡ s'.1.1.0.now))
push_determined κs a r r' s s' p q = (p.code ∙ sym q.code, (p.feed ∙ sym q.feed, p.answers ∙ sym q.answers))

-- the code, and every byte of the feed
pub close_determined : (κs : Lfts 1) (a : _) (r r' : ℕ) (s s' : _) → close.Post κs a r s → close.Post κs a r' s' → (r ≡ r') × (s.0.now ≡ s'.0.now)
close_determined κs a r r' s s' p q = (p.code ∙ sym q.code, p.feed ∙ sym q.feed)
