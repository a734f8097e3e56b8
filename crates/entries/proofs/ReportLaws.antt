-- What `rvt_batch` leaves; and that a report is written whole, so that nothing is left of what stood in it. Assumes nothing.
use mathlib.Core.Path.{◌≡◌, ap, ◌∙◌}
use mathlib.Core.List.{List, append_assoc}
use Prim.Native.Nat.{ℕ}
use borrow.Author.Tests.{eq-eqb}
use lib.ListN.{length}
use lib.Seq.{sets}
use Rattle.digits.specs.Digits.{digits}
use Rattle.stream.specs.Batch.{batch_s}
use Rattle.records.specs.Codes.{number_s}
use Rattle.records.specs.Did.{Did}
use Rattle.records.specs.declared.Code.{Code}
use Rattle.records.specs.declared.Report.{Report}
use Rattle.entries.specs.Batch.{report_of, call_s, Made}
use Rattle.entries.proofs.NumberLaws.{first, further, filled}

-- three numbers, each behind the one before
pub told : (n i w : ℕ) (b b₁ b₂ b₃ : List ℕ) → length b ≡ 24 → b₁ ≡ sets b 0 (digits 8 n) → b₂ ≡ sets b₁ 8 (digits 8 i) →
    b₃ ≡ sets b₂ 16 (digits 8 w) → b₃ ≡ report_of n i w
unfolding report_of
told n i w b b₁ b₂ b₃ e p q r =
    filled b b₃ _ 24 e (further b b₂ b₃ _ 16 w (further b b₁ b₂ _ 8 i (first b b₁ n p) q) r) ∙ append_assoc (digits 8 n) (digits 8 i) (digits 8 w)

module _ (requests answers report : List ℕ) where
  pub made_done : (t : Report Code) (n : ℕ) (a b : List ℕ) → length report ≡ 24 → n ≡ number_s t.code → Did (batch_s requests answers) t 0 answers a →
      b ≡ report_of t.tally.records t.tally.read t.tally.written → Made (call_s requests answers report) n a b
  made_done t n a b h k d e =
      rw (eq-eqb (length report) 24 h) (record { code = k ∙ ap number_s d.code; answers = d.buffer; report = rw (← d.tally) e })
