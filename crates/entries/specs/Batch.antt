-- What `rvt_batch` does: the batch, and its counts as bytes in a report of 24. A report of another length is code 10, and nothing is touched.
use Rattle.std.specs.Prelude.{◌≡◌, List, ◌++◌, ℕ, length, eqb}
use Rattle.std.proofs.lemmas.List.Edits.{sets}
use Rattle.words.specs.Pick.{pick}
use Rattle.digits.specs.Digits.{digits}
use Rattle.records.specs.Codes.{number_s}
use Rattle.records.specs.Run.{Out}
use Rattle.stream.specs.Batch.{batch_s}

-- a call: its code, and the two buffers as it leaves them
pub record Call : Type 0 where
  pub code : ℕ
  pub answers : List ℕ
  pub report : List ℕ

-- a report: three numbers of eight bytes, the lowest first
unfoldable pub report_of : ℕ → ℕ → ℕ → List ℕ
report_of records read written = digits 8 records ++ (digits 8 read ++ digits 8 written)

abbrev pub done : Out → List ℕ → Call
done o answers = record { code = number_s o.code; answers = sets answers 0 o.bytes; report = report_of o.tally.records o.tally.read o.tally.written }

abbrev pub refused : List ℕ → List ℕ → Call
refused answers report = record { code = 10; answers = answers; report = report }

abbrev pub call_s : List ℕ → List ℕ → List ℕ → Call
call_s requests answers report =
    pick (eqb (length report) 24)
    (done (batch_s requests answers) answers)
    (refused answers report)

-- the entry gave this code, and left the answers and the report so
pub record Made (c : Call) (r : ℕ) (a b : List ℕ) : Type 0 where
  pub code : r ≡ c.code
  pub answers : a ≡ c.answers
  pub report : b ≡ c.report
