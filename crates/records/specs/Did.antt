-- What a report and a buffer say of what was done.
use Rattle.std.specs.Prelude.{◌≡◌, List, ℕ}
use Rattle.std.proofs.lemmas.List.Edits.{sets}
use Rattle.records.specs.Run.{Out}
use Rattle.records.specs.declared.Code.{Code}
use Rattle.records.specs.declared.Report.{Report}

-- a report says what was done, and the buffer has the bytes written from a place on, and is else as before
pub record Did (o : Out) (r : Report Code) (place : ℕ) (before after : List ℕ) : Type 0 where
  pub code : r.code ≡ o.code
  pub tally : r.tally ≡ o.tally
  pub buffer : after ≡ sets before place o.bytes
