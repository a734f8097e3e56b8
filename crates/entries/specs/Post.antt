-- What a batch entry promises: one number of what the batch did, and every byte of the answer buffer.
use Rattle.std.specs.Prelude.{◌≡◌, List, ℕ}
use Rattle.std.proofs.lemmas.List.Edits.{sets}
use Rattle.records.specs.Run.{Out}

pub record Reported (o : Out) (part : Out → ℕ) (r : ℕ) (before after : List ℕ) : Type 0 where
  pub number : r ≡ part o
  pub buffer : after ≡ sets before 0 o.bytes
