-- What a turn leaves in the buffers: a batch over the bytes s in the input buffer, which then has the unread rest at its front.
use Rattle.std.specs.Prelude.{◌≡◌, List, ℕ, ◌-◌, length, take, drop}
use Rattle.std.proofs.lemmas.List.Edits.{sets}
use Rattle.stream.specs.Batch.{batch_s}
use Rattle.serve.specs.declared.relay.Round.{Round}

-- b and after are the two buffers afterwards
pub record Turned (s before : List ℕ) (r : Round) (b after : List ℕ) : Type 0 where
  pub code : r.code ≡ (batch_s s before).code
  pub kept : r.kept ≡ length s - (batch_s s before).tally.read
  pub rest : take r.kept b ≡ drop (batch_s s before).tally.read s
  pub answers : after ≡ sets before 0 (batch_s s before).bytes
