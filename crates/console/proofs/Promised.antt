-- Demand 2 for lines, at the real table: the reply to a good line shows the answer that a batch with room for it writes for the line's request. Assumes nothing.
use Prim.Native.Nat.{ℕ, ◌≤◌}
use mathlib.Core.Path.{◌≡◌}
use mathlib.Core.List.{List}
use native.Mathlib.Omega.{arith}
use Rattle.kinds.specs.Shape.{answer_length}
use Rattle.kinds.specs.Kinds.{shape_of}
use Rattle.replies.specs.Table.{table}
use Rattle.replies.proofs.TableLaws.{row_width, reply_length}
use Rattle.text.specs.Names.{names}
use Rattle.text.specs.Line.{asked, Ask}
use Rattle.text.specs.Promises.{Shown}
use Rattle.text.proofs.Promised.{same_answer}

pub shown_as_answered : (s : List ℕ) (k b room : ℕ) → asked names s ≡ Ask k b → answer_length (shape_of k) ≤ room → Shown table s k b room
shown_as_answered s k b room e h = same_answer table row_width s k b room e (omega (arith, reply_length k b))
