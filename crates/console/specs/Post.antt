-- What the parts of a turn of the program `lines` promise.
use Rattle.std.specs.Prelude.{◌≡◌, false, List, [], ◌∷◌, ℕ, ◌+◌, ◌*◌, ◌≤◌, length, take, drop}
use Rattle.std.proofs.lemmas.List.Edits.{sets}
use Rattle.replies.specs.Table.{table}
use Rattle.text.specs.Text.{closed, cut}
use Rattle.text.specs.Reply.{reply_to}
use Rattle.text.specs.Typing.{turn_on}
use Rattle.session.specs.Session.{Turn}
use Rattle.console.specs.declared.relay.Done.{Done}
use Rattle.console.specs.declared.relay.Round.{Round}

-- x was written from `at` on, and n is the place behind it
pub record Wrote (x : List ℕ) (at n : ℕ) (before after : List ℕ) : Type 0 where
  pub place : n ≡ at + length x
  pub buffer : after ≡ sets before at x

-- the finished lines of s were answered at the front of the buffer, in at most four times their bytes, and the unfinished one begins at a
-- place of s
pub record Replied (s : List ℕ) (r : Done) (before after : List ℕ) : Type 0 where
  pub written : r.written ≡ length (turn_on table false s).bytes
  pub buffer : after ≡ sets before 0 (turn_on table false s).bytes
  pub inside : r.read ≤ length s
  pub rest : drop r.read s ≡ (cut s).rest
  pub light : r.written ≤ 4 * r.read

-- what a line without newline at the end of the input is answered by: nothing, if it has no byte
abbrev pub last_reply : List ℕ → List ℕ
last_reply [] = []
last_reply (c ∷ l) = closed (reply_to table (c ∷ l))

-- what a turn carries over is at the front of the input buffer b
pub record Turned (t : Turn) (r : Round) (b : List ℕ) : Type 0 where
  pub kept : r.kept ≡ length t.left
  pub rest : take r.kept b ≡ t.left
