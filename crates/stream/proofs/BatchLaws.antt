-- A batch, with the table that there is: room for twice the requests is enough, and a stream that is read in pieces is answered as a whole.
-- Assumes nothing.
use mathlib.Core.Path.{◌≡◌, sym, ap, ◌∙◌, subst}
use mathlib.Core.List.{List, ◌++◌}
use Prim.Native.Nat.{ℕ, ◌+◌, ◌*◌, ◌^◌, ◌≤◌, ◌<◌}
use native.Mathlib.Omega.{arith}
use lib.ListN.{length, take, get_or}
use Rattle.digits.specs.Digits.{word}
use Rattle.digits.proofs.DigitLaws.{word_take, word_below}
use Rattle.kinds.specs.Kinds.{shape_of}
use Rattle.kinds.proofs.ShapeLaws.{body_small}
use Rattle.records.specs.declared.Reply.{Reply}
use Rattle.records.specs.Codes.{number_s}
use Rattle.records.specs.Row.{row_in}
use Rattle.replies.specs.Table.{table, reply_s}
use Rattle.replies.proofs.TableLaws.{row_width, width_small, reply_light, reply_whole}
use Rattle.records.specs.Run.{run}
use Rattle.records.proofs.RoomLaws.{Light, run_easy, run_same}
use Rattle.records.proofs.StopLaws.{Narrow}
use Rattle.records.specs.Pieces.{whole}
use Rattle.records.proofs.PieceLaws.{pieces, Roomy, pieces_are_whole}

-- the reply to the body of a record, by the code's steps: how many bytes the body at the front of s has, their number, and the reply to it
pub answered : (s : List ℕ) (w k b : ℕ) (r : Reply) → ((i : ℕ) → get_or s i 0 < 256) → w ≡ (shape_of k).body → b ≡ word 8 (take w s) → r ≡ reply_s k b →
    r ≡ (row_in table k).reply (word w s)
answered s w k b r h ew eb er =
    let l : w ≤ 8 = omega (arith, body_small k) in
    let e : b ≡ word w s = eb ∙ word_take 8 w s l in
    let m : word w s < 256 ^ (row_in table k).width = subst (λ (n : ℕ). word w s < 256 ^ n) (ew ∙ sym (row_width k)) (word_below w s h) in
    er ∙ ap (reply_s k) e ∙ reply_whole k (word w s) m

pub table_light : Light table
table_light = reply_light

pub table_narrow : Narrow 8 table
table_narrow = width_small

-- with room for twice the requests a batch never stops with code 3
pub enough_room : (s : List ℕ) (room : ℕ) → 2 * length s ≤ room → number_s (run table s room).code ≤ 2
enough_room s room l = (run_easy table table_light s room l).0

-- and more room changes nothing
pub batch_same : (s : List ℕ) (room large : ℕ) → 2 * length s ≤ room → 2 * length s ≤ large → run table s room ≡ run table s large
batch_same = run_same table table_light

-- the batches over the pieces of a stream, each with room for twice its requests, do what one batch over the whole stream does
pub batches_are_whole : (room : ℕ) (rest : List ℕ) (ps : List (List ℕ)) (large : ℕ) → Roomy table room rest ps → room + 2 * length (rest ++ whole ps) ≤ large →
    pieces table room rest ps ≡ run table (rest ++ whole ps) large
batches_are_whole room = pieces_are_whole table table_light room
