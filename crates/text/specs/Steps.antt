-- The two steps are lawful, over any table of names, which is what a run asks of its step (records/specs/Lawful).
use Rattle.std.specs.Prelude.{ℕ, min, ◌≤◌, Some, None, List, [], ◌∷◌, length}
use Rattle.std.proofs.Math.Nat.{min-le_right}
use borrow.Author.Tests.{ltb-false}
use lib.Dec.{ltb}
use Rattle.digits.specs.Digits.{word}
use Rattle.records.specs.declared.Code.TheVariants.{Done, Unknown, Full}
use Rattle.records.specs.Run.{stop, took}
use Rattle.records.specs.Lawful.{Sound, Lawful}
use Rattle.records.proofs.RunLaws.{pick_elim, stop_sound, took_sound, choose_sound}
use Rattle.text.specs.Names.{Name}
use Rattle.text.specs.Line.{asked, line_of, Asked}
use Rattle.text.specs.Text.{closed}
use Rattle.text.specs.Trip.{record_of, first_line, as_request, to_request, body_in, to_line}

as_sound : (c : ℕ) (s : List ℕ) (room n : ℕ) (a : Asked) → n ≤ length s → Sound (c ∷ s) room (as_request n room a)
as_sound c s room n None h = stop_sound (c ∷ s) room Unknown
as_sound c s room n (Some q) h =
    let x = record_of q.kind q.bits in
    pick_elim (Sound (c ∷ s) room) (ltb room (length x)) (stop Full) (took n x) (λ _. stop_sound (c ∷ s) room Full)
    (λ f. took_sound c s room n x h (ltb-false room (length x) f))

pub request_lawful : (N : List Name) → Lawful (to_request N)
unfolding to_request
request_lawful N [] room = stop_sound [] room Done
request_lawful N (c ∷ s) room = as_sound c s room (min (length (first_line (c ∷ s))) (length s)) (asked N (first_line (c ∷ s))) (min-le_right (length (first_line (c ∷ s))) (length s))

pub line_lawful : (N : List Name) → Lawful (to_line N)
unfolding to_line
line_lawful N [] room = stop_sound [] room Done
line_lawful N (k ∷ s) room = let w = body_in N k in choose_sound k s room w (closed (line_of N k (word w s)))
