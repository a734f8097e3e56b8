-- Laws of the program over all that the outside does. Assumes nothing.
--     cuts_do_not_show    However the input is cut into pieces, where no read and no write fails, the bytes that are sent are the answers of
--                         one batch over the whole input with room for all, then 255 and its code.
--     broken_is_front     Where one fails, the bytes that were sent are a front of those answers, and nothing closes them.
--     ends                The program gives back 0, 1, 2 or nothing.
use mathlib.Core.Path.{◌≡◌, refl, sym, ap, ◌∙◌}
use mathlib.Core.List.{List, [], ◌∷◌, ◌++◌, append_assoc, append-nil}
use mathlib.Core.Logic.{⊎_elim}
use Prim.Native.Nat.{ℕ, ◌+◌, ◌-◌, ◌*◌, ◌≤◌}
use native.Mathlib.Omega.{arith}
use lib.ListN.{length, length-append, length-drop}
use Rattle.std.specs.Prelude.{Option, Some, None, IfSome}
use Rattle.replies.specs.Table.{table}
use Rattle.records.specs.Codes.{number_s}
use Rattle.records.specs.declared.Code.{Code}
use Rattle.records.specs.declared.Code.TheVariants.{Done, Unknown, Cut, Full}
use Rattle.records.specs.Run.{Out, ahead, run}
use Rattle.stream.proofs.BatchLaws.{table_light, enough_room, batch_same, batches_are_whole}
use Rattle.records.specs.Pieces.{whole}
use Rattle.records.proofs.PieceLaws.{pieces, Roomy}
use Rattle.records.proofs.RoomLaws.{run_easy}
use Rattle.records.proofs.RunLaws.{run_within}
use Rattle.records.proofs.SplitLaws.{run_more}
use Rattle.records.proofs.StopLaws.{stays_unknown}
use Rattle.session.specs.Session.{Heard, brought, piece, Event, Said, session, Fits, delivered, NoneEmpty}
use Rattle.session.specs.Post.{Served}
use Rattle.session.proofs.SayLaws.{one_or, input, Front, end_came, stop_came, more_came, front_of, ended}
use Rattle.serve.specs.Session.{there, done, left, answering, closed}

-- the code of this number
is_unknown : (c : Code) → number_s c ≡ 1 → c ≡ Unknown
is_unknown Done e = absurd (omega (arith, e))
is_unknown Unknown e = refl
is_unknown Cut e = absurd (omega (arith, e))
is_unknown Full e = absurd (omega (arith, e))

-- what a batch adds to what the later turns say, where it goes on
goes_on : (o rest : Out) → record { bytes = o.bytes ++ (closed rest).bytes; code = Some (number_s rest.code) } ≡ closed (ahead o rest)
goes_on o rest =
    ap (λ (x : List ℕ). record { bytes = x; code = Some (number_s rest.code) }) (sym (append_assoc o.bytes rest.bytes (255 ∷ (number_s rest.code ∷ []))))

-- in buffers of such sizes
module _ (size room : ℕ) (h : 2 * size ≤ room) where
  small : (rest : List ℕ) (g : Heard) → length rest + length (piece g) ≤ size → number_s (done room rest g).code ≤ 2
  small rest g l = enough_room (there rest g) room (omega (arith, length-append rest (piece g)))

  -- the events of a cut input are batches with room enough
  roomy : (rest : List ℕ) (ps : List (List ℕ)) → Fits (answering room) size rest (delivered ps) → Roomy table room rest ps
  roomy rest [] f = omega (arith, f.0)
  roomy rest (p ∷ ps) f = (omega (arith, f.0, length-append rest p), roomy (left room rest (brought p)) ps f.1)

  -- an unknown kind: the later pieces add nothing
  stays : (rest p : List ℕ) (ps : List (List ℕ)) → Roomy table room rest (p ∷ ps) → number_s (run table (rest ++ p) room).code ≡ 1 →
      pieces table room rest (p ∷ ps) ≡ run table (rest ++ p) room
  stays rest p ps r u =
      let large = room + 2 * length (rest ++ (p ++ whole ps)) in
      batches_are_whole room rest (p ∷ ps) large r (omega arith)
      ∙ ap (λ (x : List ℕ). run table x large) (sym (append_assoc rest p (whole ps)))
      ∙ stays_unknown table (rest ++ p) (whole ps) room large (omega arith) (is_unknown _ u)

  by_pieces : (rest : List ℕ) (ps : List (List ℕ)) → NoneEmpty ps → Fits (answering room) size rest (delivered ps) →
      session (answering room) rest (delivered ps) ≡ closed (pieces table room rest ps)
  by_pieces rest [] s f =
      end_came (answering room) rest []
      ∙ ap (λ (x : List ℕ). closed (run table x room)) (append-nil rest)
  by_pieces rest (p ∷ ps) s f =
      let o = done room rest (brought p) in
      let t = left room rest (brought p) in
      ⊎_elim
      (λ u.
      stop_came (answering room) rest p (delivered ps) u
      ∙ ap closed (sym (stays rest p ps (roomy rest (p ∷ ps) f) u)))
      (λ u.
      more_came (answering room) rest p (delivered ps) u s.0
      ∙ ap (λ (x : Said). record { bytes = o.bytes ++ x.bytes; code = x.code }) (by_pieces t ps s.1 f.1)
      ∙ goes_on o (pieces table room t ps))
      (one_or (number_s o.code))

  pub cuts_do_not_show : (ps : List (List ℕ)) (large : ℕ) → NoneEmpty ps → Fits (answering room) size [] (delivered ps) → 2 * length (whole ps) ≤ large →
      session (answering room) [] (delivered ps) ≡ closed (run table (whole ps) large)
  cuts_do_not_show ps large s f l =
      let enough = room + 2 * length (whole ps) in
      by_pieces [] ps s f
      ∙ ap closed
      (batches_are_whole room [] ps enough (roomy [] ps f) (omega arith)
      ∙ batch_same (whole ps) enough large (omega arith) l)

  -- the answers to what was read, and to whatever follows it, begin with what was sent
  fronts : (rest : List ℕ) (es : List Event) (later : List ℕ) (large : ℕ) → Fits (answering room) size rest es →
      room + 2 * length (rest ++ (input es ++ later)) ≤ large →
      Front (run table (rest ++ (input es ++ later)) large).bytes (session (answering room) rest es)
  unfolding session
  fronts rest [] later large f l = λ _. ((run table (rest ++ later) large).bytes, refl)
  fronts rest (e ∷ es) later large f l =
      let p = piece e.heard in
      let s = there rest e.heard in
      let o = done room rest e.heard in
      let t = left room rest e.heard in
      let follows = input es ++ later in
      let q : rest ++ ((p ++ input es) ++ later) ≡ s ++ follows =
      ap (λ (x : List ℕ). rest ++ x) (append_assoc p (input es) later) ∙ sym (append_assoc rest p follows) in
      let n = ap length q in
      let w = run_easy table table_light s room (omega (arith, f.0, length-append rest p)) in
      let i = (run_within table s room).read in
      let d = length-drop o.tally.read s in
      let a = length-append s follows in
      let b = length-append t follows in
      front_of (answering room) rest e es _ (run table (t ++ follows) (large - o.tally.written)).bytes
      (ap (λ (x : List ℕ). (run table x large).bytes) q ∙ ap (λ (x : Out). x.bytes) (run_more table s follows room large (omega arith)))
      (fronts t es later (large - o.tally.written) f.1 (omega arith))

  pub broken_is_front : (es : List Event) (later : List ℕ) (large : ℕ) → Fits (answering room) size [] es →
      (session (answering room) [] es).code ≡ None →
      2 * length (input es ++ later) ≤ large → (tail : List ℕ) × ((run table (input es ++ later) large).bytes ≡ (session (answering room) [] es).bytes ++ tail)
  broken_is_front es later large f e l =
      let s = input es ++ later in
      let enough = room + 2 * length s in
      let t = fronts [] es later enough f (omega arith) e in
      (t.0, ap (λ (x : Out). x.bytes) (batch_same s large enough l (omega arith)) ∙ t.1)

pub ends : (r : Option ℕ) → Served (answering 65536) 32768 r → IfSome r (λ c. c ≤ 2)
ends r s =
    ended (answering 65536) 32768 (λ c. IfSome c (λ k. k ≤ 2)) tt (λ rest e l. small 32768 65536 (omega arith) rest e.heard l) r s
