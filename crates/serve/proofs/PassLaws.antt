-- A turn: what the read brought stands behind the bytes that were carried over, and the batch was over both. Assumes nothing.
use mathlib.Core.Path.{◌≡◌, sym, ap, ◌∙◌, subst}
use mathlib.Core.List.{List}
use Prim.Native.Nat.{ℕ, ◌+◌, ◌*◌, ◌≤◌}
use native.Mathlib.Omega.{arith}
use lib.ListN.{length, take, length-append, length-drop}
use Rattle.std.specs.Prelude.{Option, unwrap_or}
use Rattle.session.specs.Moved.{Moved}
use Rattle.replies.specs.Table.{table}
use Rattle.stream.proofs.BatchLaws.{table_narrow, enough_room}
use Rattle.records.proofs.StopLaws.{left_short}
use Rattle.records.specs.Codes.{number_s}
use Rattle.decide.specs.Decide.{after_s}
use Rattle.decide.specs.declared.Next.{Next}
use Rattle.decide.specs.declared.Next.TheVariants.{Go}
use Rattle.session.specs.Session.{piece}
use Rattle.session.specs.Post.{Passed}
use Rattle.session.proofs.ReadLaws.{heard_of, full, part, behind, behind_passed}
use Rattle.session.proofs.LoopLaws.{kept_is}
use Rattle.serve.specs.Session.{there, done, answering}
use Rattle.serve.specs.Turn.{Turned}
use Rattle.serve.specs.declared.relay.Round.{Round}

-- n bytes were read, and the batch was over those and the first `have`
module _ (have n : ℕ) (first ys before b after : List ℕ) (got : Option ℕ) (r : Round) (x : Next) where
  pub batch_passed : have ≤ length first → length ys ≡ length (part have first) → Moved (length ys) got → n ≡ unwrap_or got 0 →
      Turned (take (have + n) (full have first ys)) before r b after → x ≡ after_s got (number_s r.code) r.kept r.sent →
      Passed (answering (length before)) (length first) (take have first) x b
  batch_passed h same m en t ex =
      let rest = take have first in
      let s = there rest (heard_of got ys) in
      let u : Turned s before r b after = subst (λ (y : List ℕ). Turned y before r b after) (ap (λ (k : ℕ). take (have + k) (full have first ys)) en ∙ behind have first ys got h same m) t in
      let read = (done (length before) rest (heard_of got ys)).tally.read in
      behind_passed have first ys got h same m (answering (length before)) x b (number_s r.code) r.kept r.sent (ap number_s u.code)
      (u.kept ∙ sym (length-drop read s)) u.rest ex

-- what is carried over is what the batch left, which is less than a record
pub kept_small : (size room : ℕ) (rest : List ℕ) (x : Next) (b : List ℕ) → Passed (answering room) size rest x b → (kept : ℕ) → x ≡ Go kept →
    2 * size ≤ room → kept ≤ 8
kept_small size room rest x b p kept e h =
    let k = kept_is (answering room) size rest x b p kept e in
    let s = there rest p.event.heard in
    let a = length-append rest (piece p.event.heard) in
    let small = enough_room s room (omega (arith, p.fits)) in
    omega (arith, k.0, left_short 8 table table_narrow s room (λ u. k.1 (ap number_s u)) (λ f. omega (arith, small, ap number_s f)))
