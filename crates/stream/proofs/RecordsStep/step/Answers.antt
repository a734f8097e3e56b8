-- `stream::RecordsStep::step` meets its contract: the tests that led to each return say which case of `one` it is. Assumes nothing.
use mathlib.Core.Path.{◌≡◌, refl, sym, ap, ◌∙◌, subst}
use mathlib.Core.List.{List, [], ◌∷◌}
use Prim.Native.Nat.{ℕ, suc, ◌+◌, ◌≤◌, ◌<◌}
use native.Mathlib.Omega.{arith}
use lib.ListN.{length, take, get_or}
use Rattle.std.proofs.lemmas.List.{nil_from_length}
use Rattle.digits.specs.Digits.{word}
use Rattle.kinds.specs.Kinds.{longest_answer, shape_of}
use Rattle.records.specs.Reply.{bytes_of}
use Rattle.records.specs.declared.Code.TheVariants.{Done, Unknown, Cut, Full}
use Rattle.records.specs.declared.Reply.{Reply}
use Rattle.records.specs.Row.{row_in}
use Rattle.records.specs.Run.{Out, one}
use Rattle.replies.specs.Table.{table, reply_s}
use Rattle.records.proofs.ReplyLaws.{length_bytes}
use Rattle.replies.proofs.TableLaws.{row_width, reply_longest}
use Rattle.records.proofs.StepLaws.{at_unknown, at_cut, at_full, at_whole, did_stop, did_took}
use Rattle.stream.proofs.BatchLaws.{answered}
use Rattle.stream.proofs.RecordsStep.step.Goals as goal

-- where a kind was looked up: the width of its body is its row's
width_is : (k w : ℕ) → w ≡ (shape_of k).body → w ≡ (row_in table k).width
width_is k w ew = ew ∙ sym (row_width k)

-- where the reply was made: it is the row's, and no longer than the longest answer
module _ (q s : List ℕ) (k : ℕ) (front : q ≡ k ∷ s) (bytes : (i : ℕ) → get_or q i 0 < 256) (w b : ℕ) (r : Reply) (ew : w ≡ (shape_of k).body) (eb : b ≡ word 8 (take w s)) (er : r ≡ reply_s k b) where
  reply_is : bytes_of r ≡ bytes_of ((row_in table k).reply (word w s))
  reply_is = ap bytes_of (answered s w k b r (λ i. subst (λ (x : List ℕ). get_or x (suc i) 0 < 256) front (bytes (suc i))) ew eb er)

  reply_short : 1 + r.width + r.more ≤ longest_answer
  reply_short = subst (λ (n : ℕ). n ≤ longest_answer) (sym (ap length reply_is) ∙ length_bytes r) (reply_longest k (word w s))

-- a step over the bytes in front of which the kind was found
on_front : (q t : List ℕ) (room : ℕ) (o : Out) → q ≡ t → one table t room ≡ o → one table q room ≡ o
on_front q t room o front e = ap (λ (x : List ℕ). one table x room) front ∙ e

pub returns-in_default : goal.returns-in_default
unfolding one
returns-in_default c =
    let none : c.args.requests.now ≡ [] = nil_from_length _ c.in_default.ensures.cases in
    did_stop _ _ Done 0 c.args.answers.now c.stopped.ensures (on_front _ [] (length c.args.answers.now) _ none refl)

pub returns-then-width-eq0 : goal.returns-then-width-eq0
returns-then-width-eq0 c =
    let room = length c.args.answers.now in
    let w = c.body-width in
    did_stop _ _ Unknown 0 c.args.answers.now c.stopped-then-width-eq0.ensures
    (on_front _ _ room _ c.in-Some.ensures.cases.0 (at_unknown table _ c.in-Some.rest.now room w.result (width_is _ _ w.ensures) c.if-width-eq0.true))

pub returns-then-rest-width : goal.returns-then-rest-width
returns-then-rest-width c =
    let room = length c.args.answers.now in
    let w = c.body-width in
    did_stop _ _ Cut 0 c.args.answers.now c.stopped-then-rest-width.ensures
    (on_front _ _ room _ c.in-Some.ensures.cases.0
    (at_cut table _ c.in-Some.rest.now room w.result (width_is _ _ w.ensures) c.if-width-eq0.false c.if-rest-width.true))

pub overflow_add-n : goal.overflow_add-n
overflow_add-n c =
    let short = reply_short c.args.requests.now c.in-Some.rest.now _ c.in-Some.ensures.cases.0 (λ i. (c.type_inv.requests i).fits) c.body-width.result c.get.result
    c.reply_to-r.result c.body-width.ensures c.get.ensures c.reply_to-r.ensures in
    record { fits = omega (arith, short) }

pub overflow_add-n-2 : goal.overflow_add-n-2
overflow_add-n-2 c =
    let short = reply_short c.args.requests.now c.in-Some.rest.now _ c.in-Some.ensures.cases.0 (λ i. (c.type_inv.requests i).fits) c.body-width.result c.get.result
    c.reply_to-r.result c.body-width.ensures c.get.ensures c.reply_to-r.ensures in
    record { fits = omega (arith, short) }

pub returns-then-answers-n : goal.returns-then-answers-n
returns-then-answers-n c =
    let room = length c.args.answers.now in
    let w = c.body-width in
    let r = c.reply_to-r.result in
    let n = length_bytes r in
    did_stop _ _ Full 0 c.args.answers.now c.stopped-then-answers-n.ensures
    (on_front _ _ room _ c.in-Some.ensures.cases.0
    (at_full table _ c.in-Some.rest.now room w.result (width_is _ _ w.ensures) (bytes_of r)
    (reply_is c.args.requests.now c.in-Some.rest.now _ c.in-Some.ensures.cases.0 (λ i. (c.type_inv.requests i).fits) w.result c.get.result r w.ensures c.get.ensures c.reply_to-r.ensures)
    c.if-width-eq0.false (omega arith) (omega arith)))

pub returns : goal.returns
returns c =
    let room = length c.args.answers.now in
    let w = c.body-width in
    let r = c.reply_to-r.result in
    let n = length_bytes r in
    did_took _ _ w.result _ 0 (bytes_of r) c.args.answers.now c.write.new.s c.took.ensures
    (on_front _ _ room _ c.in-Some.ensures.cases.0
    (at_whole table _ c.in-Some.rest.now room w.result (width_is _ _ w.ensures) (bytes_of r)
    (reply_is c.args.requests.now c.in-Some.rest.now _ c.in-Some.ensures.cases.0 (λ i. (c.type_inv.requests i).fits) w.result c.get.result r w.ensures c.get.ensures c.reply_to-r.ensures)
    c.if-width-eq0.false (omega arith) (omega arith)))
    (sym n) c.write.ensures
