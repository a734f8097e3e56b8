-- `text::trip::LinesStep::step` meets its contract: the tests that led to each return say which case of `to_request` it is. Assumes nothing.
use mathlib.Core.Path.{◌≡◌, refl, sym, ap, ◌∙◌}
use mathlib.Core.List.{List, []}
use borrow.Author.Rules.{rules}
use borrow.Author.Tests.{eqb-true}
use Prim.Native.Nat.{ℕ, ◌+◌, ◌-◌, ◌≤◌, ◌<◌, min}
use native.Mathlib.Omega.{arith}
use lib.ListN.{length, take}
use lib.Seq.{sets, length-take-le}
use Rattle.std.proofs.lemmas.List.{nil_from_length}
use Rattle.kinds.specs.Kinds.{shape_of}
use Rattle.kinds.proofs.ShapeLaws.{body_small}
use Rattle.records.specs.Did.{Did}
use Rattle.records.specs.declared.Code.TheVariants.{Done, Unknown, Full}
use Rattle.records.specs.declared.Code.{Code}
use Rattle.records.specs.declared.Report.{Report}
use Rattle.records.proofs.StepLaws.{did_stop, did_took}
use Rattle.text.specs.Names.{names}
use Rattle.text.specs.Line.{asked, Asked, Bad, Ask}
use Rattle.text.specs.Trip.{record_of, first_line, to_request}
use Rattle.text.proofs.PlaceLaws.{first_take, first_in, length_record, as_full, as_whole, request_at}
use Rattle.text.proofs.trip.LinesStep.step.Goals as goal

-- how many bytes of a text are read behind the first one of its first line
abbrev more : List ℕ → ℕ
more s = min (length (first_line s)) (length s - 1)

-- what the first line asks for
says : (s : List ℕ) (end : ℕ) (a : Asked) → end ≡ length (first_line s) → a ≡ asked names (take end s) → asked names (first_line s) ≡ a
says s end a n e = ap (asked names) (sym (ap (λ (k : ℕ). take k s) n ∙ first_take s)) ∙ sym e

-- where it asks for something, and is taken, where there is room and its request was written
taken : (s : List ℕ) (room kind bits : ℕ) → 0 < length s → asked names (first_line s) ≡ Ask kind bits → (r : Report Code) (read n : ℕ) (requests after : List ℕ) →
    n ≡ 1 + (shape_of kind).body → n ≤ room → r ≡ record { code = Done; tally = record { records = 1; read = read; written = n } } → read ≡ 1 + more s →
    after ≡ sets requests 0 (record_of kind bits) → Did (to_request names s room) r 0 requests after
taken s room kind bits here asks r read n requests after en fits er el put =
    let l = length_record kind bits in
    did_took _ r (more s) n 0 (record_of kind bits) requests after
    (er ∙ ap {B = Report Code} (λ (k : ℕ). record { code = Done; tally = record { records = 1; read = k; written = n } }) el)
    (request_at names s room (more s) (Ask kind bits) here refl asks ∙ as_whole (more s) room kind bits (omega arith)) (omega arith) put

pub returns-then-is_empty : goal.returns-then-is_empty
unfolding to_request
returns-then-is_empty c =
    let none : c.args.text.now ≡ [] = nil_from_length _ (eqb-true (length c.args.text.now) 0 (sym c.is_empty.ensures ∙ c.if-is_empty.true)) in
    did_stop _ _ Done 0 c.args.requests.now c.stopped.ensures (ap (λ (x : List ℕ). to_request names x (length c.args.requests.now)) none)

pub slice_bounds-ask-end : goal.slice_bounds-ask-end
slice_bounds-ask-end c = sym (length-take-le c.line_end-end.result c.args.text.now (omega (arith, c.line_end-end.ensures, first_in c.args.text.now)))

pub overflow_add-n : goal.overflow_add-n
overflow_add-n c = record { fits = omega (arith, c.body-n.ensures, body_small c.in-Some.request.kind) }

pub returns-then-requests-n : goal.returns-then-requests-n
returns-then-requests-n c =
    let s = c.args.text.now in
    let here : 0 < length s = search rules in
    let room = length c.args.requests.now in
    let k = c.in-Some.request.kind in
    let b = c.in-Some.request.bits in
    did_stop _ _ Full 0 c.args.requests.now c.stopped-then-requests-n.ensures
    (request_at names s room (more s) (Ask k b) here refl (says s _ (Ask k b) c.line_end-end.ensures c.in-Some.ensures)
    ∙ as_full (more s) room k b (omega (arith, c.body-n.ensures)))

pub returns-in-None : goal.returns-in-None
returns-in-None c =
    let s = c.args.text.now in
    let here : 0 < length s = search rules in
    did_stop _ _ Unknown 0 c.args.requests.now c.stopped-in-None.ensures
    (request_at names s (length c.args.requests.now) (more s) Bad here refl (says s _ Bad c.line_end-end.ensures c.in-None.ensures))

pub returns-then-end-text : goal.returns-then-end-text
returns-then-end-text c =
    let s = c.args.text.now in
    let here : 0 < length s = search rules in
    let k = c.in-Some.request.kind in
    let b = c.in-Some.request.bits in
    taken s (length c.args.requests.now) k b here (says s _ (Ask k b) c.line_end-end.ensures c.in-Some.ensures)
    _ _ (1 + c.body-n.result) c.args.requests.now c.put_record.new.requests (ap (1 +◌) c.body-n.ensures) (omega arith) c.took.ensures (omega (arith, c.line_end-end.ensures))
    c.put_record.ensures

pub returns-else-end-text : goal.returns-else-end-text
returns-else-end-text c =
    let s = c.args.text.now in
    let here : 0 < length s = search rules in
    let k = c.in-Some.request.kind in
    let b = c.in-Some.request.bits in
    taken s (length c.args.requests.now) k b here (says s _ (Ask k b) c.line_end-end.ensures c.in-Some.ensures)
    _ _ (1 + c.body-n.result) c.args.requests.now c.put_record.new.requests (ap (1 +◌) c.body-n.ensures) (omega arith) c.took-else-end-text.ensures
    (omega (arith, c.line_end-end.ensures, first_in s)) c.put_record.ensures
