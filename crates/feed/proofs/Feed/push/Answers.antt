-- `feed::Feed::push` meets its contract: by what the fields mean. Assumes nothing.
use mathlib.Core.Path.{◌≡◌, refl, sym, ap, ◌∙◌, subst}
use mathlib.Core.List.{List, [], ◌++◌}
use Prim.Native.Nat.{ℕ, ◌+◌, ◌%◌, ◌≤◌}
use native.Mathlib.Omega.{arith}
use lib.ListN.{length, take}
use lib.Seq.{take-length}
use Rattle.records.specs.declared.Code.TheVariants.{Done, Unknown}
use Rattle.records.specs.Row.{row_in}
use Rattle.digits.specs.Digits.{digits}
use Rattle.feeding.specs.Feed.{State, Open, Stopped, Call, ends, goes, call}
use Rattle.feeding.proofs.TakeLaws.{begun_none, call_open}
use Rattle.replies.specs.Table.{table}
use Rattle.replies.proofs.TableLaws.{row_width, width_small}
use Rattle.kinds.specs.Kinds.{shape_of}
use Rattle.feed.specs.Fields.{fields, meant}
use Rattle.feed.specs.Post.{Pushed}
use Rattle.feed.proofs.FieldLaws.{meant_none, opened, held_short, held_stopped}
use Rattle.feed.proofs.RestLaws.{pushed}
use Rattle.feed.proofs.Feed.push.Goals as goal

-- where the kind was looked up
width_is : (x w : ℕ) → w ≡ (shape_of (x % 256)).body → w ≡ (row_in table (x % 256)).width
width_is x w e = e ∙ sym (row_width (x % 256))

small : (x : ℕ) → (row_in table (x % 256)).width ≤ 8
small x = width_small (x % 256)

pub returns-then-have-eq0 : goal.returns-then-have-eq0
returns-then-have-eq0 c =
    let a = c.args in
    let e : call table (meant a.self) a.piece.now (length a.answers.now) ≡ _ =
    ap (λ (y : State). call table y a.piece.now (length a.answers.now)) (meant_none a.self c.if-have-eq0.true)
    ∙ call_open table [] a.piece.now (length a.answers.now) (begun_none table) in
    subst (λ (y : Call). Pushed y c.fresh.result a.answers.now c.fresh.new.answers) (sym e) c.fresh.ensures

pub returns-then-width-have : goal.returns-then-width-have
returns-then-width-have c =
    let a = c.args in
    let w = width_is a.self.held c.body-width.result c.body-width.ensures in
    pushed _ (ends Stopped Unknown) _ a.answers.now _
    ((held_stopped table a.self (omega (arith, c.if-have-eq0.false)) (omega (arith, w, c.if-width-have.true))).0 a.piece.now (length a.answers.now))
    refl refl c.stopped.ensures refl refl refl

pub overflow_add-width : goal.overflow_add-width
overflow_add-width c =
    let w = width_is c.args.self.held c.body-width.result c.body-width.ensures in
    record { fits = omega (arith, w, small c.args.self.held) }

pub joined-record-requires : goal.joined-record-requires
joined-record-requires c =
    let w = width_is c.args.self.held c.body-width.result c.body-width.ensures in
    let s = small c.args.self.held in
    ((omega arith, omega (arith, w, s)), omega (arith, w, s, c.if-have-eq0.false))

pub holding-requires : goal.holding-requires
holding-requires c =
    let w = width_is c.args.self.held c.body-width.result c.body-width.ensures in
    omega (arith, w, small c.args.self.held)

pub returns-then-piece-width : goal.returns-then-piece-width
returns-then-piece-width c =
    let a = c.args in
    let w = width_is a.self.held c.body-width.result c.body-width.ensures in
    let h = digits a.self.length a.self.held in
    let j : take (a.self.length + length a.piece.now) c.joined-record.result ≡ h ++ a.piece.now =
    c.joined-record.ensures ∙ ap (λ (y : List ℕ). h ++ y) (take-length a.piece.now) in
    pushed _ (goes (length a.piece.now) [] (ends (Open (h ++ a.piece.now)) Done)) _ a.answers.now _
    (held_short table a.self (omega (arith, c.if-have-eq0.false)) (small a.self.held) (omega (arith, w)) a.piece.now (length a.answers.now)
    (omega (arith, w, c.if-piece-width.true)))
    refl refl (c.holding.ensures ∙ ap (λ (y : List ℕ). fields (Open y)) j) (omega arith) refl refl

pub whole-requires : goal.whole-requires
whole-requires c =
    let w = width_is c.args.self.held c.body-width.result c.body-width.ensures in
    ((omega (arith, c.if-have-eq0.false), omega arith), (w, omega (arith, c.if-piece-width.false)))

pub returns : goal.returns
returns c =
    let a = c.args in
    let w = width_is a.self.held c.body-width.result c.body-width.ensures in
    subst (λ (y : Call). Pushed y c.whole.result a.answers.now c.whole.new.answers)
    (sym (opened table a.self (omega (arith, c.if-have-eq0.false)) (small a.self.held) (omega (arith, w)) a.piece.now (length a.answers.now))) c.whole.ensures
