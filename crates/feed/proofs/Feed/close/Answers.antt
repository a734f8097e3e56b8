-- `feed::Feed::close` meets its contract: by what the fields mean. Assumes nothing.
use mathlib.Core.Path.{◌≡◌, refl, sym, ap, ◌∙◌, subst}
use mathlib.Core.List.{List, []}
use Prim.Native.Nat.{ℕ, ◌%◌, ◌≤◌, ◌<◌}
use native.Mathlib.Omega.{arith}
use Rattle.digits.specs.Digits.{digits}
use Rattle.records.specs.declared.Code.TheVariants.{Done, Cut}
use Rattle.records.specs.Row.{row_in}
use Rattle.feeding.specs.Feed.{Open, Close, over, close}
use Rattle.feeding.proofs.TakeLaws.{begun_none}
use Rattle.feeding.proofs.Promised.{others_close}
use Rattle.replies.specs.Table.{table}
use Rattle.replies.proofs.TableLaws.{row_width, width_small}
use Rattle.feed.specs.Fields.{meant, fields}
use Rattle.feed.specs.Post.{Shut}
use Rattle.feed.specs.declared.Closed.{Closed}
use Rattle.feed.proofs.FieldLaws.{meant_open, meant_none, held_is, held_begun, held_stopped}
use Rattle.feed.proofs.Feed.close.Goals as goal

shut : (k e : Close) (r : Closed) → k ≡ e → r.feed ≡ fields e.feed → r.code ≡ e.code → Shut k r
shut k e r i f d = subst (λ (y : Close). Shut y r) (sym i) (record { feed = f; code = d })

pub returns-then-have-eq0 : goal.returns-then-have-eq0
returns-then-have-eq0 c =
    let f = c.args.self in
    shut (close table (meant f)) (record { feed = Open []; code = Done }) _
    (ap (close table) (meant_none f c.if-have-eq0.true) ∙ (others_close table [] (begun_none table)).1) c.empty.ensures refl

pub returns-then-body-have : goal.returns-then-body-have
returns-then-body-have c =
    let f = c.args.self in
    shut (close table (meant f)) _ _
    (held_stopped table f (omega (arith, c.if-have-eq0.false)) (omega (arith, c.body.ensures, row_width (f.held % 256), c.if-body-have.true))).1 c.stopped.ensures refl

pub returns : goal.returns
returns c =
    let f = c.args.self in
    let z : 0 < f.length = omega (arith, c.if-have-eq0.false) in
    let w : f.length ≤ (row_in table (f.held % 256)).width = omega (arith, c.body.ensures, c.if-body-have.false, row_width (f.held % 256)) in
    let h = digits f.length f.held in
    shut (close table (meant f)) (record { feed = Open []; code = Cut }) _
    (ap (close table) (meant_open f (omega (arith, width_small (f.held % 256)))) ∙ (others_close table h (held_begun table f.held f.length z w)).1
    ∙ ap (λ (y : List ℕ). record { feed = Open []; code = over y }) (held_is table f.held f.length z))
    c.empty-2.ensures refl
