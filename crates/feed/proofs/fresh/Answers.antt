-- `feed::fresh` meets its contract: a batch, and then an ending by its code. Assumes nothing.
use mathlib.Core.Path.{◌≡◌, refl, sym, ap, ◌∙◌}
use mathlib.Core.List.{List, []}
use Prim.Native.Nat.{ℕ, ◌+◌, ◌-◌, ◌≤◌, ◌<◌}
use native.Mathlib.Omega.{arith}
use lib.ListN.{length, take, drop, get_or, length-drop}
use lib.Seq.{take_all}
use Rattle.records.specs.declared.Code.TheVariants.{Done, Unknown, Full}
use Rattle.records.specs.Row.{row_in}
use Rattle.records.specs.Run.{run}
use Rattle.records.specs.Did.{Did}
use Rattle.records.specs.declared.Code.{Code}
use Rattle.records.specs.declared.Report.{Report}
use Rattle.replies.specs.Table.{table}
use Rattle.replies.proofs.TableLaws.{row_width}
use Rattle.kinds.specs.Kinds.{shape_of}
use Rattle.feeding.specs.Feed.{Open, Stopped, Call, ends, goes, takes}
use Rattle.feeding.proofs.RecordLaws.{ending}
use Rattle.feed.specs.Fields.{fields}
use Rattle.feed.specs.Post.{Pushed}
use Rattle.feed.specs.declared.Fed.{Fed}
use Rattle.feed.proofs.FreshLaws.{inside, pushed_run, left_full, kind_is}
use Rattle.feed.proofs.fresh.Goals as goal
use Rattle.feed.proofs.fresh.Goals.{in-Unknown, in-Cut, in-Full, in-Done}

-- the batch, from where its code was looked at
module _ (piece answers after : List ℕ) (t : Report Code) (did : Did (run table piece (length answers)) t 0 answers after) where
  abbrev left : List ℕ
  left = drop t.tally.read piece

  read_in : t.tally.read ≤ length piece
  read_in = inside table piece answers after t did

  -- where the answer had no room: the record is there, and its kind has this width
  no_room : t.code ≡ Full → (t.tally.read < length piece) × (t.tally.read + (shape_of (get_or piece t.tally.read 0)).body ≤ length piece)
  no_room f =
      let l = left_full table piece answers after t did f in
      (l.0, omega (arith, l.1, row_width (get_or piece t.tally.read 0)))

  -- the report of a call that ends so
  ended : (e : Call) (r : Fed) → ending table left t.code ≡ e → e.bytes ≡ [] → r.feed ≡ fields e.feed → r.taken ≡ t.tally.read + e.taken →
      r.written ≡ t.tally.written → r.code ≡ e.code → Pushed (takes table [] piece (length answers)) r answers after
  ended = pushed_run table piece answers after t did

-- what the batch left is in reach
inside_of : (c : goal.In-Cut) → c.batch-t.result.tally.read ≤ length c.args.piece.now
inside_of c = read_in c.args.piece.now c.args.answers.now c.batch-t.new.answers c.batch-t.result c.batch-t.ensures

pub overflow_sub-piece : goal.overflow_sub-piece
overflow_sub-piece c = inside_of c

pub holding-cut-requires : goal.holding-cut-requires
holding-cut-requires c = omega (arith, inside_of c)

pub bounds-piece-read : goal.bounds-piece-read
bounds-piece-read c = (no_room c.args.piece.now c.args.answers.now c.batch-t.new.answers c.batch-t.result c.batch-t.ensures c.in-Full.is).0

-- the record that had no room is there
there : (c : goal.After-body-width) → c.batch-t.result.tally.read + c.body-width.result ≤ length c.args.piece.now
there c = omega (arith, (no_room c.args.piece.now c.args.answers.now c.batch-t.new.answers c.batch-t.result c.batch-t.ensures c.in-Full.is).1, c.body-width.ensures)

pub holding-requires : goal.holding-requires
holding-requires c = there c

pub overflow_add-taken : goal.overflow_add-taken
overflow_add-taken c =
    let n = no_room c.args.piece.now c.args.answers.now c.batch-t.new.answers c.batch-t.result c.batch-t.ensures c.in-Full.is in
    record { fits = omega (arith, n.1, c.body-width.ensures) }

pub returns : goal.returns
returns c =
    let t = c.batch-t.result in
    let p = c.args.piece.now in
    let a = c.args.answers.now in
    let after = c.batch-t.new.answers in
    let did = c.batch-t.ensures in
    let rest = drop t.tally.read p in
    elim c.match-t.branch [
      | in-Unknown w ↦
          ended p a after t did (ends Stopped Unknown) _ (ap (ending table rest) w.in-Unknown.is) refl (ap (λ y. y.0) w.taken-is ∙ w.stopped.ensures)
          (ap (λ y. y.1) w.taken-is ∙ omega arith) refl (ap (λ y. y.2) w.taken-is)
      | in-Cut w ↦
          let d = length-drop t.tally.read p in
          let l = read_in p a after t did in
          let f : take (length p - t.tally.read) rest ≡ rest = take_all (length p - t.tally.read) rest (omega arith) in
          ended p a after t did (goes (length rest) [] (ends (Open rest) Done)) _ (ap (ending table rest) w.in-Cut.is) refl
          (ap (λ y. y.0) w.taken-is ∙ w.holding-cut.ensures ∙ ap (λ (y : List ℕ). fields (Open y)) f) (ap (λ y. y.1) w.taken-is ∙ omega arith) refl (ap (λ y. y.2) w.taken-is)
      | in-Full w ↦
          let e : (row_in table (get_or rest 0 0)).width ≡ w.body-width.result =
          ap (λ (k : ℕ). (row_in table k).width) (kind_is table p a after t did) ∙ row_width (get_or p t.tally.read 0) ∙ sym w.body-width.ensures in
          ended p a after t did (goes w.body-width.result [] (ends (Open (take w.body-width.result rest)) Full)) _
          (ap (ending table rest) w.in-Full.is ∙ ap (λ (n : ℕ). goes n [] (ends (Open (take n rest)) Full)) e)
          refl (ap (λ y. y.0) w.taken-is ∙ w.holding.ensures) (ap (λ y. y.1) w.taken-is ∙ omega arith) refl (ap (λ y. y.2) w.taken-is)
      | in-Done w ↦
          ended p a after t did (ends (Open []) Done) _ (ap (ending table rest) w.in-Done.is) refl (ap (λ y. y.0) w.taken-is ∙ w.empty.ensures)
          (ap (λ y. y.1) w.taken-is ∙ omega arith) refl (ap (λ y. y.2) w.taken-is)
    ]
