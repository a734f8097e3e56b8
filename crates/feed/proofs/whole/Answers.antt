-- `feed::whole` meets its contract: a batch over the record that was held and ended, and then a call on the rest. Assumes nothing.
use mathlib.Core.Path.{◌≡◌, refl, sym, ap, ◌∙◌}
use mathlib.Core.List.{List, []}
use mathlib.Core.Logic.{⊎_elim}
use Prim.Native.Nat.{ℕ, ◌+◌, ◌-◌, ◌%◌, ◌≤◌}
use native.Mathlib.Omega.{arith}
use borrow.Author.Rules.{rules}
use lib.ListN.{length, take, drop, length-drop}
use lib.Seq.{sets, length-sets, length-take-le}
use Rattle.records.specs.Codes.{number_s}
use Rattle.records.specs.Row.{row_in}
use Rattle.records.specs.Run.{Out, run}
use Rattle.records.specs.Did.{Did}
use Rattle.records.specs.declared.Code.{Code}
use Rattle.records.specs.declared.Report.{Report}
use Rattle.records.specs.declared.Tally.{Tally}
use Rattle.records.proofs.RunLaws.{run_within}
use Rattle.feeding.specs.Feed.{goes, takes}
use Rattle.feeding.proofs.TakeLaws.{begun_none, takes_good}
use Rattle.feeding.proofs.EndLaws.{takes_fits}
use Rattle.replies.specs.Table.{table}
use Rattle.replies.proofs.TableLaws.{width_small}
use Rattle.feed.specs.Post.{Pushed}
use Rattle.feed.specs.declared.Fed.{Fed}
use Rattle.feed.proofs.RestLaws.{by_batch, pushed, push_on}
use Rattle.feed.proofs.whole.Goals as goal

narrow : (x w : ℕ) → w ≡ (row_in table (x % 256)).width → w ≤ 8
narrow x w e = omega (arith, e, width_small (x % 256))

-- the batch over a record: how many bytes it wrote
module _ (record_s answers after : List ℕ) (t : Report Code) (did : Did (run table record_s (length answers)) t 0 answers after) where
  written_is : t.tally.written ≡ (run table record_s (length answers)).tally.written
  written_is = ap (λ (y : Tally). y.written) did.tally

  fits : t.tally.written ≤ length after
  fits =
      omega (arith, written_is, (run_within table record_s (length answers)).fits, ap length did.buffer, length-sets answers 0 (run table record_s (length answers)).bytes)

-- and the call on the rest
module _ (piece after a b : List ℕ) (n v : ℕ) (r : Fed) (ln : n ≤ length piece) (lv : v ≤ length after)
    (did : Pushed (takes table [] (take (length piece - n) (drop n piece)) (length (take (length after - v) (drop v after)))) r a b) where
  taken_in : n + r.taken ≤ length piece
  taken_in =
      let d = length-drop n piece in
      let k = length-take-le (length piece - n) (drop n piece) (omega arith) in
      let g = takes_good table [] (take (length piece - n) (drop n piece)) (length (take (length after - v) (drop v after))) (begun_none table) in
      omega (arith, g.1, did.taken)

  written_in : v + r.written ≤ length after
  written_in =
      let d = length-drop v after in
      let k = length-take-le (length after - v) (drop v after) (omega arith) in
      let g = takes_fits table [] (take (length piece - n) (drop n piece)) (length (take (length after - v) (drop v after))) (begun_none table) in
      omega (arith, g, did.written)

pub overflow_add-need : goal.overflow_add-need
overflow_add-need c = record { fits = omega (arith, narrow c.args.held c.args.width c.requires.1.0) }

pub joined-record-requires : goal.joined-record-requires
joined-record-requires c =
    let n = narrow c.args.held c.args.width c.requires.1.0 in
    ((omega (arith, c.requires.1.1), omega (arith, n, c.requires.0.1)), omega (arith, n, c.requires.0.0))

pub overflow_add-record : goal.overflow_add-record
overflow_add-record c = record { fits = omega (arith, narrow c.args.held c.args.width c.requires.1.0) }

pub slice_bounds-record-end : goal.slice_bounds-record-end
slice_bounds-record-end c =
    let l : length c.joined-record.result ≡ 9 = search rules in
    omega (arith, l, narrow c.args.held c.args.width c.requires.1.0)

pub slice_bounds-batch-end : goal.slice_bounds-batch-end
slice_bounds-batch-end c =
    let l : length c.joined-record.result ≡ 9 = search rules in
    sym (length-take-le (c.args.width + 1) c.joined-record.result (omega (arith, l, narrow c.args.held c.args.width c.requires.1.0)))

pub holding-requires : goal.holding-requires
holding-requires c =
    let l : length c.joined-record.result ≡ 9 = search rules in
    omega (arith, l, narrow c.args.held c.args.width c.requires.1.0)

pub returns-in-Full : goal.returns-in-Full
returns-in-Full c =
    let a = c.args in
    let q = c.requires in
    let bytes = c.joined-record.result in
    let t = c.batch-t in
    ⊎_elim
    (λ r. pushed _ _ _ a.answers.now t.new.answers r.1 refl (t.ensures.buffer ∙ ap (λ (y : Out). sets a.answers.now 0 y.bytes) r.0) c.holding.ensures (omega arith) refl refl)
    (λ r. let z : ◌≡◌ {A = ℕ} 0 3 = ap number_s (sym r.0 ∙ sym t.ensures.code ∙ c.in-Full.is) in absurd (omega arith))
    (by_batch table a.held a.have a.width a.piece.now bytes q.0.0 q.0.1 q.1.0 q.1.1 c.joined-record.ensures (length a.answers.now))

pub slice_bounds-fresh-count-2 : goal.slice_bounds-fresh-count-2
slice_bounds-fresh-count-2 c = fits (take (c.args.width + 1) c.joined-record.result) c.args.answers.now c.batch-t.new.answers c.batch-t.result c.batch-t.ensures

pub slice_bounds-fresh-start-2 : goal.slice_bounds-fresh-start-2
slice_bounds-fresh-start-2 c = fits (take (c.args.width + 1) c.joined-record.result) c.args.answers.now c.batch-t.new.answers c.batch-t.result c.batch-t.ensures

pub overflow_add-taken : goal.overflow_add-taken
overflow_add-taken c =
    let a = c.args in
    let t = c.batch-t in
    let f = fits (take (a.width + 1) c.joined-record.result) a.answers.now t.new.answers t.result t.ensures in
    let n = taken_in a.piece.now t.new.answers _ _ (a.width + 1 - a.have) t.result.tally.written c.fresh-r.result (omega (arith, c.requires.1.1)) f c.fresh-r.ensures in
    record { fits = omega (arith, n) }

pub overflow_add-written : goal.overflow_add-written
overflow_add-written c =
    let a = c.args in
    let t = c.batch-t in
    let f = fits (take (a.width + 1) c.joined-record.result) a.answers.now t.new.answers t.result t.ensures in
    let n = written_in a.piece.now t.new.answers _ _ (a.width + 1 - a.have) t.result.tally.written c.fresh-r.result (omega (arith, c.requires.1.1)) f c.fresh-r.ensures in
    record { fits = omega (arith, n) }

pub returns : goal.returns
returns c =
    let a = c.args in
    let q = c.requires in
    let bytes = c.joined-record.result in
    let t = c.batch-t in
    let need = a.width + 1 - a.have in
    let o = run table (take (a.width + 1) bytes) (length a.answers.now) in
    let w = written_is (take (a.width + 1) bytes) a.answers.now t.new.answers t.result t.ensures in
    ⊎_elim
    (λ r. absurd (c.in_default.not-Full (t.ensures.code ∙ ap (λ (y : Out). y.code) r.0)))
    (λ r.
    push_on table _ a.piece.now o.bytes a.answers.now t.new.answers c.fresh-r.new.answers need t.result.tally.written c.fresh-r.result _
    (r.1 ∙ ap (λ (n : ℕ). goes need o.bytes (takes table [] (drop need a.piece.now) (length a.answers.now - n))) (sym w))
    (w ∙ (run_within table (take (a.width + 1) bytes) (length a.answers.now)).counts) t.ensures.buffer
    (fits (take (a.width + 1) bytes) a.answers.now t.new.answers t.result t.ensures) c.fresh-r.ensures refl refl refl refl)
    (by_batch table a.held a.have a.width a.piece.now bytes q.0.0 q.0.1 q.1.0 q.1.1 c.joined-record.ensures (length a.answers.now))
