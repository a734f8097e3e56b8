-- `text::names::name_of` meets its contract: the first row of that kind has the head. Assumes nothing.
use mathlib.Core.Path.{sym, ◌∙◌}
use native.Mathlib.Omega.{arith}
use Rattle.text.specs.Names.{names}
use Rattle.text.proofs.RowLaws.{row_here, row_later, rows_end}
use Rattle.text.proofs.names.name_of.Goals as goal

pub returns-then-row-kind : goal.returns-then-row-kind
returns-then-row-kind c =
    let l = c.loop-row in
    sym (row_here c.args.kind _ c.rows-row-items.result.now names l.row-index c.rows-row-items.ensures (omega arith) (sym c.if-row-kind.true)) ∙ l.invariant

pub loop-row-preserved : goal.loop-row-preserved
loop-row-preserved c =
    let l = c.loop-row in
    row_later c.args.kind _ c.rows-row-items.result.now names l.row-index c.rows-row-items.ensures (omega arith) (λ e. c.if-row-kind.false (sym e)) ∙ l.invariant

pub returns : goal.returns
returns c =
    let l = c.loop-row in
    sym (rows_end c.args.kind c.rows-row-items.result.now names l.row-index c.rows-row-items.ensures c.loop-row-test.false) ∙ l.invariant
