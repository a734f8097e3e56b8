-- `text::ask` meets its contract: an empty line is bad, and of another the first row that says something tells. Assumes nothing.
use Rattle.std.specs.Prelude.{Some, None}
use mathlib.Core.Path.{sym, ap, ◌∙◌}
use native.Mathlib.Omega.{arith}
use borrow.Author.Tests.{eqb-true}
use lib.ListN.{length}
use Rattle.std.proofs.lemmas.List.{nil_from_length}
use Rattle.text.specs.Names.{names}
use Rattle.text.specs.Line.{asked}
use Rattle.text.proofs.LineLaws.{empty_bad}
use Rattle.text.proofs.RowLaws.{ask_row, ask_end}
use Rattle.text.proofs.ask.Goals as goal

pub returns-then-is_empty : goal.returns-then-is_empty
returns-then-is_empty c =
    let none = nil_from_length _ (eqb-true (length c.args.line.now) 0 (sym c.is_empty.ensures ∙ c.if-is_empty.true)) in
    sym (ap (asked names) none ∙ empty_bad)

pub returns-in-Some : goal.returns-in-Some
returns-in-Some c =
    let l = c.loop-row in
    let t = c.rows-row-items in
    sym (ask_row c.args.line.now _ t.result.now names l.row-index (Some c.in-Some.request) t.ensures (omega arith) c.in-Some.ensures) ∙ l.invariant

pub loop-row-preserved : goal.loop-row-preserved
loop-row-preserved c =
    let l = c.loop-row in
    let t = c.rows-row-items in
    sym (ask_row c.args.line.now _ t.result.now names l.row-index None t.ensures (omega arith) c.in_default.ensures) ∙ l.invariant

pub returns : goal.returns
returns c =
    let l = c.loop-row in
    let t = c.rows-row-items in
    sym (ask_end c.args.line.now t.result.now names l.row-index t.ensures c.loop-row-test.false) ∙ l.invariant
