-- `text::ask_as` meets its contract: the head first, and then what stands behind it. Assumes nothing.
use mathlib.Core.Path.{sym, ap, ◌∙◌}
use Rattle.text.specs.Line.{asked_by}
use Rattle.text.proofs.HeadLaws.{begins_is, as_not, as_so}
use Rattle.text.proofs.ask_as.Goals as goal

pub returns-in_err-digits : goal.returns-in_err-digits
returns-in_err-digits c =
    let a = c.args in
    c.from_residual.ensures ∙ sym (as_not a.row.head.now a.row.kind a.line.now (sym (begins_is a.row.head.now a.line.now) ∙ c.in_err-digits.ensures.cases))

pub returns : goal.returns
returns c =
    let a = c.args in
    let k = c.in_ok-digits.ensures.cases in
    c.ask_kind.ensures ∙ ap (asked_by a.row.kind) k.1
    ∙ sym (as_so a.row.head.now a.row.kind a.line.now (sym (begins_is a.row.head.now a.line.now) ∙ k.0))
