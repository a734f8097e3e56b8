-- `exp::plain` meets its contract. Assumes nothing.
use Rattle.std.proofs.Common.{ap, ◌∙◌}
use borrow.Author.Rules.{sfits_of}
use Rattle.exp.proofs.ExpCode as code
use Rattle.exp.proofs.plain.Goals as goal

pub returns-then-hx-c : goal.returns-then-hx-c
returns-then-hx-c g c =
    let m = c.multiple in
    c.reduced.ensures ∙ code.by_multiple _ _ _ _ m.result (sfits_of m.type_inv) m.ensures c.if-hx-c.true

pub returns-then-hx-c-2 : goal.returns-then-hx-c-2
returns-then-hx-c-2 g c =
    c.primary.ensures ∙ code.by_itself _ _ _ _ _ (ap g.R.Real.float c.ZERO.ensures) c.if-hx-c.false c.if-hx-c-2.true

pub returns : goal.returns
returns g c = code.tiny _ _ _ _ _ (ap g.R.Real.float c.ONE.ensures) _ (g.met.R.Real.add_law _ _ _ c.add.ensures) c.if-hx-c.false c.if-hx-c-2.false
