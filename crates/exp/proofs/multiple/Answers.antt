-- `exp::multiple` meets its contract. Assumes nothing.
use Rattle.std.proofs.Common.{ap, ◌∙◌}
use Rattle.whole.proofs.WholeLaws.{whole_held}
use Rattle.exp.proofs.ExpCode as code
use Rattle.exp.proofs.multiple.Goals as goal

pub returns-then-sign-eq0 : goal.returns-then-sign-eq0
returns-then-sign-eq0 g c =
    let l = g.met.R.Real in
    whole_held _ c.whole.ensures.0
    ∙ code.nearest_plus _ _ _ _ _ (l.mul_law _ _ _ c.mul.ensures) _ (ap g.R.Real.float c.HALF.ensures) _ (l.add_law _ _ _ c.add.ensures) c.if-hx-c.true c.if-sign-eq0.true

pub returns-then-hx-c : goal.returns-then-hx-c
returns-then-hx-c g c =
    let l = g.met.R.Real in
    whole_held _ c.whole-then-hx-c.ensures.0
    ∙ code.nearest_minus _ _ _ _ _ (l.mul_law _ _ _ c.mul-then-hx-c.ensures) _ (l.add_law _ _ _ c.add-then-hx-c.ensures) c.if-hx-c.true c.if-sign-eq0.false

pub returns-then-sign-eq0-2 : goal.returns-then-sign-eq0-2
returns-then-sign-eq0-2 g c = code.once_plus _ _ _ _ c.if-hx-c.false c.if-sign-eq0-2.true

pub returns : goal.returns
returns g c = code.once_minus _ _ _ _ c.if-hx-c.false c.if-sign-eq0-2.false
