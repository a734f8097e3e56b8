-- `exp::primary` meets its contract. Assumes nothing.
use Rattle.std.proofs.Common.{ap, ◌∙◌}
use Rattle.exp.specs.Constants.{plan_of}
use Rattle.exp.proofs.ExpCode as code
use Rattle.exp.proofs.primary.Goals as goal

pub returns-then-k-eq0 : goal.returns-then-k-eq0
returns-then-k-eq0 g c =
    let l = g.met.R.Real in
    let p = plan_of g.R.Real.format g.R.Real.float g.R.Real.ZERO g.R.Real.HALF g.R.Real.ONE g.R.Real.TWO c.args.c.now in
    let y_is = code.sum_is p _ _ _ _ (l.mul_law _ _ _ c.mul-xx.ensures) _ c.horner.ensures _ (l.mul_law _ _ _ c.mul.ensures) _ (l.sub_law _ _ _ c.sub-q.ensures)
    _ (l.mul_law _ _ _ c.mul-2.ensures) _ (ap g.R.Real.float c.TWO.ensures) _ (l.sub_law _ _ _ c.sub.ensures) _ (l.div_law _ _ _ c.div.ensures)
    _ (l.sub_law _ _ _ c.sub-2.ensures) _ (l.add_law _ _ _ c.add.ensures) _ (ap g.R.Real.float c.ONE.ensures) _ (l.add_law _ _ _ c.add-y.ensures) in
    code.not_scaled p _ _ _ _ c.ranges.k _ y_is c.if-k-eq0.true

pub returns-else-k-eq0 : goal.returns-else-k-eq0
returns-else-k-eq0 g c =
    let l = g.met.R.Real in
    let p = plan_of g.R.Real.format g.R.Real.float g.R.Real.ZERO g.R.Real.HALF g.R.Real.ONE g.R.Real.TWO c.args.c.now in
    let y_is = code.sum_is p _ _ _ _ (l.mul_law _ _ _ c.mul-xx.ensures) _ c.horner.ensures _ (l.mul_law _ _ _ c.mul.ensures) _ (l.sub_law _ _ _ c.sub-q.ensures)
    _ (l.mul_law _ _ _ c.mul-2.ensures) _ (ap g.R.Real.float c.TWO.ensures) _ (l.sub_law _ _ _ c.sub.ensures) _ (l.div_law _ _ _ c.div.ensures)
    _ (l.sub_law _ _ _ c.sub-2.ensures) _ (l.add_law _ _ _ c.add.ensures) _ (ap g.R.Real.float c.ONE.ensures) _ (l.add_law _ _ _ c.add-y.ensures) in
    c.scalbn.ensures ∙ code.scaled p _ _ _ _ c.ranges.k _ y_is c.if-k-eq0.false
