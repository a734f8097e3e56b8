-- `scalbn::up` meets its contract. Assumes nothing.
use mathlib.Core.Path.{◌∙◌}
use Rattle.scalbn.proofs.ScalbnCode as code
use Rattle.scalbn.proofs.up.Goals as goal

pub returns-then-n2-max : goal.returns-then-n2-max
returns-then-n2-max g c =
    code.by_three _ _ _ c.ranges.n c.requires (c.EXP_MAX-max.ensures ∙ g.met.R.Scale.max_law) _ _ _ c.power-greatest.ensures
    (g.met.R.Real.mul_law _ _ _ c.mul-x1.ensures) _ (g.met.R.Real.mul_law _ _ _ c.mul-x2.ensures) c.if-n1-max.true _
    (g.met.R.Real.mul_law _ _ _ c.mul.ensures) c.if-n2-max.true

pub power-requires : goal.power-requires
power-requires g c =
    code.held2_normal _ _ _ c.ranges.n c.requires (c.EXP_MAX-max.ensures ∙ g.met.R.Scale.max_law) c.if-n1-max.true c.if-n2-max.false

pub returns-then-n1-max : goal.returns-then-n1-max
returns-then-n1-max g c =
    code.by_two _ _ _ c.ranges.n c.requires (c.EXP_MAX-max.ensures ∙ g.met.R.Scale.max_law) _ _ _ c.power-greatest.ensures
    (g.met.R.Real.mul_law _ _ _ c.mul-x1.ensures) _ (g.met.R.Real.mul_law _ _ _ c.mul-x2.ensures) c.if-n1-max.true _ _ c.power.ensures
    (g.met.R.Real.mul_law _ _ _ c.mul-then-n1-max.ensures) c.if-n2-max.false

pub power-requires-2 : goal.power-requires-2
power-requires-2 g c =
    code.held1_normal _ _ _ c.ranges.n c.requires (c.EXP_MAX-max.ensures ∙ g.met.R.Scale.max_law) c.if-n1-max.false

pub returns : goal.returns
returns g c =
    code.by_one _ _ _ c.ranges.n c.requires (c.EXP_MAX-max.ensures ∙ g.met.R.Scale.max_law) _ _ _ c.power-greatest.ensures
    (g.met.R.Real.mul_law _ _ _ c.mul-x1.ensures) _ _ c.power-2.ensures (g.met.R.Real.mul_law _ _ _ c.mul-2.ensures) c.if-n1-max.false
