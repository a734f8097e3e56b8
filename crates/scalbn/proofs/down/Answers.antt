-- `scalbn::down` meets its contract. Assumes nothing.
use mathlib.Core.Path.{◌∙◌}
use Rattle.scalbn.proofs.ScalbnCode as code
use Rattle.scalbn.proofs.down.Goals as goal

pub overflow_add-n1 : goal.overflow_add-n1
overflow_add-n1 g c =
    code.under1_fits _ _ _ _ c.ranges.n c.requires (c.EXP_MIN-min.ensures ∙ g.met.R.Scale.min_law)
    (c.SIG_TOTAL_BITS-bits.ensures ∙ g.met.R.Scale.bits_law)

pub overflow_add-n2 : goal.overflow_add-n2
overflow_add-n2 g c =
    code.under2_fits _ _ _ _ c.ranges.n c.requires (c.EXP_MIN-min.ensures ∙ g.met.R.Scale.min_law)
    (c.SIG_TOTAL_BITS-bits.ensures ∙ g.met.R.Scale.bits_law) c.if-n1-min.true

pub mul-requires : goal.mul-requires
mul-requires g c =
    g.met.R.Real.can_mul_law _ _

pub returns-then-n2-min : goal.returns-then-n2-min
returns-then-n2-min g c =
    code.down_by_three _ _ _ _ c.ranges.n c.requires (c.EXP_MIN-min.ensures ∙ g.met.R.Scale.min_law)
    (c.SIG_TOTAL_BITS-bits.ensures ∙ g.met.R.Scale.bits_law) _ _ _ _ _ c.power-least.ensures c.power.ensures
    (g.met.R.Real.mul_law _ _ _ c.mul-mul.ensures) (g.met.R.Real.mul_law _ _ _ c.mul-x1.ensures) _
    (g.met.R.Real.mul_law _ _ _ c.mul-x2.ensures) c.if-n1-min.true _ (g.met.R.Real.mul_law _ _ _ c.mul.ensures) c.if-n2-min.true

pub power-requires-then-n1-min : goal.power-requires-then-n1-min
power-requires-then-n1-min g c =
    code.under2_normal _ _ _ _ c.ranges.n c.requires (c.EXP_MIN-min.ensures ∙ g.met.R.Scale.min_law)
    (c.SIG_TOTAL_BITS-bits.ensures ∙ g.met.R.Scale.bits_law) c.if-n1-min.true c.if-n2-min.false

pub mul-requires-then-n1-min : goal.mul-requires-then-n1-min
mul-requires-then-n1-min g c =
    g.met.R.Real.can_mul_law _ _

pub returns-then-n1-min : goal.returns-then-n1-min
returns-then-n1-min g c =
    code.down_by_two _ _ _ _ c.ranges.n c.requires (c.EXP_MIN-min.ensures ∙ g.met.R.Scale.min_law)
    (c.SIG_TOTAL_BITS-bits.ensures ∙ g.met.R.Scale.bits_law) _ _ _ _ _ c.power-least.ensures c.power.ensures
    (g.met.R.Real.mul_law _ _ _ c.mul-mul.ensures) (g.met.R.Real.mul_law _ _ _ c.mul-x1.ensures) _
    (g.met.R.Real.mul_law _ _ _ c.mul-x2.ensures) c.if-n1-min.true _ _ c.power-then-n1-min.ensures
    (g.met.R.Real.mul_law _ _ _ c.mul-then-n1-min.ensures) c.if-n2-min.false

pub power-requires-2 : goal.power-requires-2
power-requires-2 g c =
    code.under1_normal _ _ _ _ c.ranges.n c.requires (c.EXP_MIN-min.ensures ∙ g.met.R.Scale.min_law)
    (c.SIG_TOTAL_BITS-bits.ensures ∙ g.met.R.Scale.bits_law) c.if-n1-min.false

pub mul-requires-2 : goal.mul-requires-2
mul-requires-2 g c =
    g.met.R.Real.can_mul_law _ _

pub returns : goal.returns
returns g c =
    code.down_by_one _ _ _ _ c.ranges.n c.requires (c.EXP_MIN-min.ensures ∙ g.met.R.Scale.min_law)
    (c.SIG_TOTAL_BITS-bits.ensures ∙ g.met.R.Scale.bits_law) _ _ _ _ _ c.power-least.ensures c.power.ensures
    (g.met.R.Real.mul_law _ _ _ c.mul-mul.ensures) (g.met.R.Real.mul_law _ _ _ c.mul-x1.ensures) _ _ c.power-2.ensures
    (g.met.R.Real.mul_law _ _ _ c.mul-2.ensures) c.if-n1-min.false
