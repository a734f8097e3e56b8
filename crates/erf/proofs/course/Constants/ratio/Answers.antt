-- `erf::course::Constants::ratio` meets its contract. Assumes nothing.
use mathlib.Core.Path.{◌∙◌}
use Rattle.erf.proofs.ErfCode as code
use Rattle.erf.proofs.course.Constants.ratio.Goals as goal

pub returns-then-ix-self : goal.returns-then-ix-self
returns-then-ix-self g c =
    g.met.R.Real.div_law _ _ _ c.div.ensures ∙ code.ratio_near _ _ c.if-ix-self.true c.horner.ensures c.horner-then-ix-self.ensures

pub returns : goal.returns
returns g c =
    g.met.R.Real.div_law _ _ _ c.div-2.ensures ∙ code.ratio_far _ _ c.if-ix-self.false c.horner-2.ensures c.horner-3.ensures
