-- `erf::course::Constants::small` meets its contract. Assumes nothing.
use mathlib.Core.Path.{refl}
use Rattle.erf.specs.Plan.{small_s}
use Rattle.erf.proofs.course.Constants.small.Goals as goal

pub returns : goal.returns
unfolding small_s
returns g c =
    let m = g.met.R.Real in
    rw (m.div_law _ _ _ c.div.ensures, c.horner-2.ensures, c.horner.ensures, m.mul_law _ _ _ c.mul-z.ensures) refl
