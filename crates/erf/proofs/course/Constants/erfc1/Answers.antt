-- `erf::course::Constants::erfc1` meets its contract. Assumes nothing.
use mathlib.Core.Path.{refl}
use Rattle.erf.specs.Plan.{erfc1_s}
use Rattle.erf.proofs.course.Constants.erfc1.Goals as goal

pub returns : goal.returns
unfolding erfc1_s
returns g c =
    let m = g.met.R.Real in
    rw (m.sub_law _ _ _ c.sub-2.ensures, m.div_law _ _ _ c.div.ensures, m.sub_law _ _ _ c.sub.ensures, c.horner-q.ensures, c.horner-p.ensures, m.sub_law _ _ _ c.sub-s.ensures, c.fabs.ensures) refl
