-- `exp::reduced` meets its contract. Assumes nothing.
use Rattle.std.proofs.Common.{◌∙◌}
use Rattle.exp.proofs.ExpCode as code
use Rattle.exp.proofs.reduced.Goals as goal

pub returns : goal.returns
returns g c =
    let l = g.met.R.Real in
    c.primary.ensures
    ∙ code.reduced_by _ _ _ c.ranges.k _ c.of_int-kf.ensures _ (l.mul_law _ _ _ c.mul.ensures) _ (l.sub_law _ _ _ c.sub-hi.ensures)
    _ (l.mul_law _ _ _ c.mul-lo.ensures) _ (l.sub_law _ _ _ c.sub.ensures)
