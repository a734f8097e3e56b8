-- `logarithm::near` meets its contract. Assumes nothing.
use Rattle.std.proofs.Common.{ap}
use Rattle.logarithm.specs.Constants.{plan_with}
use Rattle.logarithm.proofs.NearCode.{sum_is}
use Rattle.logarithm.proofs.near.Goals as goal

pub returns : goal.returns
returns g c p =
    let l = g.met.R.Real in
    let float = g.R.Real.float in
    sum_is (plan_with p g.R.Real.format float g.R.Real.HALF g.R.Real.ONE g.R.Real.TWO c.args.c.now) _ _ c.ranges.k
    _ (ap float c.ONE.ensures) _ (l.sub_law _ _ _ c.sub-f.ensures) _ (ap float c.TWO.ensures) _ (l.add_law _ _ _ c.add.ensures)
    _ (l.div_law _ _ _ c.div-s.ensures) _ (l.mul_law _ _ _ c.mul-z.ensures) _ (l.mul_law _ _ _ c.mul-w.ensures)
    _ c.horner.ensures _ (l.mul_law _ _ _ c.mul-t2.ensures) _ c.horner-2.ensures _ (l.mul_law _ _ _ c.mul-t1.ensures)
    _ (l.add_law _ _ _ c.add-r.ensures) _ (ap float c.HALF.ensures) _ (l.mul_law _ _ _ c.mul.ensures) _ (l.mul_law _ _ _ c.mul-hfsq.ensures)
    _ c.of_int-dk.ensures _ (l.add_law _ _ _ c.add-2.ensures) _ (l.mul_law _ _ _ c.mul-2.ensures) _ (l.mul_law _ _ _ c.mul-3.ensures)
    _ (l.add_law _ _ _ c.add-3.ensures) _ (l.sub_law _ _ _ c.sub.ensures) _ (l.add_law _ _ _ c.add-4.ensures)
    _ (l.mul_law _ _ _ c.mul-4.ensures) _ (l.add_law _ _ _ c.add-5.ensures)
