-- `lgamma::from2::below8` meets its contract. Assumes nothing.
use Rattle.lgamma.proofs.LgammaCode as code
use Rattle.lgamma.proofs.from2.below8.Goals as goal

pub returns-then-i-ge3 : goal.returns-then-i-ge3
returns-then-i-ge3 g c =
    let r = g.met.R.Real in
    let e = g.met.R.LogGamma.plan_law c.args.c.now in
    let y = r.sub_law _ _ _ c.sub-y.ensures in
    rw (
      e,
      r.add_law _ _ _ c.add.ensures,
      r.add_law _ _ _ c.add-r.ensures,
      r.mul_law _ _ _ c.mul.ensures,
      r.div_law _ _ _ c.div.ensures,
      r.mul_law _ _ _ c.mul-p.ensures,
      c.HALF.ensures,
      y,
    )
    (code.by_product _ _ c.whole-i.ensures.0 c.of_int.ensures (rw y at c.horner.ensures) (rw y at c.horner-q.ensures)
    (rw (e, y) at c.product.ensures) c.log.ensures c.if-i-ge3.true)

pub returns : goal.returns
returns g c =
    let r = g.met.R.Real in
    let y = r.sub_law _ _ _ c.sub-y.ensures in
    rw (
      g.met.R.LogGamma.plan_law c.args.c.now,
      r.add_law _ _ _ c.add-r.ensures,
      r.mul_law _ _ _ c.mul.ensures,
      r.div_law _ _ _ c.div.ensures,
      r.mul_law _ _ _ c.mul-p.ensures,
      c.HALF.ensures,
      y,
    )
    (code.by_itself _ _ c.whole-i.ensures.0 c.of_int.ensures (rw y at c.horner.ensures) (rw y at c.horner-q.ensures) c.if-i-ge3.false)
