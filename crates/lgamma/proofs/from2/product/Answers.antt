-- `lgamma::from2::product` meets its contract. Assumes nothing.
use Rattle.std.proofs.Common.{w32}
use mir.ValLaws.{to_z-of_z}
use Rattle.lgamma.specs.Plan.{product_s}
use Rattle.lgamma.proofs.from2.product.Goals as goal

pub returns : goal.returns
unfolding product_s
returns g c =
    let r = g.met.R.Real in
    rw (
      g.met.R.LogGamma.plan_law c.args.c.now,
      r.mul_law _ _ _ c.mul.ensures,
      c.times-z-4.ensures,
      c.times-z-3.ensures,
      c.times-z-2.ensures,
      c.times-z.ensures,
      to_z-of_z w32 c.args.i c.ranges.i,
      r.add_law _ _ _ c.add.ensures,
      r.add_law _ _ _ c.add-2.ensures,
      r.add_law _ _ _ c.add-3.ensures,
      r.add_law _ _ _ c.add-4.ensures,
      r.add_law _ _ _ c.add-5.ensures,
      c.ONE.ensures,
      c.TWO.ensures,
    )
