-- `lgamma::below2::two` meets its contract. Assumes nothing.
use Rattle.std.proofs.Common.{rules}
use Rattle.lgamma.specs.Plan.{two_s}
use Rattle.lgamma.proofs.below2.two.Goals as goal

pub returns : goal.returns
unfolding two_s
returns g c =
    let r = g.met.R.Real in
    rw (g.met.R.LogGamma.plan_law c.args.c.now) (search (rules, r.add_law, r.mul_law, r.div_law))
