-- `lgamma::from2::stirling` meets its contract. Assumes nothing.
use Rattle.std.proofs.Common.{rules}
use Rattle.lgamma.specs.Plan.{stirling_s}
use Rattle.lgamma.proofs.from2.stirling.Goals as goal

pub returns : goal.returns
unfolding stirling_s
returns g c =
    let r = g.met.R.Real in
    rw (g.met.R.LogGamma.plan_law c.args.c.now) (search (rules, r.add_law, r.sub_law, r.mul_law, r.div_law))
