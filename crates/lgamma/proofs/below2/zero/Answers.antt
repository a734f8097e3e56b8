-- `lgamma::below2::zero` meets its contract. Assumes nothing.
use Rattle.std.proofs.Common.{rules}
use Rattle.lgamma.specs.Plan.{zero_s}
use Rattle.lgamma.proofs.below2.zero.Goals as goal

pub returns : goal.returns
unfolding zero_s
returns g c =
    let r = g.met.R.Real in
    rw (g.met.R.LogGamma.plan_law c.args.c.now) (search (rules, r.add_law, r.sub_law, r.mul_law))
