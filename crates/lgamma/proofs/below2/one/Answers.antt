-- `lgamma::below2::one` meets its contract. Assumes nothing.
use Rattle.std.proofs.Common.{rules}
use Rattle.lgamma.specs.Plan.{one_s}
use Rattle.lgamma.proofs.below2.one.Goals as goal

pub returns : goal.returns
unfolding one_s
returns g c =
    let r = g.met.R.Real in
    rw (g.met.R.LogGamma.plan_law c.args.c.now) (search (rules, r.add_law, r.sub_law, r.mul_law))
