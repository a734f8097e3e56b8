-- `lgamma::below2::below2` meets its contract. Assumes nothing.
use Rattle.lgamma.proofs.LgammaCode as code
use Rattle.lgamma.proofs.below2.below2.Goals as goal

pub returns : goal.returns
returns g c =
    let e = g.met.R.LogGamma.plan_law c.args.c.now in
    rw (e, g.met.R.Real.add_law _ _ _ c.add.ensures)
    (code.below2_by _ _ _ (rw e at c.segment_at.ensures) (rw e at c.added.ensures) c.start.ensures)
