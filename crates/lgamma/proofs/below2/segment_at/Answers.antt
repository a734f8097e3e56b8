-- `lgamma::below2::segment_at` meets its contract. Assumes nothing.
use Rattle.lgamma.proofs.LgammaCode as code
use Rattle.lgamma.proofs.below2.segment_at.Goals as goal

pub returns-then-ix-c-2 : goal.returns-then-ix-c-2
returns-then-ix-c-2 g c =
    rw (g.met.R.LogGamma.plan_law c.args.c.now, g.met.R.Real.sub_law _ _ _ c.sub.ensures, c.ONE.ensures) (code.zero_to_0·9 _ _ _ c.if-ix-c.true c.if-ix-c-2.true)

pub returns-then-ix-c-3 : goal.returns-then-ix-c-3
returns-then-ix-c-3 g c =
    rw (g.met.R.LogGamma.plan_law c.args.c.now, g.met.R.Real.sub_law _ _ _ c.sub-then-ix-c-3-2.ensures, g.met.R.Real.sub_law _ _ _ c.sub-then-ix-c-3.ensures, c.ONE-then-ix-c-3.ensures) (code.one_to_0·9 _ _ _ c.if-ix-c.true c.if-ix-c-2.false c.if-ix-c-3.true)

pub returns-then-ix-c : goal.returns-then-ix-c
returns-then-ix-c g c =
    rw (g.met.R.LogGamma.plan_law c.args.c.now) (code.two_to_0·9 _ _ _ c.if-ix-c.true c.if-ix-c-2.false c.if-ix-c-3.false)

pub returns-then-ix-c-4 : goal.returns-then-ix-c-4
returns-then-ix-c-4 g c =
    rw (g.met.R.LogGamma.plan_law c.args.c.now, g.met.R.Real.sub_law _ _ _ c.sub-then-ix-c-4.ensures, c.TWO.ensures) (code.zero_above_0·9 _ _ _ c.if-ix-c.false c.if-ix-c-4.true)

pub returns-then-ix-c-5 : goal.returns-then-ix-c-5
returns-then-ix-c-5 g c =
    rw (g.met.R.LogGamma.plan_law c.args.c.now, g.met.R.Real.sub_law _ _ _ c.sub-then-ix-c-5.ensures) (code.one_above_0·9 _ _ _ c.if-ix-c.false c.if-ix-c-4.false c.if-ix-c-5.true)

pub returns : goal.returns
returns g c =
    rw (g.met.R.LogGamma.plan_law c.args.c.now, g.met.R.Real.sub_law _ _ _ c.sub-2.ensures, c.ONE-2.ensures) (code.two_above_0·9 _ _ _ c.if-ix-c.false c.if-ix-c-4.false c.if-ix-c-5.false)
