-- `lgamma::size` meets its contract. Assumes nothing.
use Rattle.lgamma.proofs.LgammaCode as code
use Rattle.lgamma.proofs.size.Goals as goal

pub returns-then-is_one_or_two : goal.returns-then-is_one_or_two
returns-then-is_one_or_two g c =
    rw (g.met.R.LogGamma.plan_law c.args.c.now, c.ZERO.ensures) (code.one_or_two _ _ _ c.is_one_or_two.ensures c.if-is_one_or_two.true)

pub returns-then-ix-c : goal.returns-then-ix-c
returns-then-ix-c g c =
    let e = g.met.R.LogGamma.plan_law c.args.c.now in
    rw e (code.size_below2 _ _ _ c.is_one_or_two.ensures c.if-is_one_or_two.false c.if-ix-c.true (rw e at c.below2.ensures))

pub returns-then-ix-c-2 : goal.returns-then-ix-c-2
returns-then-ix-c-2 g c =
    let e = g.met.R.LogGamma.plan_law c.args.c.now in
    rw e
    (code.size_below8 _ _ _ c.is_one_or_two.ensures c.if-is_one_or_two.false c.if-ix-c.false c.if-ix-c-2.true (rw e at c.below8.ensures))

pub returns-then-ix-c-3 : goal.returns-then-ix-c-3
returns-then-ix-c-3 g c =
    let e = g.met.R.LogGamma.plan_law c.args.c.now in
    rw e
    (code.size_stirling _ _ _ c.is_one_or_two.ensures c.if-is_one_or_two.false c.if-ix-c.false c.if-ix-c-2.false c.if-ix-c-3.true
    (rw e at c.stirling.ensures))

pub returns : goal.returns
returns g c =
    let r = g.met.R.Real in
    rw (g.met.R.LogGamma.plan_law c.args.c.now, r.mul_law _ _ _ c.mul.ensures, r.sub_law _ _ _ c.sub.ensures, c.ONE.ensures)
    (code.size_large _ _ _ c.is_one_or_two.ensures c.if-is_one_or_two.false c.if-ix-c.false c.if-ix-c-2.false c.if-ix-c-3.false c.log.ensures)
