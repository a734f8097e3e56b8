-- `lgamma::log_gamma` meets its contract. Assumes nothing.
use Rattle.lgamma.proofs.LgammaCode as code
use Rattle.lgamma.proofs.log_gamma.Goals as goal

pub returns-then-ix-c : goal.returns-then-ix-c
returns-then-ix-c g c =
    rw (g.met.R.LogGamma.plan_law c.args.c.now)
    (code.not_finite _ _ c.size_word-ix.ensures c.sign-sign.ensures c.if-ix-c.true
    (rw (g.met.R.Real.mul_law _ _ _ c.mul.ensures) at c.answer.ensures))

pub returns-then-sign-eq0 : goal.returns-then-sign-eq0
returns-then-sign-eq0 g c =
    rw (g.met.R.LogGamma.plan_law c.args.c.now)
    (code.tiny_plus _ _ c.size_word-ix.ensures c.sign-sign.ensures c.if-ix-c.false c.if-ix-c-2.true c.if-sign-eq0.true c.log.ensures
    (rw (g.met.R.Real.neg_law _ _ c.neg.ensures) at c.answer-then-sign-eq0.ensures))

pub returns-then-ix-c-2 : goal.returns-then-ix-c-2
returns-then-ix-c-2 g c =
    let r = g.met.R.Real in
    rw (g.met.R.LogGamma.plan_law c.args.c.now)
    (code.tiny_minus _ _ c.size_word-ix.ensures c.sign-sign.ensures c.if-ix-c.false c.if-ix-c-2.true c.if-sign-eq0.false
    (rw (r.neg_law _ _ c.neg-then-ix-c-2.ensures) at c.log-then-ix-c-2.ensures)
    (rw (r.neg_law _ _ c.neg-then-ix-c-2-2.ensures) at c.answer-then-ix-c-2.ensures))

pub returns-then-sign-eq0-2 : goal.returns-then-sign-eq0-2
returns-then-sign-eq0-2 g c =
    let e = g.met.R.LogGamma.plan_law c.args.c.now in
    rw e
    (code.plus _ _ c.size_word-ix.ensures c.sign-sign.ensures c.if-ix-c.false c.if-ix-c-2.false c.if-sign-eq0-2.true
    (rw e at c.size.ensures) c.answer-then-sign-eq0-2.ensures)

pub returns : goal.returns
returns g c =
    let r = g.met.R.Real in
    let e = g.met.R.LogGamma.plan_law c.args.c.now in
    rw e
    (code.minus _ _ c.size_word-ix.ensures c.sign-sign.ensures c.if-ix-c.false c.if-ix-c-2.false c.if-sign-eq0-2.false
    (rw (r.neg_law _ _ c.neg-3.ensures) at c.sinpi.ensures) (rw (e, r.neg_law _ _ c.neg-2.ensures) at c.reflected.ensures))
