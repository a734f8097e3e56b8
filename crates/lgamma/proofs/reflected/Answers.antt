-- `lgamma::reflected` meets its contract. Assumes nothing.
use Rattle.std.proofs.Common.{sym, ◌∙◌}
use Rattle.lgamma.proofs.LgammaCode as code
use Rattle.lgamma.proofs.reflected.Goals as goal

pub returns-then-eq : goal.returns-then-eq
returns-then-eq g c =
    let r = g.met.R.Real in
    rw (g.met.R.LogGamma.plan_law c.args.c.now)
    (code.sine_zero _ _ _ _ (rw c.ZERO.ensures at (sym (r.eq_law _ _) ∙ sym c.eq.ensures ∙ c.if-eq.true))
    (rw (r.div_law _ _ _ c.div.ensures, r.sub_law _ _ _ c.sub.ensures, c.ONE.ensures) at c.answer.ensures))

pub returns-then-lt : goal.returns-then-lt
returns-then-lt g c =
    let r = g.met.R.Real in
    let e = g.met.R.LogGamma.plan_law c.args.c.now in
    rw e
    (code.sine_above _ _ _ _ (rw e at c.size.ensures) (rw c.ZERO.ensures at (sym (r.eq_law _ _) ∙ sym c.eq.ensures ∙ c.if-eq.false))
    (rw (r.div_law _ _ _ c.div-then-lt.ensures, r.mul_law _ _ _ c.mul.ensures) at c.log.ensures)
    (rw c.ZERO-2.ensures at (sym (r.lt_law _ _) ∙ sym c.lt.ensures ∙ c.if-lt.true))
    (rw (r.sub_law _ _ _ c.sub-then-lt.ensures) at c.answer-then-lt.ensures))

pub returns : goal.returns
returns g c =
    let r = g.met.R.Real in
    let e = g.met.R.LogGamma.plan_law c.args.c.now in
    rw e
    (code.sine_below _ _ _ _ (rw e at c.size-2.ensures) (rw c.ZERO.ensures at (sym (r.eq_law _ _) ∙ sym c.eq.ensures ∙ c.if-eq.false))
    (rw (r.div_law _ _ _ c.div-2.ensures, r.mul_law _ _ _ c.mul-2.ensures, r.neg_law _ _ c.neg.ensures) at c.log-2.ensures)
    (rw c.ZERO-2.ensures at (sym (r.lt_law _ _) ∙ sym c.lt.ensures ∙ c.if-lt.false))
    (rw (r.sub_law _ _ _ c.sub-2.ensures) at c.answer-2.ensures))
