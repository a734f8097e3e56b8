-- `erf::course::Constants::erfc2` meets its contract. Assumes nothing.
use mathlib.Core.Path.{refl, sym, ap, ◌∙◌}
use mathlib.Core.Bool.{not}
use lib.Ieee.{ne}
use Rattle.words.proofs.PatternLaws.{nan_kept}
use Rattle.erf.specs.Plan.{short_s, erfc2_s}
use Rattle.erf.specs.PlanOf.{plan_of}
use Rattle.erf.proofs.ErfCode as code
use Rattle.erf.proofs.course.Constants.erfc2.Goals as goal

pub returns-then-ix-self : goal.returns-then-ix-self
returns-then-ix-self g c = c.erfc1.ensures ∙ code.erfc2_near _ _ c.if-ix-self.true

pub returns-then-ne : goal.returns-then-ne
unfolding ne
returns-then-ne g c =
    let p = plan_of g.R.Real.format g.R.Real.word g.R.Width.lost g.R.Exp.exp g.R.Real.float c.args.self.now in
    nan_kept (erfc2_s p c.args.ix) (code.erfc2_nan p c.if-ix-self.false) (g.R.Real.float c.args.x)
    (sym (c.if-ne.ensures ∙ ap not (g.met.R.Real.eq_law _ _)))

pub returns : goal.returns
unfolding short_s
returns g c =
    let m = g.met.R.Real in
    let float = g.R.Real.float in
    rw (m.div_law _ _ _ c.div.ensures, m.mul_law _ _ _ c.mul-4.ensures)
    (code.erfc2_far _ _ {a = float c.fabs-a.result} {z = float c.short-z.result} {q = float c.ratio-q.result}
    {A = float c.exp.result} {B = float c.exp-2.result} c.if-ix-self.false c.fabs-a.ensures c.short-z.ensures
    (rw (c.exp.ensures, m.sub_law _ _ _ c.sub.ensures, m.mul_law _ _ _ c.mul-2.ensures, m.neg_law _ _ c.neg.ensures) refl)
    (rw (c.ratio-q.ensures, m.div_law _ _ _ c.div-s.ensures, m.mul_law _ _ _ c.mul.ensures) refl)
    (rw (c.exp-2.ensures, m.add_law _ _ _ c.add-2.ensures, m.mul_law _ _ _ c.mul-3.ensures, m.sub_law _ _ _ c.sub-2.ensures, m.add_law _ _ _ c.add.ensures) refl))
