-- `erf::course::Constants::erfc_of` meets its contract. Assumes nothing.
use mathlib.Core.Path.{refl, ◌∙◌}
use mathlib.Core.Logic.{inl, inr}
use native.Mathlib.Omega.{arith}
use borrow.Author.Tests.{lt-ltb, le-ltb}
use Rattle.erf.proofs.ErfCode as code
use Rattle.erf.proofs.course.Constants.erfc_of.Goals as goal
use Rattle.erf.proofs.course.Constants.erfc_of.Goals.{then-sign-ne0-via-then-sign-ne0, then-sign-ne0-via-else-sign-ne0+then-ix-self-4}

pub returns-then-ix-self : goal.returns-then-ix-self
returns-then-ix-self g c =
    let m = g.met.R.Real in
    rw (m.add_law _ _ _ c.add.ensures, m.mul_law _ _ _ c.mul.ensures, c.sign_number.ensures, m.div_law _ _ _ c.div.ensures)
    (code.erfc_not_finite _ c.requires.0 refl c.if-ix-self.true)

pub returns-then-ix-self-3 : goal.returns-then-ix-self-3
returns-then-ix-self-3 g c =
    let h = c.requires in
    g.met.R.Real.sub_law _ _ _ c.sub.ensures ∙ code.erfc_tiny _ h.0 h.1 c.if-ix-self.false c.if-ix-self-2.true c.if-ix-self-3.true

pub returns-then-sign-ne0 : goal.returns-then-sign-ne0
returns-then-sign-ne0 g c =
    let m = g.met.R.Real in
    let h = c.requires in
    rw (m.sub_law _ _ _ c.sub-then-sign-ne0.ensures, m.add_law _ _ _ c.add-then-sign-ne0.ensures, m.mul_law _ _ _ c.mul-then-sign-ne0.ensures)
    (code.erfc_below_quarter _ h.0 h.1 c.if-ix-self.false c.if-ix-self-2.true c.if-ix-self-3.false
    (h.2.small c.if-ix-self-3.false c.if-ix-self-2.true)
    (elim c.then-sign-ne0.branch [
      | then-sign-ne0-via-then-sign-ne0 w ↦ inl w.if-sign-ne0.true
      | then-sign-ne0-via-else-sign-ne0+then-ix-self-4 w ↦ inr (omega (arith, w.if-sign-ne0.false), lt-ltb _ _ w.if-ix-self-4.true)
    ]))

pub returns-then-ix-self-2 : goal.returns-then-ix-self-2
returns-then-ix-self-2 g c =
    let m = g.met.R.Real in
    let h = c.requires in
    rw (m.sub_law _ _ _ c.sub-then-ix-self-2-2.ensures, m.add_law _ _ _ c.add-then-ix-self-2.ensures, m.sub_law _ _ _ c.sub-then-ix-self-2.ensures, m.mul_law _ _ _ c.mul-then-ix-self-2.ensures)
    (code.erfc_from_quarter _ h.0 h.1 c.if-ix-self.false c.if-ix-self-2.true c.if-ix-self-3.false
    (h.2.small c.if-ix-self-3.false c.if-ix-self-2.true) (omega (arith, c.if-sign-ne0.false)) (le-ltb _ _ c.if-ix-self-4.false))

pub returns-then-sign-ne0-2 : goal.returns-then-sign-ne0-2
returns-then-sign-ne0-2 g c =
    let h = c.requires in
    g.met.R.Real.sub_law _ _ _ c.sub-then-sign-ne0-2.ensures
    ∙ code.erfc_minus _ h.0 h.1 c.if-ix-self.false c.if-ix-self-2.false c.if-ix-self-5.true c.if-sign-ne0-2.true
    (h.2.tail c.if-ix-self-2.false c.if-ix-self-5.true)

pub returns-then-ix-self-5 : goal.returns-then-ix-self-5
returns-then-ix-self-5 g c =
    let h = c.requires in
    h.2.tail c.if-ix-self-2.false c.if-ix-self-5.true
    ∙ code.erfc_plus _ h.0 h.1 c.if-ix-self.false c.if-ix-self-2.false c.if-ix-self-5.true c.if-sign-ne0-2.false

pub returns-then-sign-ne0-3 : goal.returns-then-sign-ne0-3
returns-then-sign-ne0-3 g c =
    let h = c.requires in
    g.met.R.Real.sub_law _ _ _ c.sub-then-sign-ne0-3.ensures
    ∙ code.erfc_far_minus _ h.0 h.1 c.if-ix-self.false c.if-ix-self-2.false c.if-ix-self-5.false c.if-sign-ne0-3.true

pub returns : goal.returns
returns g c =
    let h = c.requires in
    g.met.R.Real.mul_law _ _ _ c.mul-2.ensures
    ∙ code.erfc_far_plus _ h.0 h.1 c.if-ix-self.false c.if-ix-self-2.false c.if-ix-self-5.false c.if-sign-ne0-3.false
