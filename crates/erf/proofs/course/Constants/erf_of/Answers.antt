-- `erf::course::Constants::erf_of` meets its contract. Assumes nothing.
use mathlib.Core.Path.{refl}
use Rattle.erf.proofs.ErfCode as code
use Rattle.erf.proofs.course.Constants.erf_of.Goals as goal

pub returns-then-ix-self : goal.returns-then-ix-self
returns-then-ix-self g c =
    let m = g.met.R.Real in
    rw (m.add_law _ _ _ c.add.ensures, m.sub_law _ _ _ c.sub.ensures, m.mul_law _ _ _ c.mul.ensures, c.sign_number.ensures, m.div_law _ _ _ c.div.ensures)
    (code.erf_not_finite _ c.requires.0 refl c.if-ix-self.true)

pub returns-then-ix-self-3 : goal.returns-then-ix-self-3
returns-then-ix-self-3 g c =
    let m = g.met.R.Real in
    let h = c.requires in
    rw (m.mul_law _ _ _ c.mul-then-ix-self-3-3.ensures, m.add_law _ _ _ c.add-then-ix-self-3.ensures, m.mul_law _ _ _ c.mul-then-ix-self-3-2.ensures, m.mul_law _ _ _ c.mul-then-ix-self-3.ensures)
    (code.erf_tiny _ h.0 h.1 c.if-ix-self.false c.if-ix-self-2.true c.if-ix-self-3.true)

pub returns-then-ix-self-2 : goal.returns-then-ix-self-2
returns-then-ix-self-2 g c =
    let m = g.met.R.Real in
    let h = c.requires in
    rw (m.add_law _ _ _ c.add-then-ix-self-2.ensures, m.mul_law _ _ _ c.mul-then-ix-self-2.ensures)
    (code.erf_small _ h.0 h.1 c.if-ix-self.false c.if-ix-self-2.true c.if-ix-self-3.false (h.2.small c.if-ix-self-3.false c.if-ix-self-2.true))

pub returns-then-ix-self-4 : goal.returns-then-ix-self-4
returns-then-ix-self-4 g c =
    let m = g.met.R.Real in
    let h = c.requires in
    rw (c.signed.ensures, m.sub_law _ _ _ c.sub-then-ix-self-4.ensures)
    (code.erf_below_6 _ h.0 h.1 c.if-ix-self.false c.if-ix-self-2.false c.if-ix-self-4.true (h.2.tail c.if-ix-self-2.false c.if-ix-self-4.true))

pub returns : goal.returns
returns g c =
    let m = g.met.R.Real in
    let h = c.requires in
    rw (c.signed-2.ensures, m.sub_law _ _ _ c.sub-2.ensures)
    (code.erf_from_6 _ h.0 h.1 c.if-ix-self.false c.if-ix-self-2.false c.if-ix-self-4.false)
