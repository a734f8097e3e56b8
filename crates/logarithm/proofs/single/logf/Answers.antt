-- `logarithm::single::logf` meets its contract. Assumes nothing.
use mathlib.Core.Path.{refl}
use native.Mathlib.Omega.{arith}
use borrow.Author.Tests.{ne_eqb}
use lib.Ieee.{binary32}
use Rattle.words.proofs.PatternLaws.{nan_kept}
use Rattle.logarithm.specs.Logf.{log32}
use Rattle.logarithm.specs.Plan as Plan
use Rattle.logarithm.proofs.SpecialValues.{log_nan}
use Rattle.logarithm.proofs.Regions.{pattern32}
use Rattle.logarithm.proofs.Regions as regions
use Rattle.logarithm.proofs.single.logf.Goals as goal
use Rattle.logarithm.proofs.single.logf.Goals.{then-ix-lt8388608-via-then-ix-lt8388608, then-ix-lt8388608-via-else-ix-lt8388608+then-ix-ge2147483648}

pub returns-then-x : goal.returns-then-x
returns-then-x c = nan_kept (Plan.log_s log32) (log_nan binary32) _ c.if-x.true

pub returns-then-ix-eq0 : goal.returns-then-ix-eq0
returns-then-ix-eq0 c =
    let z = c.if-ix-eq0.true in
    regions.at_zero log32 _ _ _ _ (pattern32 _ _ c.bits_of-ix.ensures) (λ h. omega (arith, h, z)) z

pub returns-then-ix-ge2147483648-2 : goal.returns-then-ix-ge2147483648-2
returns-then-ix-ge2147483648-2 c =
    regions.negative log32 _ _ _ _ (pattern32 _ _ c.bits_of-ix.ensures) c.if-ix-eq0.false c.if-ix-ge2147483648-2.true

pub returns-then-ix-lt8388608 : goal.returns-then-ix-lt8388608
returns-then-ix-lt8388608 c =
    regions.subnormal log32 _ _ _ _ (pattern32 _ _ c.bits_of-ix.ensures)
    c.bits_of.result
    _
    c.if-ix-eq0.false
    (elim c.then-ix-lt8388608.branch [
      | then-ix-lt8388608-via-then-ix-lt8388608 w ↦ w.if-ix-lt8388608.true
      | then-ix-lt8388608-via-else-ix-lt8388608+then-ix-ge2147483648 w ↦ omega arith
    ])
    c.if-ix-ge2147483648-2.false
    c.bits_of.ensures
    c.reduced.ensures

pub returns-then-ix-ge2139095040 : goal.returns-then-ix-ge2139095040
returns-then-ix-ge2139095040 c =
    regions.not_finite log32 _ _ _ _ (pattern32 _ _ c.bits_of-ix.ensures)
    c.if-ix-lt8388608.false
    c.if-ix-ge2147483648.false
    c.if-ix-ge2139095040.true

pub returns-then-ix-eq1065353216 : goal.returns-then-ix-eq1065353216
returns-then-ix-eq1065353216 c =
    regions.at_one log32 _ _ _ _ (pattern32 _ _ c.bits_of-ix.ensures)
    c.if-ix-lt8388608.false
    c.if-ix-ge2147483648.false
    c.if-ix-ge2139095040.false
    c.if-ix-eq1065353216.true
    refl

pub returns : goal.returns
returns c =
    regions.normal log32 _ _ _ _ (pattern32 _ _ c.bits_of-ix.ensures)
    c.if-ix-lt8388608.false
    c.if-ix-ge2147483648.false
    _
    c.if-ix-ge2139095040.false
    (simp (ne_eqb _ _ c.if-ix-eq1065353216.false))
    c.reduced-2.ensures
