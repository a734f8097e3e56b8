-- `logarithm::log` meets its contract. Assumes nothing.
use native.Mathlib.Omega.{arith}
use borrow.Author.Tests.{eq-eqb, ne_eqb}
use lib.Ieee.{binary64}
use Rattle.words.proofs.PatternLaws.{nan_kept}
use Rattle.logarithm.specs.Log.{log64}
use Rattle.logarithm.specs.Plan as Plan
use Rattle.logarithm.proofs.SpecialValues.{log_nan}
use Rattle.logarithm.proofs.Regions.{pattern64}
use Rattle.logarithm.proofs.Regions as regions
use Rattle.logarithm.proofs.log.Goals as goal
use Rattle.logarithm.proofs.log.Goals.{then-hx-lt1048576-via-then-hx-lt1048576, then-hx-lt1048576-via-else-hx-lt1048576+then-hx-ge2147483648, else-hx-eq1072693248-via-then-hx-eq1072693248+else-ui-eq0-2, else-hx-eq1072693248-via-else-hx-eq1072693248}

pub returns-then-x : goal.returns-then-x
returns-then-x c = nan_kept (Plan.log_s log64) (log_nan binary64) _ c.if-x.true

pub returns-then-ui-eq0 : goal.returns-then-ui-eq0
returns-then-ui-eq0 c =
    let z = c.if-ui-eq0.true in
    regions.at_zero log64 _ _ _ _ (pattern64 _ _ c.bits_of-ui.ensures) (λ h. omega (arith, h, z)) z

pub returns-then-hx-ge2147483648-2 : goal.returns-then-hx-ge2147483648-2
returns-then-hx-ge2147483648-2 c =
    regions.negative log64 _ _ _ _ (pattern64 _ _ c.bits_of-ui.ensures) c.if-ui-eq0.false c.if-hx-ge2147483648-2.true

pub returns-then-hx-lt1048576 : goal.returns-then-hx-lt1048576
returns-then-hx-lt1048576 c =
    regions.subnormal log64 _ _ _ _ (pattern64 _ _ c.bits_of-ui.ensures)
    c.bits_of.result
    _
    c.if-ui-eq0.false
    (elim c.then-hx-lt1048576.branch [
      | then-hx-lt1048576-via-then-hx-lt1048576 w ↦ w.if-hx-lt1048576.true
      | then-hx-lt1048576-via-else-hx-lt1048576+then-hx-ge2147483648 w ↦ omega arith
    ])
    c.if-hx-ge2147483648-2.false
    c.bits_of.ensures
    c.reduced.ensures

pub returns-then-hx-ge2146435072 : goal.returns-then-hx-ge2146435072
returns-then-hx-ge2146435072 c =
    regions.not_finite log64 _ _ _ _ (pattern64 _ _ c.bits_of-ui.ensures)
    c.if-hx-lt1048576.false
    c.if-hx-ge2147483648.false
    c.if-hx-ge2146435072.true

pub returns-then-ui-eq0-2 : goal.returns-then-ui-eq0-2
returns-then-ui-eq0-2 c =
    regions.at_one log64 _ _ _ _ (pattern64 _ _ c.bits_of-ui.ensures)
    c.if-hx-lt1048576.false
    c.if-hx-ge2147483648.false
    c.if-hx-ge2146435072.false
    c.if-hx-eq1072693248.true
    c.if-ui-eq0-2.true

pub returns : goal.returns
returns c =
    regions.normal log64 _ _ _ _ (pattern64 _ _ c.bits_of-ui.ensures)
    c.if-hx-lt1048576.false
    c.if-hx-ge2147483648.false
    _
    c.if-hx-ge2146435072.false
    (elim c.else-hx-eq1072693248.branch [
      | else-hx-eq1072693248-via-then-hx-eq1072693248+else-ui-eq0-2 w ↦ simp (eq-eqb _ _ w.if-hx-eq1072693248.true, ne_eqb _ _ w.if-ui-eq0-2.false)
      | else-hx-eq1072693248-via-else-hx-eq1072693248 w ↦ simp (ne_eqb _ _ w.if-hx-eq1072693248.false)
    ])
    c.reduced-2.ensures
