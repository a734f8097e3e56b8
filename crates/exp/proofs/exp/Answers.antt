-- `exp::exp` meets its contract. Assumes nothing.
use Rattle.std.proofs.Common.{le-leb}
use borrow.Author.Tests.{lt-leb}
use Rattle.words.proofs.PatternLaws.{nan_kept}
use Rattle.exp.specs.Exp.{exp_s}
use Rattle.exp.proofs.SpecialValues.{exp_nan}
use Rattle.exp.proofs.exp.Goals as goal

pub returns-then-x : goal.returns-then-x
returns-then-x c = nan_kept exp_s exp_nan _ c.if-x.true

pub returns-then-hx-ge1082532651 : goal.returns-then-hx-ge1082532651
unfolding exp_s
returns-then-hx-ge1082532651 c = simp (le-leb _ _ (rw c.size_word-hx.ensures at c.if-hx-ge1082532651.true)) (cc)

pub returns : goal.returns
unfolding exp_s
returns c = simp (lt-leb _ _ (rw c.size_word-hx.ensures at c.if-hx-ge1082532651.false)) (cc)
