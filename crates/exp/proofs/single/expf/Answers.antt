-- `exp::single::expf` meets its contract. Assumes nothing.
use Rattle.std.proofs.Common.{le-leb}
use borrow.Author.Tests.{lt-leb}
use Rattle.words.proofs.PatternLaws.{nan_kept}
use Rattle.exp.specs.Expf.{expf_s}
use Rattle.exp.proofs.SpecialValues.{expf_nan}
use Rattle.exp.proofs.single.expf.Goals as goal

pub returns-then-x : goal.returns-then-x
returns-then-x c = nan_kept expf_s expf_nan _ c.if-x.true

pub returns-then-hx-ge1118743632 : goal.returns-then-hx-ge1118743632
unfolding expf_s
returns-then-hx-ge1118743632 c = simp (le-leb _ _ (rw c.size_word-hx.ensures at c.if-hx-ge1118743632.true)) (cc)

pub returns : goal.returns
unfolding expf_s
returns c = simp (lt-leb _ _ (rw c.size_word-hx.ensures at c.if-hx-ge1118743632.false)) (cc)
