-- `poly::horner` meets its contract at each return. Assumes nothing.
use Rattle.std.proofs.Common.{rules, ap, ◌∙◌}
use Rattle.poly.proofs.HornerLaws as laws
use Rattle.poly.proofs.+horner.Goals as goal

pub returns-then-n-eq0 : goal.returns-then-n-eq0
returns-then-n-eq0 g t c =
    ap g.R.Real.float c.ZERO.ensures ∙ g.met.R.Real.zero_law ∙ laws.none g.R.Real.float g.R.Real.format c.args.c.now _ c.if-n-eq0.true

pub returns-then-n-eq1 : goal.returns-then-n-eq1
returns-then-n-eq1 g t c = laws.one g.R.Real.float g.R.Real.format c.args.c.now _ _ c.if-n-eq1.true c.index-c-0.is

pub returns : goal.returns
returns g t c =
    laws.more g.R.Real.float g.R.Real.format c.args.c.now _ _ _ _ _ (search rules) c.index-c-0-2.is c.horner.ensures
    (g.met.R.Real.mul_law _ _ _ c.mul.ensures) (g.met.R.Real.add_law _ _ _ c.add.ensures)
