-- `scalbn::scalbn` meets its contract. Assumes nothing.
use mathlib.Core.Path.{◌∙◌}
use Rattle.scalbn.proofs.ScalbnCode as code
use Rattle.scalbn.proofs.scalbn.Goals as goal

pub returns-then-n-EXP_MAX : goal.returns-then-n-EXP_MAX
returns-then-n-EXP_MAX g c =
    let m = code.max_held _ _ (c.EXP_MAX.ensures ∙ g.met.R.Scale.max_law) in
    c.up.ensures ∙ code.by_up _ _ c.args.n c.ranges.n (rw m at c.if-n-EXP_MAX.true)

pub returns-then-n-EXP_MIN : goal.returns-then-n-EXP_MIN
returns-then-n-EXP_MIN g c =
    let m = code.max_held _ _ (c.EXP_MAX.ensures ∙ g.met.R.Scale.max_law) in
    let n = code.min_held _ _ (c.EXP_MIN.ensures ∙ g.met.R.Scale.min_law) in
    c.down.ensures ∙ code.by_down _ _ c.args.n c.ranges.n (rw m at c.if-n-EXP_MAX.false) (rw n at c.if-n-EXP_MIN.true)

pub returns : goal.returns
returns g c =
    let m = code.max_held _ _ (c.EXP_MAX.ensures ∙ g.met.R.Scale.max_law) in
    let n = code.min_held _ _ (c.EXP_MIN.ensures ∙ g.met.R.Scale.min_law) in
    cc (c.power.ensures, g.met.R.Real.mul_law _ _ _ c.mul.ensures, code.by_power _ _ c.args.n c.ranges.n (rw m at c.if-n-EXP_MAX.false) (rw n at c.if-n-EXP_MIN.false))
