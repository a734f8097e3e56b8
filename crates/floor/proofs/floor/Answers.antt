-- The answers for `floor`: each return by its tests. Assumes nothing.
use Rattle.std.proofs.Common.{sym, ap, ◌∙◌}
use Rattle.floor.proofs.FloorCode as code
use Rattle.floor.proofs.floor.Goals as goal

pub returns-then-lt-2 : goal.returns-then-lt-2
returns-then-lt-2 g c =
    let r = g.met.R.Real in
    code.minus g.R.Real.format (g.R.Real.float c.args.x) _ _ _ c.fabs-size.ensures.holds c.fabs-size.ensures.value
    (ap g.R.Real.float c.ONE.ensures ∙ r.one_law) (ap g.R.Real.float c.ZERO.ensures ∙ r.zero_law) _ _
    (sym (r.lt_law _ _) ∙ sym c.lt.ensures ∙ c.if-lt.true)
    (sym (r.lt_law _ _) ∙ sym c.lt-then-lt.ensures ∙ c.if-lt-2.true)
    (ap g.R.Real.float c.ONE-then-lt-2.ensures ∙ r.one_law) (r.neg_law _ _ c.neg.ensures)

pub returns-then-lt-3 : goal.returns-then-lt-3
returns-then-lt-3 g c =
    let r = g.met.R.Real in
    code.plus g.R.Real.format (g.R.Real.float c.args.x) _ _ _ c.fabs-size.ensures.holds c.fabs-size.ensures.value
    (ap g.R.Real.float c.ONE.ensures ∙ r.one_law) (ap g.R.Real.float c.ZERO.ensures ∙ r.zero_law) _ _
    (sym (r.lt_law _ _) ∙ sym c.lt.ensures ∙ c.if-lt.true) (ap g.R.Real.float c.ZERO-else-lt-2.ensures ∙ r.zero_law)
    (sym (r.lt_law _ _) ∙ sym c.lt-else-lt-2.ensures ∙ c.if-lt-3.true) (ap g.R.Real.float c.ZERO-then-lt-3.ensures ∙ r.zero_law)

pub returns-else-lt-3 : goal.returns-else-lt-3
returns-else-lt-3 g c =
    let r = g.met.R.Real in
    code.stay g.R.Real.format (g.R.Real.float c.args.x) _ _ _ c.fabs-size.ensures.holds c.fabs-size.ensures.value
    (ap g.R.Real.float c.ONE.ensures ∙ r.one_law) (ap g.R.Real.float c.ZERO.ensures ∙ r.zero_law) _
    (sym (r.lt_law _ _) ∙ sym c.lt.ensures ∙ c.if-lt.true)
    (sym (r.lt_law _ _) ∙ sym c.lt-then-lt.ensures ∙ c.if-lt-2.false)
    (ap g.R.Real.float c.ZERO-else-lt-2.ensures ∙ r.zero_law)
    (sym (r.lt_law _ _) ∙ sym c.lt-else-lt-2.ensures ∙ c.if-lt-3.false)

pub returns-then-lt-4 : goal.returns-then-lt-4
returns-then-lt-4 g c =
    let r = g.met.R.Real in
    code.less g.R.Real.format (g.R.Real.float c.args.x) _ _ _ c.fabs-size.ensures.holds c.fabs-size.ensures.value
    (ap g.R.Real.float c.ONE.ensures ∙ r.one_law) r.zero_law _ c.cut-cut.ensures.value
    (sym (r.lt_law _ _) ∙ sym c.lt.ensures ∙ c.if-lt.false) _ _
    (sym (r.lt_law _ _) ∙ sym c.lt-else-lt.ensures ∙ c.if-lt-4.true)
    (ap g.R.Real.float c.ONE-then-lt-4.ensures ∙ r.one_law) (r.sub_law _ _ _ c.sub.ensures)

pub returns-else-lt-4 : goal.returns-else-lt-4
returns-else-lt-4 g c =
    let r = g.met.R.Real in
    code.stays_cut g.R.Real.format (g.R.Real.float c.args.x) _ _ _ c.fabs-size.ensures.holds c.fabs-size.ensures.value
    (ap g.R.Real.float c.ONE.ensures ∙ r.one_law) r.zero_law _ c.cut-cut.ensures.value
    (sym (r.lt_law _ _) ∙ sym c.lt.ensures ∙ c.if-lt.false)
    (sym (r.lt_law _ _) ∙ sym c.lt-else-lt.ensures ∙ c.if-lt-4.false)
