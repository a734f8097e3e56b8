-- `records::runs::run` meets its contract: each turn is one item more of the run. Assumes nothing.
use mathlib.Core.Path.{◌∙◌, sym, ap, subst}
use native.Mathlib.Omega.{arith}
use Rattle.records.specs.declared.Tally.{Tally}
use Rattle.records.proofs.LoopLaws.{Going, going_on, going_further, going_fits, going_done}
use Rattle.records.proofs.runs.run.Goals as goal

pub returns-then-one-eq0 : goal.returns-then-one-eq0
returns-then-one-eq0 g c =
    let l = c.loop-one in
    going_done g.S.Step.step_s g.met.S.Step.lawful c.args.input.now c.args.output.now l.output c.step-one.new.output l.tally c.step-one.result l.invariant c.step-one.ensures
    c.if-one-eq0.true

-- where an item was taken, the loop stands further on, and no count wrapped
pub loop-one-smaller : goal.loop-one-smaller
loop-one-smaller g c =
    let l = c.loop-one in
    let on = going_on g.S.Step.step_s g.met.S.Step.lawful c.args.input.now c.args.output.now l.output c.step-one.new.output l.tally c.step-one.result l.invariant
    c.step-one.ensures c.if-one-eq0.false in
    let further = going_further g.S.Step.step_s g.met.S.Step.lawful c.args.input.now c.args.output.now l.output c.step-one.new.output l.tally c.step-one.result l.invariant
    c.step-one.ensures c.if-one-eq0.false in
    let fits = going_fits g.S.Step.step_s g.met.S.Step.lawful c.args.input.now c.args.output.now l.output c.step-one.new.output l.tally c.step-one.result l.invariant
    c.step-one.ensures c.if-one-eq0.false (omega arith) (omega arith) in
    omega (arith, further, on.inside, ap (λ (x : Tally). x.read) (c.add-tally.ensures ∙ fits))

pub loop-one-preserved : goal.loop-one-preserved
loop-one-preserved g c =
    let l = c.loop-one in
    let fits = going_fits g.S.Step.step_s g.met.S.Step.lawful c.args.input.now c.args.output.now l.output c.step-one.new.output l.tally c.step-one.result l.invariant
    c.step-one.ensures c.if-one-eq0.false (omega arith) (omega arith) in
    subst (Going g.S.Step.step_s c.args.input.now c.args.output.now _) (sym (c.add-tally.ensures ∙ fits))
    (going_on g.S.Step.step_s g.met.S.Step.lawful c.args.input.now c.args.output.now l.output c.step-one.new.output l.tally c.step-one.result l.invariant
    c.step-one.ensures c.if-one-eq0.false)
