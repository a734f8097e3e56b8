-- `session::turns::Turns::run` meets its contract: the turns are counted, and the events so far are the program's. Assumes nothing.
use mathlib.Core.Path.{refl, subst, sym, ◌∙◌}
use native.Mathlib.Omega.{arith}
use Rattle.session.proofs.LoopLaws.{Going, going_none, going_out, took_on, took_close, took_break}
use Rattle.session.proofs.turns.Turns.run.Goals as goal

pub loop-init : goal.loop-init
loop-init g c = record { program = refl; size = refl; going = λ z. subst (Going _ _ 0) (sym z) (going_none _ _) }

pub loop-preserved : goal.loop-preserved
loop-preserved g c =
    let i = c.loop.invariant in
    let e = c.turn.ensures in
    record {
      program = e.program ∙ i.program;
      size = e.size ∙ i.size;
      going = λ z. took_on _ _ _ _ c.loop.counter _ _ _ i.program i.size (i.going z) e.took _ c.in-Go.is;
    }

pub returns-in-Close : goal.returns-in-Close
returns-in-Close g c = let i = c.loop.invariant in λ z. took_close _ _ _ _ c.loop.counter _ _ _ i.program i.size (i.going z) c.turn.ensures.took _ c.in-Close.is

pub returns-in-Break : goal.returns-in-Break
returns-in-Break g c = let i = c.loop.invariant in λ z. took_break _ _ _ _ c.loop.counter _ _ _ i.program i.size (i.going z) c.turn.ensures.took c.in-Break.is

pub returns : goal.returns
returns g c = λ z. going_out _ _ c.loop.counter _ (c.loop.invariant.going z) (omega arith)
