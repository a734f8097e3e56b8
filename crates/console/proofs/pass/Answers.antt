-- `console::pass` meets its contract. Assumes nothing.
use mathlib.Core.Path.{ap, ◌∙◌}
use Prim.Native.Nat.{ℕ}
use native.Mathlib.Omega.{arith}
use Rattle.decide.specs.Decide.{after_s}
use Rattle.console.proofs.PassLaws.{turn_passed}
use Rattle.console.proofs.pass.Goals as goal

pub returns : goal.returns
returns c =
    let a = c.args in
    let g = c.read-got in
    let w = c.answer-t in
    turn_passed a.have c.unwrap_or.result a.buf.now g.new.room w.new.buf g.result c.at_end.result w.result c.after.result
    (omega (arith, c.requires.0)) g.auto.room g.ensures c.unwrap_or.ensures c.at_end.ensures w.ensures
    (c.after.ensures ∙ ap (λ (k : ℕ). after_s g.result k w.result.kept w.result.sent) c.into.ensures)
