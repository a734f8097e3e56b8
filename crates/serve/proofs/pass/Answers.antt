-- `serve::pass` meets its contract. Assumes nothing.
use mathlib.Core.Path.{ap, ◌∙◌}
use Prim.Native.Nat.{ℕ}
use native.Mathlib.Omega.{arith}
use Rattle.decide.specs.Decide.{after_s}
use Rattle.serve.proofs.PassLaws.{batch_passed}
use Rattle.serve.proofs.pass.Goals as goal

pub returns : goal.returns
returns c =
    let a = c.args in
    let g = c.read-got in
    let w = c.answer-t in
    batch_passed a.have c.unwrap_or.result a.buf.now g.new.room a.answers.now w.new.buf w.new.answers g.result w.result c.after.result
    (omega (arith, c.requires)) g.auto.room g.ensures c.unwrap_or.ensures w.ensures
    (c.after.ensures ∙ ap (λ (k : ℕ). after_s g.result k w.result.kept w.result.sent) c.into.ensures)
