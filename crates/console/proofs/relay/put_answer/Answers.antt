-- `console::relay::put_answer` meets its contract: a space, the digits, and the sign where there is one. Assumes nothing.
use mathlib.Core.Path.{refl, sym}
use Rattle.console.proofs.WriteLaws.{answer_wrote}
use Rattle.console.proofs.relay.put_answer.Goals as goal

pub returns : goal.returns
returns c =
    let a = c.args in
    answer_wrote a.r a.out.now c.put_all.new.out c.put.new.s c.put_all-2.new.out _ a.at _ _ c.put_all.ensures c.put.ensures refl c.put_all-2.ensures refl
    (sym c.sign-tail.ensures)
