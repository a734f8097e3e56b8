-- `console::relay::put_reply` meets its contract: bad, or the line and the answer to what it asks for. Assumes nothing.
use mathlib.Core.Path.{refl, sym, subst}
use Prim.Native.Nat.{◌+◌, ◌≤◌}
use native.Mathlib.Omega.{arith}
use lib.ListN.{length}
use Rattle.records.specs.declared.Reply.{Reply}
use Rattle.text.specs.Text.{closed}
use Rattle.text.specs.Reply.{shown}
use Rattle.text.proofs.LineLaws.{good_length}
use Rattle.console.specs.Post.{Wrote}
use Rattle.console.proofs.WriteLaws.{bad_wrote, reply_narrow, ask_wrote}
use Rattle.console.proofs.relay.put_reply.Goals as goal

pub put_answer-requires : goal.put_answer-requires
put_answer-requires c = (
  omega (arith, c.requires, (good_length c.args.line.now c.in-Some.request.kind c.in-Some.request.bits (sym c.in-Some.ensures)).1),
  subst (λ (r : Reply). r.width ≤ 8) (sym c.reply_to.ensures) (reply_narrow _ _),
)

pub returns-in-None : goal.returns-in-None
returns-in-None c = let a = c.args in bad_wrote a.line.now a.out.now c.put_all.new.out a.at _ (sym c.in-None.ensures) refl c.put_all.ensures

pub returns-in-Some : goal.returns-in-Some
returns-in-Some c =
    let a = c.args in
    let w =
    subst (λ (x : Reply). Wrote (closed (shown x)) (a.at + length a.line.now) c.put_answer.result c.put_all-in-Some.new.out c.put_answer.new.out)
    c.reply_to.ensures c.put_answer.ensures in
    ask_wrote a.line.now a.out.now c.put_answer.new.out a.at c.put_answer.result c.in-Some.request.kind c.in-Some.request.bits (sym c.in-Some.ensures)
    c.put_all-in-Some.new.out c.put_all-in-Some.ensures w
