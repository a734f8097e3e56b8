-- `console::relay::reply_lines` meets its contract: the bytes that were looked at are answered as far as their lines are finished. Assumes
-- nothing.
use mathlib.Core.Path.{subst}
use mathlib.Core.List.{List}
use Prim.Native.Nat.{ℕ, ◌+◌}
use native.Mathlib.Omega.{arith}
use Rattle.replies.specs.Table.{table}
use Rattle.text.specs.Text.{closed}
use Rattle.text.specs.Reply.{reply_to}
use Rattle.console.specs.Post.{Wrote}
use Rattle.console.proofs.LineLoop.{looked_none, looked_as, looked_all, line, line_is, looked_on, looked_line}
use Rattle.console.proofs.relay.reply_lines.Goals as goal
use Rattle.console.proofs.relay.reply_lines.Goals.{then-text-i-eq10, else-text-i-eq10}

pub loop-i-init : goal.loop-i-init
loop-i-init c = looked_none c.args.text.now c.args.out.now

pub put_reply-written-requires : goal.put_reply-written-requires
put_reply-written-requires c = let v = c.loop-i.invariant in omega (arith, c.requires.0, c.requires.1, v.light, v.before, v.inside)

pub loop-i-preserved : goal.loop-i-preserved
loop-i-preserved c =
    let l = c.loop-i in
    let a = c.args in
    let s = a.text.now in
    let h = c.loop-i-test.true in
    elim c.if-text-i-eq10.branch [
      | then-text-i-eq10 w ↦
          let p = w.put_reply-written in
          let g : Wrote (closed (reply_to table (line s a.out.now l.out l.i l.read l.written l.invariant h))) l.written p.result l.out p.new.out =
          subst (λ (x : List ℕ). Wrote (closed (reply_to table x)) l.written p.result l.out p.new.out)
          (line_is s a.out.now l.out l.i l.read l.written l.invariant h) p.ensures in
          looked_as s a.out.now p.new.out _ (l.i + 1) (l.i + 1) _ p.result _ w.out-is w.read-is w.written-is
          (looked_line s a.out.now l.out l.i l.read l.written l.invariant h p.result p.new.out g w.if-text-i-eq10.true)
      | else-text-i-eq10 w ↦
          looked_as s a.out.now l.out _ (l.i + 1) l.read _ l.written _ w.out-is w.read-is w.written-is
          (looked_on s a.out.now l.out l.i l.read l.written l.invariant h w.if-text-i-eq10.false)
    ]

pub returns : goal.returns
returns c = let l = c.loop-i in let a = c.args in looked_all a.text.now a.out.now l.out l.i _ l.invariant (omega arith)
