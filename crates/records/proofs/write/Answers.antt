-- `records::write` meets its contract: the head, and behind it two runs of digits, each as far as there is room. Assumes nothing.
use mathlib.Core.Path.{sym}
use Prim.Native.Nat.{◌+◌}
use native.Mathlib.Omega.{arith}
use Rattle.digits.specs.Digits.{digits}
use Rattle.digits.proofs.StoreLaws.{sets_out}
use Rattle.records.specs.Reply.{bytes_of}
use Rattle.records.proofs.ReplyLaws.{wrote}
use Rattle.records.proofs.write.Goals as goal

pub returns-then-s-at : goal.returns-then-s-at
returns-then-s-at c = let a = c.args in sym (sets_out (bytes_of a.r) a.s.now a.at c.if-s-at.true)

pub returns-then-s-place : goal.returns-then-s-place
returns-then-s-place c =
    let a = c.args in
    let p = c.put in
    wrote a.r a.at a.s.now p.new.s p.new.s p.ensures
    (sym (sets_out (digits a.r.more a.r.extra) p.new.s (a.at + 1 + a.r.width) (omega arith)))

pub returns : goal.returns
returns c =
    let a = c.args in
    let p = c.put in
    wrote a.r a.at a.s.now p.new.s c.put-2.new.s p.ensures c.put-2.ensures
