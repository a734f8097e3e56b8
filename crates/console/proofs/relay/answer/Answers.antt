-- `console::relay::answer` meets its contract: the finished lines, and at the end of the input the last one too; the replies sent as they were
-- written; and the move of the unfinished line. Assumes nothing.
use mathlib.Core.Path.{refl, sym, subst}
use mathlib.Core.Bool.{Bool, true}
use mathlib.Core.List.{List}
use Prim.Native.Nat.{ℕ, ◌-◌, ◌*◌, ◌≤◌}
use native.Mathlib.Omega.{arith}
use lib.ListN.{length, take, drop}
use lib.Seq.{length-take-le}
use Rattle.replies.specs.Table.{table}
use Rattle.text.specs.Typing.{turn_on}
use Rattle.console.specs.Post.{Wrote, Replied, Turned, last_reply}
use Rattle.console.specs.declared.relay.Done.{Done}
use Rattle.console.specs.declared.relay.Round.{Round}
use Rattle.console.proofs.TurnLaws.{front, front_in, front_length, open_wrote, open_light, end_wrote, end_light, line_is, read_in, open_turned}
use Rattle.console.proofs.relay.answer.Goals as goal

-- The finished lines of the first `have` bytes of b are answered: the replies have room.
module _ (b l o : List ℕ) (have : ℕ) (d : Done) (h : have ≤ length b) (m : 4 * have ≤ length l) (p : Replied (take have b) d l o) where
  fits : d.written ≤ length l
  fits = omega (arith, open_light (take have b) l o d p, length-take-le have b h, m)

  -- And so is the last.
  module _ (q : List ℕ) (n : ℕ) (w : Wrote (last_reply (take (have - d.read) (drop d.read b))) d.written n o q) where
    ended : Wrote (turn_on table true (take have b)).bytes 0 n l q
    ended =
        end_wrote (take have b) l o d p q n (subst (λ (x : List ℕ). Wrote (last_reply x) d.written n o q) (line_is b have l o d h p) w)

    ended_fits : n ≤ length l
    ended_fits =
        omega (
          arith,
          end_light (take have b) l o d p q n (subst (λ (x : List ℕ). Wrote (last_reply x) d.written n o q) (line_is b have l o d h p) w),
          length-take-le have b h,
          m,
        )

pub reply_lines-t-requires : goal.reply_lines-t-requires
reply_lines-t-requires c = (omega (arith, length-take-le c.args.have c.args.buf.now c.requires.0, c.requires.1.0), c.requires.1.1)

pub slice_bounds-put_last-count : goal.slice_bounds-put_last-count
slice_bounds-put_last-count c =
    let a = c.args in
    let t = c.reply_lines-t in
    read_in a.buf.now a.have a.replies.now t.new.out t.result c.requires.0 t.ensures

pub put_last-written-requires : goal.put_last-written-requires
put_last-written-requires c =
    let a = c.args in
    let t = c.reply_lines-t in
    omega (arith, fits a.buf.now a.replies.now t.new.out a.have t.result c.requires.0 c.requires.1.0 t.ensures, c.requires.1.1)

pub slice_bounds-send-end-then-ended-2 : goal.slice_bounds-send-end-then-ended-2
slice_bounds-send-end-then-ended-2 c =
    let a = c.args in
    let t = c.reply_lines-t in
    let p = c.put_last-written in
    let e = ended a.buf.now a.replies.now t.new.out a.have t.result c.requires.0 c.requires.1.0 t.ensures p.new.out p.result p.ensures in
    let f = ended_fits a.buf.now a.replies.now t.new.out a.have t.result c.requires.0 c.requires.1.0 t.ensures p.new.out p.result p.ensures in
    front_in _ a.replies.now _ _ e f

pub slice_bounds-send-end-then-ended-3 : goal.slice_bounds-send-end-then-ended-3
slice_bounds-send-end-then-ended-3 c =
    let a = c.args in
    let t = c.reply_lines-t in
    let p = c.put_last-written in
    let e = ended a.buf.now a.replies.now t.new.out a.have t.result c.requires.0 c.requires.1.0 t.ensures p.new.out p.result p.ensures in
    let f = ended_fits a.buf.now a.replies.now t.new.out a.have t.result c.requires.0 c.requires.1.0 t.ensures p.new.out p.result p.ensures in
    front_length _ a.replies.now _ _ e f

pub send-sent-requires : goal.send-sent-requires
send-sent-requires c =
    let a = c.args in
    let t = c.reply_lines-t in
    let p = c.put_last-written in
    let e = ended a.buf.now a.replies.now t.new.out a.have t.result c.requires.0 c.requires.1.0 t.ensures p.new.out p.result p.ensures in
    let f = ended_fits a.buf.now a.replies.now t.new.out a.have t.result c.requires.0 c.requires.1.0 t.ensures p.new.out p.result p.ensures in
    front _ a.replies.now _ _ e f

pub returns-then-ended : goal.returns-then-ended
returns-then-ended c =
    let x = take c.args.have c.args.buf.now in
    subst (λ (b : Bool). Turned (turn_on table b x) (record { kept = 0; sent = c.send-sent.result }) c.args.buf.now) (sym c.if-ended.true)
    (record { kept = refl; rest = refl })

pub slice_bounds-send-end-4 : goal.slice_bounds-send-end-4
slice_bounds-send-end-4 c =
    let a = c.args in
    let t = c.reply_lines-t in
    let w = open_wrote (take a.have a.buf.now) a.replies.now t.new.out t.result t.ensures in
    front_in _ a.replies.now _ _ w (fits a.buf.now a.replies.now t.new.out a.have t.result c.requires.0 c.requires.1.0 t.ensures)

pub send-sent-requires-2 : goal.send-sent-requires-2
send-sent-requires-2 c =
    let a = c.args in
    let t = c.reply_lines-t in
    let w = open_wrote (take a.have a.buf.now) a.replies.now t.new.out t.result t.ensures in
    front _ a.replies.now _ _ w (fits a.buf.now a.replies.now t.new.out a.have t.result c.requires.0 c.requires.1.0 t.ensures)

pub overflow_sub-have : goal.overflow_sub-have
overflow_sub-have c =
    let a = c.args in
    let t = c.reply_lines-t in
    read_in a.buf.now a.have a.replies.now t.new.out t.result c.requires.0 t.ensures

pub returns : goal.returns
returns c =
    let t = c.reply_lines-t in
    let a = c.args in
    let r : Round = record { kept = c.min-kept.result; sent = c.send-sent-2.result } in
    subst (λ (b : Bool). Turned (turn_on table b (take a.have a.buf.now)) r c.to_front.new.buf) (sym c.if-ended.false)
    (open_turned a.buf.now a.have a.replies.now t.new.out t.result c.requires.0 t.ensures r c.to_front.new.buf c.min-kept.ensures c.to_front.ensures)
