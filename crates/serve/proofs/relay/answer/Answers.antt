-- `serve::relay::answer` meets its contract: the batch, its answers sent as it left them, and the move of its unread tail. Assumes nothing.
use mathlib.Core.Path.{◌≡◌, ap, sym, ◌∙◌}
use mathlib.Core.List.{List}
use Prim.Native.Nat.{ℕ, ◌-◌, ◌≤◌}
use native.Mathlib.Omega.{arith}
use lib.ListN.{length, take, drop}
use lib.Seq.{length-take-le, length-sets}
use Rattle.replies.specs.Table.{table}
use Rattle.stream.specs.Batch.{batch_s}
use Rattle.records.specs.Run.{one, run}
use Rattle.records.specs.declared.Tally.{Tally}
use Rattle.records.proofs.RunLaws.{sound, run_within}
use Rattle.records.proofs.LoopLaws.{front, front_in, front_length}
use Rattle.session.proofs.FrontLaws.{moved_front, take_drop}
use Rattle.serve.proofs.relay.answer.Goals as goal

-- a batch over the first `have` bytes of b read no more than those
read_in : (b before : List ℕ) (have : ℕ) (t : Tally) → have ≤ length b → t ≡ (batch_s (take have b) before).tally → t.read ≤ have
read_in b before have t h e =
    omega (arith, ap (λ (x : Tally). x.read) e, length-take-le have b h, (run_within table (take have b) (length before)).read)

pub slice_bounds-send-end-3 : goal.slice_bounds-send-end-3
slice_bounds-send-end-3 c =
    let a = c.args in
    let t = c.batch-t in
    front_in (one table) (sound table) (take a.have a.buf.now) a.answers.now t.new.answers t.result.tally.written
    (ap (λ (x : Tally). x.written) t.ensures.tally) t.ensures.buffer

pub slice_bounds-send-end-4 : goal.slice_bounds-send-end-4
slice_bounds-send-end-4 c =
    let a = c.args in
    let t = c.batch-t in
    front_length (one table) (sound table) (take a.have a.buf.now) a.answers.now t.new.answers t.result.tally.written
    (ap (λ (x : Tally). x.written) t.ensures.tally) t.ensures.buffer

pub send-sent-requires : goal.send-sent-requires
send-sent-requires c =
    let a = c.args in
    let t = c.batch-t in
    let s = take a.have a.buf.now in
    let room : length t.new.answers ≡ length a.answers.now =
    ap length t.ensures.buffer ∙ length-sets a.answers.now 0 (batch_s s a.answers.now).bytes in
    front (one table) (sound table) s a.answers.now t.new.answers t.result.tally.written (ap (λ (x : Tally). x.written) t.ensures.tally)
    t.ensures.buffer
    ∙ ap (λ (n : ℕ). (run table s n).bytes) (sym room)

pub overflow_sub-kept : goal.overflow_sub-kept
overflow_sub-kept c = read_in c.args.buf.now c.args.answers.now c.args.have c.batch-t.result.tally c.requires c.batch-t.ensures.tally

pub returns : goal.returns
returns c =
    let a = c.args in
    let t = c.batch-t in
    let d = t.ensures in
    let k = t.result.tally.read in
    let s = take a.have a.buf.now in
    let e : k ≡ (batch_s s a.answers.now).tally.read = ap (λ (x : Tally). x.read) d.tally in
    let i : k ≤ a.have = read_in a.buf.now a.answers.now a.have t.result.tally c.requires d.tally in
    record {
      code = d.code;
      kept = omega (arith, e, length-take-le a.have a.buf.now c.requires);
      rest =
          ap (take (a.have - k)) c.to_front.ensures ∙ moved_front a.buf.now k (a.have - k) (omega (arith, i, c.requires))
          ∙ take_drop a.buf.now k a.have i c.requires ∙ ap (λ (j : ℕ). drop j s) e;
      answers = d.buffer;
    }
