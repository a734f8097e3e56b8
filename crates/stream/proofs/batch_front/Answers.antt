-- `stream::batch_front` meets its contract: the front of as many bytes as were written. Assumes nothing.
use mathlib.Core.Path.{refl, ap}
use Rattle.replies.specs.Table.{table}
use Rattle.records.specs.Run.{one}
use Rattle.records.specs.declared.Tally.{Tally}
use Rattle.records.proofs.RunLaws.{sound}
use Rattle.records.proofs.LoopLaws.{front, front_length}
use Rattle.stream.proofs.batch_front.Goals as goal

pub slice_bounds-result-end : goal.slice_bounds-result-end
slice_bounds-result-end c =
    let a = c.args in
    let t = c.batch in
    front_length (one table) (sound table) a.requests.now a.answers.now t.new.answers t.result.tally.written (ap (λ (x : Tally). x.written) t.ensures.tally) t.ensures.buffer

pub returns : goal.returns
returns c =
    let a = c.args in
    let t = c.batch in
    record {
      bytes = front (one table) (sound table) a.requests.now a.answers.now t.new.answers t.result.tally.written (ap (λ (x : Tally). x.written) t.ensures.tally) t.ensures.buffer;
      place = refl;
    }
