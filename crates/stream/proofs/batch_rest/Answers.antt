-- `stream::batch_rest` meets its contract: the tail from the count of bytes read on. Assumes nothing.
use mathlib.Core.Path.{ap}
use lib.ListN.{length}
use Rattle.replies.specs.Table.{table}
use Rattle.records.specs.Run.{one}
use Rattle.records.specs.declared.Tally.{Tally}
use Rattle.records.proofs.RunLaws.{sound}
use Rattle.records.proofs.LoopLaws.{read_in}
use Rattle.stream.proofs.batch_rest.Goals as goal

pub slice_bounds-result-count : goal.slice_bounds-result-count
slice_bounds-result-count c =
    let a = c.args in
    let t = c.batch in
    read_in (one table) (sound table) a.requests.now (length a.answers.now) t.result.tally.read (ap (λ (x : Tally). x.read) t.ensures.tally)

pub slice_bounds-result-start : goal.slice_bounds-result-start
slice_bounds-result-start c =
    let a = c.args in
    let t = c.batch in
    read_in (one table) (sound table) a.requests.now (length a.answers.now) t.result.tally.read (ap (λ (x : Tally). x.read) t.ensures.tally)
