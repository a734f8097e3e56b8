-- `entries::report::rvt_batch` meets its contract: a report of its length gets the batch's counts. Assumes nothing.
use borrow.Author.Rules.{rules}
use Rattle.entries.proofs.ReportLaws.{made_done}
use Rattle.entries.proofs.report.rvt_batch.Goals as goal

pub returns : goal.returns
returns c =
    made_done c.args.requests.now c.args.answers.now c.args.report.now _ _ _ _ (search rules) c.from.ensures c.batch-t.ensures c.tell.ensures
