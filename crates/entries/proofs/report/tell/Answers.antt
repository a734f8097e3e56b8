-- `entries::report::tell` meets its contract: three runs of stores fill the report. Assumes nothing.
use borrow.Author.Rules.{rules}
use Rattle.entries.proofs.ReportLaws.{told}
use Rattle.entries.proofs.report.tell.Goals as goal

pub returns : goal.returns
returns c = told _ _ _ c.args.report.now _ _ _ (search rules) c.put.ensures c.put-2.ensures c.put-3.ensures
