-- What a batch is: the run over the table that there is, with a buffer for the answers.
use Rattle.std.specs.Prelude.{ℕ, List, length}
use Rattle.replies.specs.Table.{table}
use Rattle.records.specs.Run.{Out, run}

abbrev pub batch_s : List ℕ → List ℕ → Out
batch_s requests answers = run table requests (length answers)
