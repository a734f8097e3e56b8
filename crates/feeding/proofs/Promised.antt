-- What specs/Promises states, for every table. Assumes nothing.
use mathlib.Core.List.{List, []}
use Prim.Native.Nat.{ℕ}
use Rattle.records.specs.Row.{Row}
use Rattle.feeding.specs.Feed.{Open}
use Rattle.feeding.specs.Promises.{Starts, Within, Ends, SameAnswers, SamePieces, SameOnceDone, Progress, StaysStopped, NoStart, OthersClose, GoesOn}
use Rattle.feeding.proofs.TakeLaws.{begun_none}
use Rattle.feeding.proofs.CallLaws as call
use Rattle.feeding.proofs.EndLaws as end
use Rattle.feeding.proofs.HostLaws as host
use Rattle.feeding.proofs.LineLaws as line

module _ (T : List Row) where
  pub starts : Starts T
  starts = end.starts T

  pub within : Within T
  within = end.within T

  pub call_ends : Ends T
  call_ends = end.call_ends T

  pub same_answers : (L : ℕ) → SameAnswers T L
  same_answers L a s os r h = host.same_once_done T s os (host.gets_done T L a (Open []) s os (begun_none T) r h)

  pub same_pieces : (L : ℕ) → SamePieces T L
  same_pieces L = line.same_pieces T L

  pub same_once_done : SameOnceDone T
  same_once_done = host.same_once_done T

  pub progress : (L : ℕ) → Progress T L
  progress L = call.progress T L

  pub stays_stopped : StaysStopped T
  stays_stopped = (call.stopped_stays T, call.stopped_closes T)

  pub no_start : NoStart T
  no_start h e = (λ p room. (call.no_start T h p room e).0, (call.no_start T h [] 0 e).1)

  pub others_close : OthersClose T
  others_close h e = (λ room. call.empty_piece T h room e, call.others_close T h e)

  pub goes_on : GoesOn T
  goes_on = call.goes_on T
