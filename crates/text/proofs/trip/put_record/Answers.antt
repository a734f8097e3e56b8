-- `text::trip::put_record` meets its contract: the kind, and the digits behind it. Assumes nothing.
use mathlib.Core.Path.{ap, ◌∙◌}
use Prim.Native.Nat.{ℕ}
use lib.ListN.{set}
use lib.Seq.{sets}
use Rattle.digits.specs.Digits.{digits}
use Rattle.text.proofs.trip.put_record.Goals as goal

pub returns : goal.returns
returns c =
    let a = c.args in
    c.put.ensures ∙ ap (λ (w : ℕ). sets (set a.requests.now 0 a.kind) 1 (digits w a.bits)) c.body.ensures
