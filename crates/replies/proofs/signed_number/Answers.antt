-- `replies::signed_number` meets its contract. Assumes nothing.
use mathlib.Core.Path.{◌∙◌, ap}
use Prim.Native.Nat.{ℕ}
use mir.Syntax.{w32}
use mir.ValLaws.{to_z-of_z}
use Rattle.kinds.specs.Shape.{sign_byte}
use Rattle.records.specs.declared.Reply.{Reply}
use Rattle.replies.proofs.signed_number.Goals as goal

record_of : ℕ → ℕ → ℕ → ℕ → Reply
record_of h w b e = record { head = h; width = w; bits = b; more = 1; extra = e }

pub returns : goal.returns
unfolding record_of
returns c =
    let a = c.args in
    ap (λ (n : ℕ). record_of a.head a.width a.bits n) (c.sign_byte.ensures ∙ ap sign_byte (to_z-of_z w32 a.sign c.ranges.sign))
