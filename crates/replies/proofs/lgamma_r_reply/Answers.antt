-- `replies::lgamma_r_reply` meets its contract. Assumes nothing.
use mathlib.Core.Path.{◌∙◌}
use lib.Ieee.{binary64}
use mir.Syntax.{w32}
use mir.ValLaws.{to_z-of_z}
use Rattle.lgamma.specs.Lgamma64.{lgamma_s}
use Rattle.kinds.specs.Shape.{shape_in}
use Rattle.kinds.specs.Kinds.{shapes}
use Rattle.by_bits.specs.ByBits.{value_on_bits, sign_on_bits}
use Rattle.records.specs.Row.{row_in}
use Rattle.replies.specs.Table.{meanings, table}
use Rattle.replies.proofs.RowLaws.{signed_row, eight}
use Rattle.replies.proofs.lgamma_r_reply.Goals as goal

pub returns : goal.returns
unfolding table meanings row_in shapes shape_in
returns c =
    let l = c in
    let s = l in
    signed_row 130 8 (value_on_bits binary64 lgamma_s) (sign_on_bits binary64 lgamma_s) _ _ _ _ _ c.signed_number.ensures l.lgamma_r_bits-t.ensures.0
    (to_z-of_z w32 l.lgamma_r_bits-t.result.sign (record { sfits = c.struct_told-1.given.1.0.1 }) ∙ l.lgamma_r_bits-t.ensures.1)
    (eight s.args.bits s.ranges.bits.fits)
