-- `replies::erfcf_reply` meets its contract. Assumes nothing.
use lib.Ieee.{binary32}
use Rattle.erff.specs.Erff.{erfcf_s}
use Rattle.kinds.specs.Shape.{shape_in}
use Rattle.kinds.specs.Kinds.{shapes}
use Rattle.by_bits.specs.ByBits.{on_bits}
use Rattle.records.specs.Row.{row_in}
use Rattle.replies.specs.Table.{meanings, table}
use Rattle.replies.proofs.RowLaws.{plain_row}
use Rattle.replies.proofs.erfcf_reply.Goals as goal

pub returns : goal.returns
unfolding table meanings row_in shapes shape_in
returns c = plain_row 148 4 (on_bits binary32 erfcf_s) _ _ _ _ c.number.ensures c.erfcf_bits.ensures c.low_half.ensures
