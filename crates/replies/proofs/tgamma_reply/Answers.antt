-- `replies::tgamma_reply` meets its contract. Assumes nothing.
use lib.Ieee.{binary64}
use Rattle.tgamma.specs.Tgamma.{tgamma_s}
use Rattle.kinds.specs.Shape.{shape_in}
use Rattle.kinds.specs.Kinds.{shapes}
use Rattle.by_bits.specs.ByBits.{on_bits}
use Rattle.records.specs.Row.{row_in}
use Rattle.replies.specs.Table.{meanings, table}
use Rattle.replies.proofs.RowLaws.{plain_row, eight}
use Rattle.replies.proofs.tgamma_reply.Goals as goal

pub returns : goal.returns
unfolding table meanings row_in shapes shape_in
returns c = let s = c in plain_row 129 8 (on_bits binary64 tgamma_s) _ _ _ _ c.number.ensures c.tgamma_bits.ensures (eight s.args.bits s.ranges.bits.fits)
