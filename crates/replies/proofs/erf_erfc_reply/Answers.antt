-- `replies::erf_erfc_reply` meets its contract. Assumes nothing.
use lib.Ieee.{binary64}
use Rattle.erf.specs.Erf64.{erf_s, erfc_s}
use Rattle.kinds.specs.Shape.{shape_in}
use Rattle.kinds.specs.Kinds.{shapes}
use Rattle.by_bits.specs.ByBits.{on_bits}
use Rattle.records.specs.Row.{row_in}
use Rattle.replies.specs.Table.{meanings, table}
use Rattle.replies.proofs.RowLaws.{paired_row, eight}
use Rattle.replies.proofs.erf_erfc_reply.Goals as goal

pub returns : goal.returns
unfolding table meanings row_in shapes shape_in
returns c =
    let both = c.erf_erfc_bits-t.ensures in
    paired_row 135 8 (on_bits binary64 erf_s) (on_bits binary64 erfc_s) _ _ _ _ _ c.two_numbers.ensures both.0 both.1
    (eight c.args.bits c.ranges.bits.fits)
