-- `narrow::narrow` meets its contract. Assumes nothing.
use mathlib.Core.Path.{sym, ap, ◌∙◌}
use native.Mathlib.Omega.{arith}
use Prim.Native.Nat.{◌+◌, ◌*◌, ◌/◌}
use lib.Ieee.{div, of_bits, binary32, binary64}
use Rattle.narrow.specs.Narrow.{narrow_s}
use Rattle.words.proofs.PatternLaws.{nan_is, of_pattern, pattern_not_nan, up_to_inf}
use Rattle.narrow.proofs.NarrowLaws.{narrowed_either}
use Rattle.narrow.proofs.narrow.Goals as goal

pub returns-then-x : goal.returns-then-x
unfolding div of_bits narrow_s
returns-then-x c = ap narrow_s (sym (nan_is c.args.x c.if-x.true))

pub narrowed-n-requires : goal.narrowed-n-requires
narrowed-n-requires c =
    up_to_inf binary64 c.args.x c.bits_of-b.result c.well_formed.0.1 c.bits_of-b.ensures c.if-x.false

pub float_from_bits-result : goal.float_from_bits-result
float_from_bits-result c = pattern_not_nan binary32 (c.narrowed-n.result + c.bits_of-b.result / 0x8000000000000000 * 0x80000000) (omega arith)

pub returns : goal.returns
returns c =
    narrowed_either c.bits_of-b.result c.narrowed-n.result (omega arith) c.narrowed-n.ensures
    ∙ ap narrow_s (of_pattern binary64 c.args.x c.bits_of-b.result c.well_formed.0.1 c.bits_of-b.ensures)
