-- `words::bits::clear_low_word` meets its contract. Assumes nothing.
use mathlib.Core.Path.{refl, sym, ap, subst}
use lib.Dec.{T, lit≤}
use lib.Ieee.Bits.{to_bits-lt}
use Prim.Native.Nat.{◌^◌, ◌<◌}
use native.Mathlib.Omega.{arith}
use lib.Ieee.{binary64, of_bits, to_bits, sub, div}
use Rattle.words.proofs.PatternLaws.{nan_is, not_nan, cut_number}
use Rattle.words.proofs.bits.clear_low_word.Goals as goal

pub returns-then-x : goal.returns-then-x
unfolding div sub to_bits of_bits
returns-then-x c = rw (nan_is c.args.x c.if-x.true) refl

pub float_to_bits-result : goal.float_to_bits-result
float_to_bits-result c = not_nan _ c.if-x.false

-- the pattern is below 2 ^ 64
bounded : (c : goal.Else-x) → to_bits binary64 c.args.x < 2 ^ 64
bounded c = to_bits-lt binary64 c.args.x (subst T (sym c.well_formed.0.1) tt)

pub overflow_mul-result : goal.overflow_mul-result
overflow_mul-result c = record { fits = omega (arith, bounded c) }

pub float_from_bits-result : goal.float_from_bits-result
float_from_bits-result c = cut_number binary64 c.args.x _ c.well_formed.0.1 refl 32 (lit≤ tt) c.if-x.false

pub returns : goal.returns
returns c = ap (of_bits binary64) (omega arith)
