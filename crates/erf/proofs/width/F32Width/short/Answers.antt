-- `short` of an f32 meets its contract. Assumes nothing.
use mathlib.Core.Path.{refl, sym, subst}
use Prim.Native.Nat.{◌*◌, ◌/◌, ◌^◌, ◌<◌}
use native.Mathlib.Omega.{arith}
use lib.Dec.{T, lit≤}
use lib.Ieee.{binary32, of_bits, to_bits}
use lib.Ieee.Bits.{to_bits-lt}
use Rattle.words.proofs.PatternLaws.{nan_kept, not_nan, cut_number}
use Rattle.erf.proofs.width.F32Width.short.Goals as goal

pub returns-then-self : goal.returns-then-self
unfolding to_bits of_bits
returns-then-self c = nan_kept (λ x. of_bits binary32 (to_bits binary32 x / 2 ^ 13 * 2 ^ 13)) refl _ c.if-self.true

pub float_to_bits-result : goal.float_to_bits-result
float_to_bits-result c = not_nan _ c.if-self.false

-- the pattern is below 2 ^ 32
bounded : (c : goal.Else-self) → to_bits binary32 c.args.self < 2 ^ 32
bounded c = to_bits-lt binary32 c.args.self (subst T (sym c.well_formed.0.1) tt)

pub overflow_mul-result : goal.overflow_mul-result
overflow_mul-result c = record { fits = omega (arith, bounded c) }

pub float_from_bits-result : goal.float_from_bits-result
float_from_bits-result c = cut_number binary32 c.args.self _ c.well_formed.0.1 refl 13 (lit≤ tt) c.if-self.false
