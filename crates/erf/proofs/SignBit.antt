-- f32 holds the sign bit as a number. Assumes nothing.
use Prim.Native.Nat.{◌^◌}
use native.Mathlib.Omega.{arith}
use lib.IntN.{pos}
use lib.Dec.{T, le→leb}
use lib.Ieee.{Float, binary32, fits, in_float}
use lib.Ieee.Bits.{to_bits-lt}
use Rattle.words.specs.Bits.{sign_s}

-- the sign bit of an f32, 0 or 1, is an f32
pub sign_exact : (x : Float) → T (fits binary32 x) → T (in_float binary32 (pos (sign_s binary32 x)))
unfolding in_float
sign_exact x F = le→leb (sign_s binary32 x) (2 ^ 24) (omega (arith, to_bits-lt binary32 x F))
