-- Number and fraction at the edges, computed from the definitions: the zeros and the smallest sizes, below and above 1, round 2 ^ 31, where the number
-- ends, and round 2 ^ 52 (f32: 2 ^ 23), where the fractions do; the infinities and a NaN. Assumes nothing.
use Prim.Native.Nat.{ℕ}
use mathlib.Core.Path.{◌≡◌, refl}
use mathlib.Core.Bool.{Bool, true, false}
use mathlib.Core.List.{List, [], ◌∷◌}
use lib.IntN.{ℤ, pos, negsuc}
use lib.Ieee.{Format, binary32, binary64, of_bits}
use Rattle.whole.specs.Whole.{whole_s, has_fraction_s}

-- a pattern of the format, its number and whether it has a fraction
abbrev Edge : Type 0
Edge = ℕ × ℤ × Bool

-- the same patterns with what the definitions say of them
abbrev said : Format → List Edge → List Edge
said f [] = []
said f ((b, n, t) ∷ l) = (b, whole_s (of_bits f b), has_fraction_s (of_bits f b)) ∷ said f l

abbrev edges64 : List Edge
edges64 =
    (0x0000000000000000, pos 0, false) ∷  -- +0
    (0x8000000000000000, pos 0, false) ∷  -- -0
    (0x0000000000000001, pos 0, true) ∷  -- the smallest, a subnormal
    (0x800FFFFFFFFFFFFF, pos 0, true) ∷  -- the greatest subnormal, negative
    (0x3FEFFFFFFFFFFFFF, pos 0, true) ∷  -- the last below 1
    (0xBFF0000000000000, negsuc 0, false) ∷  -- -1
    (0xBFF8000000000000, negsuc 0, true) ∷  -- -1.5
    (0xC000000000000001, negsuc 1, true) ∷  -- the next below -2
    (0x41DFFFFFFFFFFFFF, pos 2147483647, true) ∷  -- the last below 2^31
    (0xC1DFFFFFFFC00000, negsuc 2147483646, false) ∷  -- -(2^31 - 1)
    (0x41E0000000000000, pos 0, false) ∷  -- 2^31
    (0xC1E0000000100000, pos 0, true) ∷  -- -(2^31 + 0.5)
    (0x432FFFFFFFFFFFFF, pos 0, true) ∷  -- 2^52 - 0.5
    (0xC330000000000000, pos 0, false) ∷  -- -2^52
    (0x7FEFFFFFFFFFFFFF, pos 0, false) ∷  -- the greatest
    (0x7FF0000000000000, pos 0, false) ∷  -- +inf
    (0xFFF0000000000000, pos 0, false) ∷  -- -inf
    (0x7FF8000000000000, pos 0, false) ∷ []  -- NaN

pub at_edges : said binary64 edges64 ≡ edges64
unfolding whole_s has_fraction_s of_bits
at_edges = refl

abbrev edges32 : List Edge
edges32 =
    (0x00000000, pos 0, false) ∷  -- +0
    (0x80000000, pos 0, false) ∷  -- -0
    (0x80000001, pos 0, true) ∷  -- the smallest, negative
    (0x3F7FFFFF, pos 0, true) ∷  -- the last below 1
    (0xC0200000, negsuc 1, true) ∷  -- -2.5
    (0x4AFFFFFF, pos 8388607, true) ∷  -- 2^23 - 0.5
    (0xCB000001, negsuc 8388608, false) ∷  -- -(2^23 + 1)
    (0x4EFFFFFF, pos 2147483520, false) ∷  -- the last below 2^31
    (0xCF000000, pos 0, false) ∷  -- -2^31
    (0x7F800000, pos 0, false) ∷  -- +inf
    (0xFF800000, pos 0, false) ∷  -- -inf
    (0x7FC00000, pos 0, false) ∷ []  -- NaN

pub at_edges_f32 : said binary32 edges32 ≡ edges32
unfolding whole_s has_fraction_s of_bits
at_edges_f32 = refl
