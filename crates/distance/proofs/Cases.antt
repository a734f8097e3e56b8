-- The distance by examples, computed: across zero, at the ends, and of a NaN. Assumes nothing.
use mathlib.Core.Path.{◌≡◌, refl}
use Rattle.std.specs.Prelude.{None, Some}
use lib.Ieee.{binary32, binary64, nan_bits}
use Rattle.distance.specs.Distance.{place_s, distance_s, code_of, steps_of}

-- the least number above zero and the least below it
pub across_zero : (distance_s binary64 1 0x8000000000000001 ≡ Some 2) × (distance_s binary32 1 0x80000001 ≡ Some 2)
unfolding distance_s place_s nan_bits
across_zero = (refl, refl)

-- -0 and +0
pub zeros_together : (distance_s binary64 0 0x8000000000000000 ≡ Some 0) × (distance_s binary32 0 0x80000000 ≡ Some 0)
unfolding distance_s place_s nan_bits
zeros_together = (refl, refl)

-- the largest finite number of either sign and the infinity behind it
pub to_infinity : (distance_s binary64 0x7FEFFFFFFFFFFFFF 0x7FF0000000000000 ≡ Some 1) × (distance_s binary32 0x7F7FFFFF 0x7F800000 ≡ Some 1)
unfolding distance_s place_s nan_bits
to_infinity = (refl, refl)

pub to_minus_infinity : (distance_s binary64 0xFFEFFFFFFFFFFFFF 0xFFF0000000000000 ≡ Some 1) × (distance_s binary32 0xFF7FFFFF 0xFF800000 ≡ Some 1)
unfolding distance_s place_s nan_bits
to_minus_infinity = (refl, refl)

-- from one infinity to the other
pub end_to_end : (distance_s binary64 0xFFF0000000000000 0x7FF0000000000000 ≡ Some 0xFFE0000000000000)
    × (distance_s binary32 0xFF800000 0x7F800000 ≡ Some 0xFF000000)
unfolding distance_s place_s nan_bits
end_to_end = (refl, refl)

-- The NaN next to an infinity has no distance to it: in C the code is 4, and the distance 0.
pub of_a_nan : let d = distance_s binary64 0x7FF0000000000001 0x7FF0000000000000 in let e = distance_s binary32 0 0xFF800001 in
    ((d ≡ None) × (code_of d ≡ 4) × (steps_of d ≡ 0)) × ((e ≡ None) × (code_of e ≡ 4) × (steps_of e ≡ 0))
unfolding distance_s place_s nan_bits
of_a_nan = ((refl, refl, refl), (refl, refl, refl))
