-- floor as the Rust has it, generic/floor.rs: on the bit pattern ix, over the format, in its order. No contract cites it: floor is defined by the
-- value (Floor), the code goes by the value too, and proofs/FloorBits says that this comes to the same. `bit_and` is the Rust's `&`.
-- The status is left out; a NaN keeps its pattern, and is the one NaN in the law.
use Rattle.std.specs.Prelude.{ℕ, suc, ◌+◌, ◌-◌, ◌*◌, ◌/◌, ◌%◌, ◌^◌, bit_and, if◌then◌else◌}
use Rattle.std.specs.Float.{Format}
use Rattle.std.specs.Float.Ieee.{prec, emax, hid, ones, top}
use Rattle.words.specs.Tests.{◌<?◌, ◌≥?◌, ◌=?◌, ◌≠?◌}

-- !m: 2 * top is 2 to the number of bits
abbrev pub others : Format → ℕ → ℕ
others f m = 2 * top f - 1 - m

-- |x| >= 1.0, with m the mask of the digits behind the point
abbrev pub from_one : Format → ℕ → ℕ → ℕ
from_one f ix m =
    if bit_and ix m =? 0 then ix
    else if ix ≥? top f then bit_and (ix + m) (others f m)
    else bit_and ix (others f m)

-- |x| < 1.0
abbrev pub below_one : Format → ℕ → ℕ
below_one f ix =
    if ix <? top f then 0
    else if ix % top f ≠? 0 then top f + emax f * hid f  -- ix << 1 != 0: NEG_ONE
    else ix

-- e is the exponent's field, which is the Rust's e plus emax
abbrev pub floor_bits_s : Format → ℕ → ℕ
floor_bits_s f ix =
    let e = ix / hid f % suc (ones f) in
    if e ≥? emax f + (prec f - 1) then ix
    else if e ≥? emax f then from_one f ix ((hid f - 1) / 2 ^ (e - emax f))  -- SIG_MASK >> e
    else below_one f ix
