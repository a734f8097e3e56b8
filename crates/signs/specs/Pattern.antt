-- What the sign theorem speaks of, of the bits of a float of format f: a sign bit, an exponent field E and a fraction F. In f64 E has 11 bits and F has
-- 52, in f32 8 and 23. The kit's words for a format: `hid f` is 2 ^ 52 in f64 and 2 ^ 23 in f32, the weight of E's lowest bit; `ones f` is 2047 and 255,
-- the E of the infinities and the NaNs; `top f` is 2 ^ 63 and 2 ^ 31, the sign bit's weight; 2 ^ -(low f) is the smallest size above 0, low f being 1074 and 149.
-- The size that the bits stand for is (hid f + F) * 2 ^ E / 2 ^ (1 + low f), and F / 2 ^ low f where E is 0.
use Rattle.std.specs.Prelude.{ℕ, suc, ◌+◌, ◌*◌, ◌/◌, ◌%◌, ◌^◌, ◌<◌, ◌≡◌}
use Rattle.std.specs.Float.{Format}
use Rattle.std.specs.Float.Ieee.{hid, ones, top, low}

-- 1 where the sign bit is set, else 0
abbrev pub sign_bit : Format → ℕ → ℕ
sign_bit f n = n / top f

-- E and F
abbrev pub exponent : Format → ℕ → ℕ
exponent f n = n / hid f % suc (ones f)

abbrev pub fraction : Format → ℕ → ℕ
fraction f n = n % hid f

-- neither NaN nor an infinity
abbrev pub FiniteBits : Format → ℕ → Type 0
FiniteBits f n = exponent f n < ones f

-- a NaN's
abbrev pub NanBits : Format → ℕ → Type 0
NanBits f n = (exponent f n ≡ ones f) × (0 < fraction f n)

-- the whole part of the size; a size whose E is 0 is below 1
abbrev pub whole_part_bits : Format → ℕ → ℕ
whole_part_bits f n = (hid f + fraction f n) * 2 ^ exponent f n / 2 ^ suc (low f)

-- the sign bit is set, the size is 1 or more, and no fraction is left
abbrev pub NegativeWholeBits : Format → ℕ → Type 0
NegativeWholeBits f n =
    (sign_bit f n ≡ 1) × (0 < whole_part_bits f n) × ((hid f + fraction f n) * 2 ^ exponent f n % 2 ^ suc (low f) ≡ 0)
