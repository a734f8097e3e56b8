-- The words of an f64's bit pattern, and the parts of an f32's. A NaN's pattern is 0x7FF8000000000000, in f32 0x7FC00000.
use Rattle.std.specs.Prelude.{ℕ, ◌+◌, ◌*◌, ◌/◌, ◌%◌, ◌^◌, Float}
use Rattle.std.specs.Float.{Format, binary32, binary64}
use Rattle.std.specs.Float.Ieee.{top, to_bits, of_bits}

-- 1 where the sign bit is set, else 0
abbrev pub sign_s : Format → Float → ℕ
sign_s f x = to_bits f x / top f

-- get_high_word: the upper 32 bits
abbrev pub high_word_s : Float → ℕ
high_word_s x = to_bits binary64 x / 2 ^ 32

-- get_low_word: the lower 32 bits
abbrev pub low_word_s : Float → ℕ
low_word_s x = to_bits binary64 x % 2 ^ 32

-- the upper 32 bits without the sign, which the Rust writes `get_high_word(x) & 0x7fffffff`
abbrev pub size_word_s : Float → ℕ
size_word_s x = to_bits binary64 x / 2 ^ 32 % 2 ^ 31

-- the bits of an f32 without the sign
abbrev pub size_bits_s : Float → ℕ
size_bits_s x = to_bits binary32 x % 2 ^ 31

-- with_set_high_word: the float whose upper 32 bits are hi, and whose lower ones are x's
abbrev pub with_high_word_s : Float → ℕ → Float
with_high_word_s x hi = of_bits binary64 (hi * 2 ^ 32 + low_word_s x)

-- with_set_low_word: the float whose lower 32 bits are lo, and whose upper ones are x's
abbrev pub with_low_word_s : Float → ℕ → Float
with_low_word_s x lo = of_bits binary64 (high_word_s x * 2 ^ 32 + lo)
