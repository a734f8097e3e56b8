-- How far two floats of one width lie apart, by their bit patterns, over the format.
use Rattle.std.specs.Prelude.{◌||◌, ℕ, ◌%◌, ℤ, pos, neg_ℤ, nat_abs, ◌-ℤ◌, if◌then◌else◌, Option, None, Some}
use Rattle.std.specs.Float.{Format}
use Rattle.std.specs.Float.Ieee.{top, nan_bits}
use Rattle.words.specs.Tests.{◌≥?◌}

-- The place of a number on the line of its format's numbers: 0 for both zeros, and from there one more, or one less, from each number to the next.
-- The bits below the sign's count the steps, and an infinity's come next after the largest finite number's. Line.antt says this of values. Of a
-- NaN's pattern it means nothing.
unfoldable pub place_s : Format → ℕ → ℤ
place_s f b = if b ≥? top f then neg_ℤ (pos (b % top f)) else pos (b % top f)

-- none if either is a NaN, else the size of the difference of the two places
unfoldable pub distance_s : Format → ℕ → ℕ → Option ℕ
distance_s f a b =
    if nan_bits f a || nan_bits f b then None
    else Some (nat_abs (place_s f a -ℤ place_s f b))

-- The same in two numbers, as C has it: the code is 4 where there is no distance, else 0,
abbrev pub code_of : Option ℕ → ℕ
code_of None = 4
code_of (Some n) = 0

-- and the distance is then 0.
abbrev pub steps_of : Option ℕ → ℕ
steps_of None = 0
steps_of (Some n) = n
