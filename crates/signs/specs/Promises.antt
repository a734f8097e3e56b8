-- What is promised of the signs, over a format f, a gamma function g and a log-gamma l: of values in the words of Value, and of bit patterns in those of
-- Pattern. All of it is proved of tgamma and lgamma_r in f64, and of tgammaf and lgammaf_r in f32; of tgammaf and lgamma_r, in f32 too, that the signs
-- agree (proofs/Signs, PatternSigns).
-- `T (fits f x)` says that x is a float of the format, `sign_s f y` is the sign bit of y, 1 or 0, and `pos 1` and `negsuc 0` are +1 and -1. The zeros are
-- finite and no negative whole numbers, and -0 carries a minus sign. An answer may be an infinity or a zero: its sign is its sign bit all the same.
use Rattle.std.specs.Prelude.{◌≡◌, ◌⊎◌, ℕ, ◌*◌, ◌%◌, ◌<◌, false, ℤ, pos, negsuc, T, Float}
use Rattle.std.specs.Float.{Format, nan, inf}
use Rattle.std.specs.Float.Ieee.{top, fits, to_bits, of_bits}
use Rattle.words.specs.Bits.{sign_s}
use Rattle.lgamma.specs.Plan.{Answer}
use Rattle.by_bits.specs.ByBits.{on_bits, sign_on_bits}
use Rattle.signs.specs.Value.{Finite, Minus, whole_part, NegativeWhole}
use Rattle.signs.specs.Pattern.{sign_bit, FiniteBits, NanBits, whole_part_bits, NegativeWholeBits}

-- ---- of a value x

-- 1. g(x) is no NaN, where x is finite and no negative whole number
abbrev pub NoNan : Format → (Float → Float) → Type 0
NoNan f g = (x : Float) → T (fits f x) → Finite x → (NegativeWhole x → ⊥)
    → g x ≡ nan → ⊥

-- 2. its sign bit is set exactly where l(x) reports -1
abbrev pub SameSign : Format → (Float → Float) → (Float → Answer) → Type 0
SameSign f g l = (x : Float) → T (fits f x) → Finite x → (NegativeWhole x → ⊥)
    → (sign_s f (g x) ≡ 1 → (l x).sign ≡ negsuc 0)
    × ((l x).sign ≡ negsuc 0 → sign_s f (g x) ≡ 1)

-- 3. that sign is minus exactly where x carries a minus sign and the whole part of its size is even
abbrev pub SignRule : Format → (Float → Float) → Type 0
SignRule f g = (x : Float) → T (fits f x) → Finite x → (NegativeWhole x → ⊥)
    → (sign_s f (g x) ≡ 1 → Minus x × (whole_part x % 2 ≡ 0))
    × (Minus x × (whole_part x % 2 ≡ 0) → sign_s f (g x) ≡ 1)

-- at a negative whole number g is NaN, and l is +inf with the sign +1
abbrev pub AtPoles : Format → (Float → Float) → (Float → Answer) → Type 0
AtPoles f g l = (x : Float) → T (fits f x) → NegativeWhole x
    → (g x ≡ nan) × (l x ≡ record { value = inf false; sign = pos 1 })

-- l reports +1 or -1, and nothing else, for every float: the infinities, the NaN and the negative whole numbers included
abbrev pub Reports : Format → (Float → Answer) → Type 0
Reports f l = (x : Float) → T (fits f x) → ((l x).sign ≡ pos 1) ⊎ ((l x).sign ≡ negsuc 0)

-- ---- the words of Pattern say of the bits n what those of Value say of their value

pub record Means (f : Format) (n : ℕ) : Type 0 where
  pub finite : FiniteBits f n → Finite (of_bits f n)
  pub finite_back : Finite (of_bits f n) → FiniteBits f n
  pub nan_is : NanBits f n → of_bits f n ≡ nan
  pub nan_back : of_bits f n ≡ nan → NanBits f n
  pub minus : FiniteBits f n → sign_bit f n ≡ 1 → Minus (of_bits f n)
  pub minus_back : FiniteBits f n → Minus (of_bits f n) → sign_bit f n ≡ 1
  pub part : FiniteBits f n → whole_part_bits f n ≡ whole_part (of_bits f n)
  pub whole : FiniteBits f n → NegativeWholeBits f n → NegativeWhole (of_bits f n)
  pub whole_back : FiniteBits f n → NegativeWhole (of_bits f n) → NegativeWholeBits f n

-- ---- of the bits n of an argument, with the bits r of g's answer and the sign s that l reports

-- 1. r is no NaN's, where n is finite and no negative whole number
abbrev pub NoNanBits : Format → (Float → Float) → Type 0
NoNanBits f g = (n r : ℕ) → n < 2 * top f → FiniteBits f n → (NegativeWholeBits f n → ⊥)
    → r ≡ on_bits f g n
    → NanBits f r → ⊥

-- 2. its sign bit is set exactly where s is -1
abbrev pub SameSignBits : Format → (Float → Float) → (Float → Answer) → Type 0
SameSignBits f g l = (n r : ℕ) (s : ℤ) → n < 2 * top f → FiniteBits f n → (NegativeWholeBits f n → ⊥)
    → r ≡ on_bits f g n → s ≡ sign_on_bits f l n
    → (sign_bit f r ≡ 1 → s ≡ negsuc 0) × (s ≡ negsuc 0 → sign_bit f r ≡ 1)

-- 3. that sign bit is set exactly where n's is and the whole part of the size is even
abbrev pub SignRuleBits : Format → (Float → Float) → Type 0
SignRuleBits f g = (n r : ℕ) → n < 2 * top f → FiniteBits f n → (NegativeWholeBits f n → ⊥)
    → r ≡ on_bits f g n
    → (sign_bit f r ≡ 1 → (sign_bit f n ≡ 1) × (whole_part_bits f n % 2 ≡ 0))
    × ((sign_bit f n ≡ 1) × (whole_part_bits f n % 2 ≡ 0) → sign_bit f r ≡ 1)

-- at a negative whole number r is the NaN's pattern, 0x7FF8000000000000 or in f32 0x7FC00000, and s is 1
abbrev pub AtPolesBits : Format → (Float → Float) → (Float → Answer) → Type 0
AtPolesBits f g l = (n r : ℕ) (s : ℤ) → FiniteBits f n → NegativeWholeBits f n
    → r ≡ on_bits f g n → s ≡ sign_on_bits f l n
    → (r ≡ to_bits f nan) × (s ≡ pos 1)

-- s is 1 or -1, whatever the bits
abbrev pub ReportsBits : Format → (Float → Answer) → Type 0
ReportsBits f l = (n : ℕ) (s : ℤ) → s ≡ sign_on_bits f l n → (s ≡ pos 1) ⊎ (s ≡ negsuc 0)
