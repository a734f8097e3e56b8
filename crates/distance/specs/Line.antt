-- What a place means, and what the distance promises. The line of a format's numbers is told of values: a number is a float that is no NaN, an
-- infinity included, and -0 and +0 are equal. proofs/Promised has a proof of each promise, for both formats.
use Rattle.std.specs.Prelude.{ℕ, zero, suc, ◌+◌, ◌-◌, ◌*◌, ◌≤◌, ◌≡◌, true, false, ◌||◌, ◌↔◌, ◌⊎◌, pos, ◌+ℤ◌, Float, None, Some}
use Rattle.std.specs.Float.{inf, Format}
use Rattle.std.specs.Float.Ieee.{hid, ones, top, neg, fits, of_bits, nan_bits}
use Rattle.words.specs.Tests.{◌<·◌, ◌≤·◌, ◌=·◌, ◌<ℤ?◌}
use Rattle.distance.specs.Distance.{place_s, distance_s, code_of, steps_of}

-- a number's pattern
abbrev pub Number : Format → ℕ → Type 0
Number f b = nan_bits f b ≡ false

-- y is the next number of the format above x: the format has it, it is greater, and no float of the format lies between
pub record Next (f : Format) (x y : Float) : Type 0 where
  pub held : fits f y ≡ true
  pub above : (x <· y) ≡ true
  pub between : (z : Float) → fits f z ≡ true → (x <· z) ≡ true → (z <· y) ≡ true → ⊥

-- n steps up lead from x to y, each to a next number of the format; none, where the two are equal, as -0 and +0 are
abbrev pub Steps : Format → ℕ → Float → Float → Type 0
Steps f zero x y = (x =· y) ≡ true
Steps f (suc n) x y = (z : Float) × Next f x z × Steps f n z y

-- x is the largest of the format's finite numbers
pub record Largest (f : Format) (x : Float) : Type 0 where
  pub held : fits f x ≡ true
  pub finite : (x <· inf false) ≡ true
  pub others : (z : Float) → fits f z ≡ true → (z <· inf false) ≡ true → (z ≤· x) ≡ true

-- The pattern before the infinity's is the largest finite number's, and an infinity is the next number past it, and so on the other side.
abbrev pub PastLargest : Format → Type 0
PastLargest f = let x = of_bits f (ones f * hid f - 1) in Largest f x × Next f x (inf false) × Next f (inf true) (neg x)

-- Both zeros, by their patterns, are at place 0.
abbrev pub AtZero : Format → Type 0
AtZero f = (place_s f 0 ≡ pos 0) × (place_s f (top f) ≡ pos 0)

-- Places are in the order of the numbers, and equal numbers, and no others, have one place.
abbrev pub InOrder : Format → Type 0
InOrder f =
    (a b : ℕ) → Number f a → Number f b →
    ((of_bits f a <· of_bits f b) ≡ (place_s f a <ℤ? place_s f b)) × (((of_bits f a =· of_bits f b) ≡ true) ↔ (place_s f a ≡ place_s f b))

-- The next number up is at the next place, and what is there is the next number up.
abbrev pub NextPlace : Format → Type 0
NextPlace f = (a b : ℕ) → Number f a → Number f b → Next f (of_bits f a) (of_bits f b) ↔ (place_s f b ≡ place_s f a +ℤ pos 1)

-- There is none where either is a NaN, and the code is then 4 and the number of steps 0; there is one of two numbers, and its code is 0.
abbrev pub RefusesNan : Format → Type 0
RefusesNan f =
    (a b : ℕ) →
    (nan_bits f a || nan_bits f b ≡ true → (distance_s f a b ≡ None) × (code_of (distance_s f a b) ≡ 4) × (steps_of (distance_s f a b) ≡ 0))
    × (Number f a → Number f b → (distance_s f a b ≡ Some (steps_of (distance_s f a b))) × (code_of (distance_s f a b) ≡ 0))

-- The distance is the number of steps from one number to the other: so many lead up from one of them to the other, and no other number of steps does.
abbrev pub CountsSteps : Format → Type 0
CountsSteps f =
    (a b n : ℕ) → Number f a → Number f b →
    (distance_s f a b ≡ Some n) ↔ (Steps f n (of_bits f a) (of_bits f b) ⊎ Steps f n (of_bits f b) (of_bits f a))

-- Of two numbers it is zero exactly for equal places,
abbrev pub ZeroForSame : Format → Type 0
ZeroForSame f = (a b : ℕ) → Number f a → Number f b → (distance_s f a b ≡ Some 0) ↔ (place_s f a ≡ place_s f b)

-- the same in either order, and so its code,
abbrev pub EitherOrder : Format → Type 0
EitherOrder f = (a b : ℕ) → distance_s f a b ≡ distance_s f b a

-- and never shorter by way of a third number. That must be one, since by way of a NaN both distances are 0; of the two ends nothing is asked.
abbrev pub NoShortcut : Format → Type 0
NoShortcut f =
    (a b c : ℕ) → Number f b → steps_of (distance_s f a c) ≤ steps_of (distance_s f a b) + steps_of (distance_s f b c)
