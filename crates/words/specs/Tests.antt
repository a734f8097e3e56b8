-- Tests as the Rust writes them; each is true or false. A `?` marks those of natural numbers, `ℤ?` those of integers, `·` those of floats.
use Rattle.std.specs.Prelude.{ℕ, Bool, not, ℤ, leb, ltb, eqb, Float}
use Rattle.std.specs.Int.Signed.{le_z, lt_z}
use Rattle.std.specs.Float.Ieee as Ieee

infix 50 ◌<?◌ ◌>?◌ ◌≤?◌ ◌≥?◌ ◌=?◌ ◌≠?◌
infix 50 ◌<ℤ?◌ ◌>ℤ?◌ ◌≥ℤ?◌
infix 50 ◌<·◌ ◌>·◌ ◌≤·◌ ◌=·◌ ◌≠·◌
abbrev pub ◌<?◌ : ℕ → ℕ → Bool
m <? n = ltb m n

abbrev pub ◌>?◌ : ℕ → ℕ → Bool
m >? n = ltb n m

abbrev pub ◌≤?◌ : ℕ → ℕ → Bool
m ≤? n = leb m n

abbrev pub ◌≥?◌ : ℕ → ℕ → Bool
m ≥? n = leb n m

abbrev pub ◌=?◌ : ℕ → ℕ → Bool
m =? n = eqb m n

abbrev pub ◌≠?◌ : ℕ → ℕ → Bool
m ≠? n = not (eqb m n)

abbrev pub ◌<ℤ?◌ : ℤ → ℤ → Bool
i <ℤ? k = lt_z i k

abbrev pub ◌>ℤ?◌ : ℤ → ℤ → Bool
i >ℤ? k = lt_z k i

abbrev pub ◌≥ℤ?◌ : ℤ → ℤ → Bool
i ≥ℤ? k = le_z k i

-- IEEE 754's: -0 equals +0, and beside a NaN only ≠· is true
abbrev pub ◌<·◌ : Float → Float → Bool
x <· y = Ieee.lt x y

abbrev pub ◌>·◌ : Float → Float → Bool
x >· y = Ieee.lt y x

abbrev pub ◌≤·◌ : Float → Float → Bool
x ≤· y = Ieee.le x y

abbrev pub ◌=·◌ : Float → Float → Bool
x =· y = Ieee.eq x y

abbrev pub ◌≠·◌ : Float → Float → Bool
x ≠· y = Ieee.ne x y
