-- A function by bits: the argument's in, the value's out, in a format.
use Rattle.std.specs.Prelude.{ℕ, ℤ, Float}
use Rattle.std.specs.Float.{Format}
use Rattle.std.specs.Float.Ieee.{of_bits, to_bits}
use Rattle.lgamma.specs.Plan.{Answer}

abbrev pub on_bits : Format → (Float → Float) → ℕ → ℕ
on_bits f g b = to_bits f (g (of_bits f b))

-- log-gamma's value, and its sign, 1 or -1
abbrev pub value_on_bits : Format → (Float → Answer) → ℕ → ℕ
value_on_bits f g b = to_bits f (g (of_bits f b)).value

abbrev pub sign_on_bits : Format → (Float → Answer) → ℕ → ℤ
sign_on_bits f g b = (g (of_bits f b)).sign
