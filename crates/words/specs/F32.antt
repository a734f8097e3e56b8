-- The operators that the Rust writes + - * / on f32, each rounded once, a constant by its bit pattern, and the literals that several
-- definitions write: 0·5 is the Rust's 0.5.
use Rattle.std.specs.Prelude.{ℕ, Float}
use Rattle.std.specs.Float.Ieee as Ieee
use Rattle.std.specs.Float.{binary32}

infixl 65 ◌⊕◌ ◌⊖◌
infixl 70 ◌⊗◌ ◌⊘◌
abbrev pub ◌⊕◌ : Float → Float → Float
x ⊕ y = Ieee.add binary32 x y

abbrev pub ◌⊖◌ : Float → Float → Float
x ⊖ y = Ieee.sub binary32 x y

abbrev pub ◌⊗◌ : Float → Float → Float
x ⊗ y = Ieee.mul binary32 x y

abbrev pub ◌⊘◌ : Float → Float → Float
x ⊘ y = Ieee.div binary32 x y

-- the value of a bit pattern
abbrev pub bits : ℕ → Float
bits n = Ieee.of_bits binary32 n

abbrev pub 0·0 : Float
0·0 = bits 0x00000000  -- 0.0

abbrev pub 0·5 : Float
0·5 = bits 0x3F000000  -- 0.5

abbrev pub 2·0 : Float
2·0 = bits 0x40000000  -- 2.0

abbrev pub 4·0 : Float
4·0 = bits 0x40800000  -- 4.0
