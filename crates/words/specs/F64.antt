-- The operators that the Rust writes + - * / on f64, each rounded once, a constant by its bit pattern, and the literals that several
-- definitions write: 0·5 is the Rust's 0.5.
use Rattle.std.specs.Prelude.{ℕ, Float}
use Rattle.std.specs.Float.Ieee as Ieee
use Rattle.std.specs.Float.{binary64}

infixl 65 ◌⊕◌ ◌⊖◌
infixl 70 ◌⊗◌ ◌⊘◌
abbrev pub ◌⊕◌ : Float → Float → Float
x ⊕ y = Ieee.add binary64 x y

abbrev pub ◌⊖◌ : Float → Float → Float
x ⊖ y = Ieee.sub binary64 x y

abbrev pub ◌⊗◌ : Float → Float → Float
x ⊗ y = Ieee.mul binary64 x y

abbrev pub ◌⊘◌ : Float → Float → Float
x ⊘ y = Ieee.div binary64 x y

-- the value of a bit pattern
abbrev pub bits : ℕ → Float
bits n = Ieee.of_bits binary64 n

abbrev pub 0·0 : Float
0·0 = bits 0x0000000000000000  -- 0.0

abbrev pub -0·0 : Float
-0·0 = bits 0x8000000000000000  -- -0.0

abbrev pub 0·25 : Float
0·25 = bits 0x3FD0000000000000  -- 0.25

abbrev pub 0·5 : Float
0·5 = bits 0x3FE0000000000000  -- 0.5

abbrev pub 1·0 : Float
1·0 = bits 0x3FF0000000000000  -- 1.0

abbrev pub -1·0 : Float
-1·0 = bits 0xBFF0000000000000  -- -1.0

abbrev pub 1·5 : Float
1·5 = bits 0x3FF8000000000000  -- 1.5

abbrev pub 2·0 : Float
2·0 = bits 0x4000000000000000  -- 2.0

abbrev pub 3·0 : Float
3·0 = bits 0x4008000000000000  -- 3.0

abbrev pub 4·0 : Float
4·0 = bits 0x4010000000000000  -- 4.0

abbrev pub 8·0 : Float
8·0 = bits 0x4020000000000000  -- 8.0
