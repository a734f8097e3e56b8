-- The operators that the Rust writes + - * /, each rounded once to a format. A definition over both formats opens them at its own.
use Rattle.std.specs.Float.Ieee as Ieee
use Rattle.std.specs.Prelude.{Float}
use Rattle.std.specs.Float.{Format}

pub record Operators : Type 0 where
  pub ◌⊕◌ : Float → Float → Float
  pub ◌⊖◌ : Float → Float → Float
  pub ◌⊗◌ : Float → Float → Float
  pub ◌⊘◌ : Float → Float → Float

abbrev pub operators : Format → Operators
operators f = record { ◌⊕◌ = Ieee.add f; ◌⊖◌ = Ieee.sub f; ◌⊗◌ = Ieee.mul f; ◌⊘◌ = Ieee.div f }
