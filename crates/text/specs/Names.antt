-- The table of names: a function's name in the Rust, and the kind of its request. Later kinds get no line.
use Rattle.std.specs.Prelude.{ℕ, List, [], ◌∷◌}
use Prim.Native.String.{String}
use Rattle.text.specs.Quoted.{ascii}

pub record Name : Type 0 where
  pub letters : List ℕ
  pub kind : ℕ

abbrev pub name : String → ℕ → Name
name word k = record { letters = ascii word; kind = k }

unfoldable pub names : List Name
names =
    name "tgamma" 1
    ∷ name "lgamma_r" 2
    ∷ name "erf" 3
    ∷ name "erfc" 4
    ∷ name "lgammaf_r" 17
    ∷ name "erff" 19
    ∷ name "erfcf" 20
    ∷ []
