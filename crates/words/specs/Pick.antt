-- The Rust's `if`, as the definitions write it, under a name for laws.
use Rattle.std.specs.Prelude.{Bool, if◌then◌else◌}

abbrev pub pick : {A : Type 0} → Bool → A → A → A
pick t a b = if t then a else b
