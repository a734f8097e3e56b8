-- The Rust's test whether x is a whole number, x = floor(x), of a finite x: x has no fraction (`has_floor`). Assumes nothing.
use mathlib.Core.Path.{◌≡◌, sym, ap, ◌∙◌}
use mathlib.Core.Bool.{Bool, true, not}
use Prim.Native.Nat.{◌<◌}
use native.Mathlib.Omega.{arith}
use lib.Dec.{T}
use lib.Ieee.{Float, nan, inf, fin, binary64, is_nan, eq, fits, to_bits}
use Rattle.words.specs.Bits.{size_word_s}
use Rattle.floor.specs.Floor.{floor_s}
use Rattle.whole.specs.Whole.{has_fraction_s}
use Rattle.whole.proofs.FractionLaws.{whole_test}

-- a word of the size below an infinity's is no NaN's
no_nan : (x : Float) → size_word_s x < 0x7FF00000 → T (not (is_nan x))
unfolding to_bits is_nan
no_nan nan h = omega (arith, h)
no_nan (inf s) h = tt
no_nan (fin s m e) h = tt

pub has_floor : (x : Float) (fraction : Bool) → fits binary64 x ≡ true → size_word_s x < 0x7FF00000 → fraction ≡ has_fraction_s x
    → eq x (floor_s binary64 x) ≡ not fraction
has_floor x fraction F h e = whole_test binary64 x (rw F tt) (no_nan x h) ∙ sym (ap not e)
