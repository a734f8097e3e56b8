-- The points that the scope names under "Points checked", as one table: a function by bits, an argument, and the answer.
use Rattle.std.specs.Prelude.{ℕ, Bool, true, ◌&&◌, List, [], ◌∷◌, ℤ, pos, negsuc}
use Rattle.std.specs.Int.Signed.{le_z}
use Rattle.std.specs.Float.{binary64}
use Rattle.words.specs.Tests.{◌=?◌}
use Rattle.tgamma.specs.Tgamma.{tgamma_s}
use Rattle.lgamma.specs.Lgamma64.{lgamma_s}
use Rattle.erf.specs.Erf64.{erf_s, erfc_s}
use Rattle.by_bits.specs.ByBits.{on_bits, value_on_bits, sign_on_bits}

abbrev tgamma : ℕ → ℕ
tgamma = on_bits binary64 tgamma_s

abbrev lgamma : ℕ → ℕ
lgamma = value_on_bits binary64 lgamma_s

abbrev lgamma_sign : ℕ → ℤ
lgamma_sign = sign_on_bits binary64 lgamma_s

abbrev erf : ℕ → ℕ
erf = on_bits binary64 erf_s

abbrev erfc : ℕ → ℕ
erfc = on_bits binary64 erfc_s

-- the two signs
abbrev +1 : ℤ
+1 = pos 1

abbrev -1 : ℤ
-1 = negsuc 0

-- a function by bits, the bits of an argument, and the bits of the value or the sign
pub data Point : Type 0 where
  value : (ℕ → ℕ) → ℕ → ℕ → Point
  sign : (ℕ → ℤ) → ℕ → ℤ → Point

-- in each line the function, the argument and the answer
unfoldable pub table : List Point
table =
    -- tgamma: of +0 +inf, of -0 -inf, of 1 1, of 23 1124000727777607680000, of -1 NaN, of -184.5 -0, of -185.5 +0, of 184 +inf
    value tgamma 0x0000000000000000 0x7FF0000000000000
    ∷ value tgamma 0x8000000000000000 0xFFF0000000000000
    ∷ value tgamma 0x3FF0000000000000 0x3FF0000000000000
    ∷ value tgamma 0x4037000000000000 0x444E77526159F06C
    ∷ value tgamma 0xBFF0000000000000 0x7FF8000000000000
    ∷ value tgamma 0xC067100000000000 0x8000000000000000
    ∷ value tgamma 0xC067300000000000 0x0000000000000000
    ∷ value tgamma 0x4067000000000000 0x7FF0000000000000
    -- lgamma_r: of 1 (+0, +1), of -1 (+inf, +1), of -inf (+inf, +1)
    ∷ value lgamma 0x3FF0000000000000 0x0000000000000000
    ∷ sign lgamma_sign 0x3FF0000000000000 +1
    ∷ value lgamma 0xBFF0000000000000 0x7FF0000000000000
    ∷ sign lgamma_sign 0xBFF0000000000000 +1
    ∷ value lgamma 0xFFF0000000000000 0x7FF0000000000000
    ∷ sign lgamma_sign 0xFFF0000000000000 +1
    -- erf: of -0 -0, of 6 1; erfc: of +0 1, of 28 +0, of -28 2
    ∷ value erf 0x8000000000000000 0x8000000000000000
    ∷ value erf 0x4018000000000000 0x3FF0000000000000
    ∷ value erfc 0x0000000000000000 0x3FF0000000000000
    ∷ value erfc 0x403C000000000000 0x0000000000000000
    ∷ value erfc 0xC03C000000000000 0x4000000000000000
    ∷ []

abbrev pub holds : Point → Bool
holds (value f x y) = f x =? y
holds (sign f x z) = le_z (f x) z && le_z z (f x)

-- every point of the list does
unfoldable pub every : List Point → Bool
every [] = true
every (p ∷ ps) = holds p && every ps
