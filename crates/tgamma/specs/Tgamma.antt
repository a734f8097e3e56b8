-- tgamma, as the Rust's tgamma.rs has it, in rounded operations of f64 and without its status flags.
-- Regions in the order tested: not finite; below 2 ^ -54; whole numbers; from 184 on; the Lanczos formula, with the reflection below 0.
-- tgamma_s is what `tgamma` promises; the others serve it, and are what the private functions of their names promise (dy_s that of `correction`,
-- lanczos_s that of `by_lanczos`). The Rust's bool `sign` is the sign bit, 0 or 1, here.
use Rattle.std.specs.Prelude.{ℕ, ◌-◌, List, [], ◌∷◌, nat_abs, get_or, Float, if◌then◌else◌}
use Rattle.std.specs.Float.{nan, binary64}
use Rattle.std.specs.Float.Ieee.{neg}
use Rattle.words.specs.Tests.{◌<?◌, ◌≥?◌, ◌=?◌, ◌<·◌, ◌>·◌, ◌≤·◌, ◌=·◌}
use Rattle.words.specs.F64.{◌⊕◌, ◌⊖◌, ◌⊗◌, ◌⊘◌, bits, 0·0, -0·0, 0·5, 1·0}
use Rattle.words.specs.Bits.{size_word_s, sign_s}
use Rattle.floor.specs.Floor.{floor_s}
use Rattle.whole.specs.Whole.{whole_s}
use Rattle.exp.specs.Exp.{exp_s}
use Rattle.pow.specs.Pow.{pow_s}
use Rattle.sinpi.specs.Sinpi.{sinpi_s}
use Rattle.tgamma.specs.Lanczos.{s_s}

abbrev pub INFINITY : Float
INFINITY = bits 0x7FF0000000000000  -- f64::INFINITY

abbrev pub x1p1023 : Float
x1p1023 = bits 0x7FE0000000000000  -- x1p1023 f64::from_bits(0x7fe0000000000000)

abbrev pub GMHALF : Float
GMHALF = bits 0x40161945B9800000  -- GMHALF 5.524680040776729583740234375

-- -PI
abbrev pub MINUS_PI : Float
MINUS_PI = bits 0xC00921FB54442D18  -- -3.141592653589793238462643383279502884

abbrev pub 23·0 : Float
23·0 = bits 0x4037000000000000  -- FACT.len() 23.0

-- n! for n from 0 to 22
abbrev pub FACT : List Float
FACT =
    bits 0x3FF0000000000000 ∷  -- FACT[0] 1.0
    bits 0x3FF0000000000000 ∷  -- FACT[1] 1.0
    bits 0x4000000000000000 ∷  -- FACT[2] 2.0
    bits 0x4018000000000000 ∷  -- FACT[3] 6.0
    bits 0x4038000000000000 ∷  -- FACT[4] 24.0
    bits 0x405E000000000000 ∷  -- FACT[5] 120.0
    bits 0x4086800000000000 ∷  -- FACT[6] 720.0
    bits 0x40B3B00000000000 ∷  -- FACT[7] 5040.0
    bits 0x40E3B00000000000 ∷  -- FACT[8] 40320.0
    bits 0x4116260000000000 ∷  -- FACT[9] 362880.0
    bits 0x414BAF8000000000 ∷  -- FACT[10] 3628800.0
    bits 0x418308A800000000 ∷  -- FACT[11] 39916800.0
    bits 0x41BC8CFC00000000 ∷  -- FACT[12] 479001600.0
    bits 0x41F7328CC0000000 ∷  -- FACT[13] 6227020800.0
    bits 0x42344C3B28000000 ∷  -- FACT[14] 87178291200.0
    bits 0x4273077775800000 ∷  -- FACT[15] 1307674368000.0
    bits 0x42B3077775800000 ∷  -- FACT[16] 20922789888000.0
    bits 0x42F437EEECD80000 ∷  -- FACT[17] 355687428096000.0
    bits 0x4336BEECCA730000 ∷  -- FACT[18] 6402373705728000.0
    bits 0x437B02B930689000 ∷  -- FACT[19] 121645100408832000.0
    bits 0x43C0E1B3BE415A00 ∷  -- FACT[20] 2432902008176640000.0
    bits 0x4406283BE9B5C620 ∷  -- FACT[21] 51090942171709440000.0
    bits 0x444E77526159F06C ∷  -- FACT[22] 1124000727777607680000.0
    []

-- handle the error of x + g - 0.5
unfoldable pub dy_s : Float → Float → Float
dy_s absx y = if absx >· GMHALF then y ⊖ absx ⊖ GMHALF else y ⊖ GMHALF ⊖ absx

-- from `r += dy * (GMHALF + 0.5) * r / y` on
unfoldable pub last_s : Float → Float → Float → Float → Float
last_s y dy z r =
    let r = r ⊕ dy ⊗ (GMHALF ⊕ 0·5) ⊗ r ⊘ y in
    let z = pow_s y (0·5 ⊗ z) in
    r ⊗ z ⊗ z

unfoldable pub lanczos_s : Float → ℕ → Float
lanczos_s x sign =
    let absx = if sign =? 1 then neg x else x in
    let y = absx ⊕ GMHALF in
    let dy = dy_s absx y in
    let z = absx ⊖ 0·5 in
    let r = s_s absx ⊗ exp_s (neg y) in
    if x <· 0·0 then
    (let r = MINUS_PI ⊘ (sinpi_s absx ⊗ absx ⊗ r) in
    let dy = neg dy in
    let z = neg z in
    last_s y dy z r)
    else last_s y dy z r

-- x <= -184: the sign of zero goes by floor(x), which is even where half of it is whole
unfoldable pub vanished_s : Float → Float
vanished_s x = if floor_s binary64 x ⊗ 0·5 =· floor_s binary64 (x ⊗ 0·5) then 0·0 else -0·0

unfoldable pub general_s : Float → ℕ → ℕ → Float
general_s x ix sign =
    if ix ≥? 0x40670000 then (if sign =? 1 then vanished_s x else x ⊗ x1p1023)
    else lanczos_s x sign

-- integer arguments; the first `nan` is the Rust's 0.0 / 0.0, and x from 1 to 23 always has its place in FACT, so none comes from there
unfoldable pub integer_s : Float → ℕ → ℕ → Float
integer_s x ix sign =
    if sign =? 1 then nan
    else if x ≤· 23·0 then get_or FACT (nat_abs (whole_s x) - 1) nan
    else general_s x ix sign

-- 0x3C900000 is the Rust's (0x3ff - 54) << 20
unfoldable pub tgamma_s : Float → Float
tgamma_s x =
    let ix = size_word_s x in
    let sign = sign_s binary64 x in
    if ix ≥? 0x7FF00000 then x ⊕ INFINITY
    else if ix <? 0x3C900000 then 1·0 ⊘ x
    else if x =· floor_s binary64 x then integer_s x ix sign
    else general_s x ix sign
