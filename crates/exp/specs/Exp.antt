-- exp, as the Rust's exp.rs has it, in rounded operations of f64. hx is the high word of the size, sign the sign bit.
-- exp_s is what `exp` promises; special_s serves it, and is what the private `special` promises.
use Rattle.std.specs.Prelude.{ℕ, [], ◌∷◌, Float, if◌then◌else◌}
use Rattle.std.specs.Float.{binary64}
use Rattle.words.specs.Tests.{◌≥?◌, ◌<·◌, ◌>·◌, ◌≠·◌}
use Rattle.words.specs.F64.{◌⊗◌, bits, 0·0}
use Rattle.words.specs.Bits.{size_word_s, sign_s}
use Rattle.exp.specs.Plan.{Plan, plain_s}

abbrev pub exp64 : Plan
exp64 = record {
  format = binary64;
  to0·5ln2 = 0x3FD62E42;
  from1·5ln2 = 0x3FF0A2B2;
  to_tiny = 0x3E300000;
  0·0 = bits 0x0000000000000000;  -- 0.0
  0·5 = bits 0x3FE0000000000000;  -- 0.5
  -0·5 = bits 0xBFE0000000000000;  -- -0.5
  1·0 = bits 0x3FF0000000000000;  -- 1.0
  2·0 = bits 0x4000000000000000;  -- 2.0
  LN2HI = bits 0x3FE62E42FEE00000;  -- LN2HI 6.93147180369123816490e-01
  LN2LO = bits 0x3DEA39EF35793C76;  -- LN2LO 1.90821492927058770002e-10
  INVLN2 = bits 0x3FF71547652B82FE;  -- INVLN2 1.44269504088896338700e+00
  P =
      bits 0x3FC555555555553E ∷  -- P1 1.66666666666666019037e-01
      bits 0xBF66C16C16BEBD93 ∷  -- P2 -2.77777777770155933842e-03
      bits 0x3F11566AAF25DE2C ∷  -- P3 6.61375632143793436117e-05
      bits 0xBEBBBD41C5D26BF1 ∷  -- P4 -1.65339022054652515390e-06
      bits 0x3E66376972BEA4D0 ∷  -- P5 4.13813679705723846039e-08
      [];
}

abbrev pub x1p1023 : Float
x1p1023 = bits 0x7FE0000000000000  -- x1p1023 f64::from_bits(0x7fe0000000000000)

abbrev pub 709·782712893383973096 : Float
709·782712893383973096 = bits 0x40862E42FEFA39EF  -- 709.782712893383973096

abbrev pub -708·39641853226410622 : Float
-708·39641853226410622 = bits 0xC086232BDD7ABCD2  -- -708.39641853226410622

abbrev pub -745·13321910194110842 : Float
-745·13321910194110842 = bits 0xC0874910D52D3051  -- -745.13321910194110842

-- special cases, from |x| = 708.39... on
unfoldable pub special_s : Float → ℕ → ℕ → Float
special_s x hx sign =
    if x ≠· x then x
    else if x >· 709·782712893383973096 then x ⊗ x1p1023
    else if x <· -708·39641853226410622 then (if x <· -745·13321910194110842 then 0·0 else plain_s exp64 x hx sign)
    else plain_s exp64 x hx sign

unfoldable pub exp_s : Float → Float
exp_s x =
    let hx = size_word_s x in
    let sign = sign_s binary64 x in
    if hx ≥? 0x4086232B then special_s x hx sign else plain_s exp64 x hx sign
