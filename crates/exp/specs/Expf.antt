-- expf, as the Rust's expf.rs has it, in rounded operations of f32. hx is the pattern of the size, sign the sign bit.
-- Its special cases go by hx, where exp.rs compares the numbers. expf_s is what `expf` promises; special_s serves it, and is what the private
-- `special` of module `single` promises.
use Rattle.std.specs.Prelude.{ℕ, not, ◌&&◌, [], ◌∷◌, Float, if◌then◌else◌}
use Rattle.std.specs.Float.{binary32}
use Rattle.words.specs.Tests.{◌>?◌, ◌≥?◌, ◌≠?◌}
use Rattle.words.specs.F32.{◌⊗◌, bits, 0·0}
use Rattle.words.specs.Bits.{size_bits_s, sign_s}
use Rattle.exp.specs.Plan.{Plan, plain_s}

abbrev pub exp32 : Plan
exp32 = record {
  format = binary32;
  to0·5ln2 = 0x3EB17218;
  from1·5ln2 = 0x3F851593;  -- hx > 0x3f851592
  to_tiny = 0x39000000;
  0·0 = bits 0x00000000;  -- 0.0
  0·5 = bits 0x3F000000;  -- 0.5
  -0·5 = bits 0xBF000000;  -- -0.5
  1·0 = bits 0x3F800000;  -- 1.0
  2·0 = bits 0x40000000;  -- 2.0
  LN2HI = bits 0x3F317200;  -- LN2_HI 6.9314575195e-01
  LN2LO = bits 0x35BFBE8E;  -- LN2_LO 1.4286067653e-06
  INVLN2 = bits 0x3FB8AA3B;  -- INV_LN2 1.4426950216e+00
  P =
      bits 0x3E2AAA8F ∷  -- P1 1.6666625440e-1
      bits 0xBB355215 ∷  -- P2 -2.7667332906e-3
      [];
}

abbrev pub x1p127 : Float
x1p127 = bits 0x7F000000  -- x1p127 f32::from_bits(0x7f000000)

-- special cases, from |x| = 87.33655 on
unfoldable pub special_s : Float → ℕ → ℕ → Float
special_s x hx sign =
    let signb = sign ≠? 0 in
    if hx >? 0x7F800000 then x
    else if hx ≥? 0x42B17218 && not signb then x ⊗ x1p127
    else if signb then (if hx ≥? 0x42CFF1B5 then 0·0 else plain_s exp32 x hx sign)
    else plain_s exp32 x hx sign

unfoldable pub expf_s : Float → Float
expf_s x =
    let hx = size_bits_s x in
    let sign = sign_s binary32 x in
    if hx ≥? 0x42AEAC50 then special_s x hx sign else plain_s exp32 x hx sign
