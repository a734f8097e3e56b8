-- logf.rs: its constants and cuts, and logf by them. logf_s is what `logf` promises.
use Rattle.std.specs.Prelude.{[], ◌∷◌, Float}
use Rattle.std.specs.Float.{binary32}
use Rattle.words.specs.F32.{bits}
use Rattle.logarithm.specs.Plan.{Plan}
use Rattle.logarithm.specs.Plan as Plan

abbrev pub log32 : Plan
log32 = record {
  format = binary32;
  below = 0;
  fraction = 23;
  normal = 0x00800000;
  not_finite = 0x7F800000;
  at1 = 0x3F800000;
  root = 0x3F3504F3;
  bias = 0x7F;
  up = 25;
  x1p_up = bits 0x4C000000;  -- x1p25 f32::from_bits(0x4c000000)
  0·0 = bits 0x00000000;  -- 0.0
  0·5 = bits 0x3F000000;  -- 0.5
  1·0 = bits 0x3F800000;  -- 1.0
  2·0 = bits 0x40000000;  -- 2.0
  -1·0 = bits 0xBF800000;  -- -1.0
  LN2_HI = bits 0x3F317180;  -- LN2_HI 6.9313812256e-01
  LN2_LO = bits 0x3717F7D1;  -- LN2_LO 9.0580006145e-06
  LG_even =
      bits 0x3ECCCE13 ∷  -- LG2 0.40000972152
      bits 0x3E789E26 ∷  -- LG4 0.24279078841
      [];
  LG_odd =
      bits 0x3F2AAAAA ∷  -- LG1 0.66666662693
      bits 0x3E91E9EE ∷  -- LG3 0.28498786688
      [];
}

abbrev pub logf_s : Float → Float
logf_s x = Plan.log_s log32 x
