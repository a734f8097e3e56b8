-- log.rs: its constants and cuts, and log by them. log_s is what `log` promises.
use Rattle.std.specs.Prelude.{[], ◌∷◌, Float}
use Rattle.std.specs.Float.{binary64}
use Rattle.words.specs.F64.{bits}
use Rattle.logarithm.specs.Plan.{Plan}
use Rattle.logarithm.specs.Plan as Plan

abbrev pub log64 : Plan
log64 = record {
  format = binary64;
  below = 32;
  fraction = 20;
  normal = 0x00100000;
  not_finite = 0x7FF00000;
  at1 = 0x3FF00000;
  root = 0x3FE6A09E;
  bias = 0x3FF;
  up = 54;
  x1p_up = bits 0x4350000000000000;  -- x1p54 f64::from_bits(0x4350000000000000)
  0·0 = bits 0x0000000000000000;  -- 0.0
  0·5 = bits 0x3FE0000000000000;  -- 0.5
  1·0 = bits 0x3FF0000000000000;  -- 1.0
  2·0 = bits 0x4000000000000000;  -- 2.0
  -1·0 = bits 0xBFF0000000000000;  -- -1.0
  LN2_HI = bits 0x3FE62E42FEE00000;  -- LN2_HI 6.93147180369123816490e-01
  LN2_LO = bits 0x3DEA39EF35793C76;  -- LN2_LO 1.90821492927058770002e-10
  LG_even =
      bits 0x3FD999999997FA04 ∷  -- LG2 3.999999999940941908e-01
      bits 0x3FCC71C51D8E78AF ∷  -- LG4 2.222219843214978396e-01
      bits 0x3FC39A09D078C69F ∷  -- LG6 1.531383769920937332e-01
      [];
  LG_odd =
      bits 0x3FE5555555555593 ∷  -- LG1 6.666666666666735130e-01
      bits 0x3FD2492494229359 ∷  -- LG3 2.857142874366239149e-01
      bits 0x3FC7466496CB03DE ∷  -- LG5 1.818357216161805012e-01
      bits 0x3FC2F112DF3E5244 ∷  -- LG7 1.479819860511658591e-01
      [];
}

abbrev pub log_s : Float → Float
log_s x = Plan.log_s log64 x
