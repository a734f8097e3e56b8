-- The plan that the constants of one width make: what is in the format of its own, each constant as the float that it is, and the cuts.
use Rattle.std.specs.Prelude.{ℕ, Float, map}
use Rattle.std.specs.Float.{Format}
use Rattle.erf.specs.Plan.{Plan}
use Rattle.erf.specs.declared.course.Constants.{Constants}

abbrev pub plan_of : {R : Type 0} → Format → (Float → ℕ) → ℕ → (Float → Float) → (R → Float) → Constants R → Plan
plan_of format ix lost exp float c = record {
  format = format;
  ix = ix;
  not_finite = c.not_finite;
  at0·84375 = c.at_0_84375;
  at2^-28 = c.erf_from;
  at2^-56 = c.erfc_from;
  at1/4 = c.at_1_4;
  at1·25 = c.at_1_25;
  at1/0·35 = c.at_1_0_35;
  at6 = c.erf_upto;
  at28 = c.erfc_upto;
  lost = lost;
  exp = exp;
  0·125 = float c.eighth;
  0·5 = float c.half;
  0·5625 = float c.nine_sixteenths;
  1·0 = float c.one;
  2·0 = float c.two;
  8·0 = float c.eight;
  tiny = float c.tiny;
  ERX = float c.erx;
  EFX8 = float c.efx8;
  PP = map float c.pp.now;
  QQ = map float c.qq.now;
  PA = map float c.pa.now;
  QA = map float c.qa.now;
  RA = map float c.ra.now;
  SA = map float c.sa.now;
  RB = map float c.rb.now;
  SB = map float c.sb.now;
}
