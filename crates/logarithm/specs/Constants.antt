-- The plan p with the constants that the code's `near` has, by what its numbers are as floats. The code has the literals 0.5, 1.0 and 2.0 from
-- the width itself.
use Rattle.std.specs.Prelude.{map, Float}
use Rattle.std.specs.Float.{Format}
use Rattle.logarithm.specs.declared.Constants.{Constants}
use Rattle.logarithm.specs.Plan.{Plan}

abbrev pub plan_with : {A : Type 0} → Plan → Format → (A → Float) → A → A → A → Constants A → Plan
plan_with p format float half one two c = record p {
  format = format;
  0·5 = float half;
  1·0 = float one;
  2·0 = float two;
  LN2_HI = float c.ln2_hi;
  LN2_LO = float c.ln2_lo;
  LG_even = map float c.lg_even.now;
  LG_odd = map float c.lg_odd.now;
}
