-- The plan that the constants of a width make, by what its numbers are as floats. The code has the literals 0.0, 0.5, 1.0 and 2.0 from the
-- width itself.
use Rattle.std.specs.Prelude.{map, Float}
use Rattle.std.specs.Float.{Format}
use Rattle.exp.specs.declared.Constants.{Constants}
use Rattle.exp.specs.Plan.{Plan}

abbrev pub plan_of : {A : Type 0} → Format → (A → Float) → A → A → A → A → Constants A → Plan
plan_of format float zero half one two c = record {
  format = format;
  to0·5ln2 = c.to_half_ln2;
  from1·5ln2 = c.from_three_halves_ln2;
  to_tiny = c.to_tiny;
  0·0 = float zero;
  0·5 = float half;
  -0·5 = float c.minus_half;
  1·0 = float one;
  2·0 = float two;
  LN2HI = float c.ln2hi;
  LN2LO = float c.ln2lo;
  INVLN2 = float c.invln2;
  P = map float c.p.now;
}
