-- `cut` of an f64: the casts lose nothing, and what they give. Assumes nothing.
use Rattle.std.proofs.Common.{refl}
use lib.Ieee.{binary64}
use Rattle.floor.proofs.FloorCode as code
use Rattle.floor.proofs.F64Cut.cut.Goals as goal

pub truncating_f64_to_i64-requires : goal.truncating_f64_to_i64-requires
truncating_f64_to_i64-requires c =
    let k = code.casts binary64 _ _ _ c.well_formed.0.1 c.fabs.ensures refl c.if-fabs.true in
    record { lower_bound = k.0; upper_bound = k.1 }

pub int_to_float-result : goal.int_to_float-result
int_to_float-result c =
    code.cast_back binary64 _ _ _ c.well_formed.0.1 c.fabs.ensures refl c.if-fabs.true _
    (code.held _ _ c.truncating_f64_to_i64.ensures)

pub returns-then-fabs : goal.returns-then-fabs
returns-then-fabs c = record {
  holds = c.well_formed.0.1;
  value = code.cut_is binary64 _ _ _ c.well_formed.0.1 c.fabs.ensures refl c.if-fabs.true _ (code.held _ _ c.truncating_f64_to_i64.ensures);
}

pub returns-else-fabs : goal.returns-else-fabs
returns-else-fabs c = record {
  holds = c.well_formed.0.1;
  value = code.kept_is binary64 _ _ _ c.well_formed.0.1 c.fabs.ensures refl c.if-fabs.false;
}
