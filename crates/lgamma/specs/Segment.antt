-- The enum `Segment` of the code, by number and y, for the private functions `segment_at` and `added`. `float` reads y.
use Rattle.std.specs.Prelude.{Float}
use Rattle.lgamma.specs.declared.below2.Segment.{Segment}
use Rattle.lgamma.specs.declared.below2.Segment.TheVariants.{Zero, One, Two}
use Rattle.lgamma.specs.Plan as Plan

abbrev pub segment_of : {R : Type 0} → (R → Float) → Segment R → Plan.Segment
segment_of float (Zero y) = record { i = 0; y = float y }
segment_of float (One y) = record { i = 1; y = float y }
segment_of float (Two y) = record { i = 2; y = float y }
