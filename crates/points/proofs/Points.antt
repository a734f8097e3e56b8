-- Every point of the table holds, by one computation of the checker from the definitions. Assumes nothing.
use lib.Dec.{T}
use lib.Ieee.{add, sub, mul, div, neg, eq, lt, le, of_int, of_bits, to_bits}
use Rattle.floor.specs.Floor.{floor_s}
use Rattle.whole.specs.Whole.{whole_s}
use Rattle.trig.specs.KSin.{k_sin_s}
use Rattle.sinpi.specs.Sinpi.{turn_s, quarter_s, sinpi_s}
use Rattle.tgamma.specs.Tgamma.{tgamma_s, integer_s, general_s, vanished_s}
use Rattle.lgamma.specs.Plan as lgamma
use Rattle.lgamma.specs.Plan.{size_s, reflected_s}
use Rattle.erf.specs.Plan as erf
use Rattle.points.specs.Table.{table, every}

pub points : T (every table)
unfolding table every tgamma_s integer_s general_s vanished_s lgamma.lgamma_s size_s reflected_s sinpi_s turn_s quarter_s k_sin_s erf.erf_s erf.erfc_s floor_s whole_s add sub mul div neg eq lt le of_int of_bits to_bits
points = tt
