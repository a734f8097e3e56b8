-- `logarithm::exponent` meets its contract. Assumes nothing.
use Rattle.logarithm.proofs.Exponents.{power_fits, sum_fits, sum_held}
use Rattle.logarithm.proofs.exponent.Goals as goal

pub overflow_sub-result : goal.overflow_sub-result
overflow_sub-result c = power_fits _ _ c.requires.e_bound c.requires.bias_bound

pub overflow_add-result : goal.overflow_add-result
overflow_add-result c = sum_fits _ _ c.requires.e_bound c.requires.bias_bound _ c.ranges.k c.requires.k_bound

pub returns : goal.returns
returns c = sum_held _ _ c.requires.e_bound c.requires.bias_bound _ c.ranges.k c.requires.k_bound
