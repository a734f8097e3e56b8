-- The laws of rounded arithmetic on the kit's floats, over the format, in reading order. Each file opens with its main laws in words.

-- the order of signed fractions; `le`, `round` and `neg` on it
pub mod Signed
-- the order `le` on floats: reflexive, transitive, total on finite values; what lies between
pub mod Order
-- each operation as the rounding of one signed fraction
pub mod Fraction
-- a change of sign through products, quotients and sums
pub mod Odd
-- sums, products and quotients keep or turn the order in each operand
pub mod Monotone
-- values that fit as whole numbers of the smallest unit
pub mod Grid
-- operations on values given as whole numbers of a common unit
pub mod Units
-- where a rounded operation is exact
pub mod Exact
-- how far one rounding, and a sum, lies from the exact result
pub mod Error
-- bounds in proportion to an operand: products by at most 1, sums from half of an operand to all of it
pub mod Relative
-- bit patterns in the order of the values, and the sign bit
pub mod BitOrder
-- clearing the low bits of a value's pattern
pub mod Cut
-- interval arithmetic by the rounded operations
pub mod Interval
-- bounds on a whole expression by one computed test
pub mod Range
-- f64 values in units, and how far their sums are off
pub mod Sums
