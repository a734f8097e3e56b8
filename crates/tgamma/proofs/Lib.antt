-- Turns: the sums of S(x) as folds over the coefficients
pub mod Turns
-- WholeTest: x = floor(x) where x has no fraction
pub mod WholeTest
-- FactIndex: a whole number up to 23 has its place in FACT
pub mod FactIndex
-- SpecialValues: what Annex F names
pub mod SpecialValues
-- Regions: which formula gives the answer
pub mod Regions
-- Zeros: the zeros from -184 down
pub mod Zeros
-- Formula: the lines of the Lanczos formula, and S(x) as an expression
pub mod Formula
-- Fits: the answer is an f64
pub mod Fits
-- Points: three answers, worked out to the last bit
pub mod Points
