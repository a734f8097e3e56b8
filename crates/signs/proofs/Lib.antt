-- tgamma's sign, region by region, and the theorem.
-- LanczosRange: the Lanczos quotient, and what the formula makes of it, by intervals
pub mod LanczosRange
-- Correction: the correction of r by the error of y keeps r's sign
pub mod Correction
-- LastLine: so do the two products of the last line
pub mod LastLine
-- Positive: the formula for a positive x
pub mod Positive
-- Reflection: the quotient of the reflection, its sign and its size
pub mod Reflection
-- Negative: the formula for a negative x that is no whole number
pub mod Negative
-- Regions: tgamma's sign, whichever formula gives the answer
pub mod Regions
-- Cases: a gamma function and a log-gamma together, by the sign and the whole part of x; and what that says, over the format
pub mod Cases
-- Signs: THE THEOREM, of values, in f64 and in f32
pub mod Signs
-- Fields: the value of a bit pattern, by its fields
pub mod Fields
-- PatternSigns: THE THEOREM, of bit patterns
pub mod PatternSigns
-- EntrySigns: the theorem about the C entries
pub mod EntrySigns
