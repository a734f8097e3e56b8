-- The laws of the square root. Callers cite Root and Nearest; the others serve the proofs.
-- Root: `root n` is the greatest r with r * r ≤ n
pub mod Root
-- Halves: the root in halves, against even numbers
pub mod Halves
-- Rounded: a fraction within half a unit of q units is rounded to q units
pub mod Rounded
-- Positive: sqrt at a positive number, by the pattern of its root
pub mod Positive
-- Special: sqrt at zeros, infinities, NaN and negative numbers
pub mod Special
-- Scaled: a positive pattern as a number of 53 digits and an exponent
pub mod Scaled
-- Turns: the loop of `nearest_root`
pub mod Turns
-- Found: the digits of the root of any positive f64
pub mod Found
-- Sides: on which side of a middle a root lies
pub mod Sides
-- Nearest: the answer is finite, and no other f64 lies as near to the root (`sqrt_nearest`)
pub mod Nearest
