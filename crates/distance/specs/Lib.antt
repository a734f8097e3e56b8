-- What the distance of two floats is, and what it means on the line of numbers.
pub mod Distance
pub mod Line
