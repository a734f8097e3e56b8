-- Value: finite, negative whole, whole part of the size, of a value. Pattern: the same of the bits of a float. Promises: what is promised of the signs,
-- in these words.
pub mod Value
pub mod Pattern
pub mod Promises
