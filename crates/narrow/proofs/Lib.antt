-- Narrowing: what is worked out on the bits.
pub mod NarrowLaws
-- SignLaws: it keeps the sign of what overflows and of what vanishes too, and makes no NaN
pub mod SignLaws
