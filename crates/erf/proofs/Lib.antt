-- The laws of erf and erfc, in reading order.
-- ErfCode: what each return gives, over the plan
pub mod ErfCode
-- SharedLaws: how y is made, case by case; that a y which reaches farther serves for less
pub mod SharedLaws
-- SignBit: f32 holds the sign bit as a number
pub mod SignBit
-- SmallSum: erf below 0.84375 as an expression
pub mod SmallSum
-- Regular: what the laws below ask of a plan
pub mod Regular
-- AnnexF: the special values, over the plan
pub mod AnnexF
-- Mirror: erf and erfc at -x, over the plan
pub mod Mirror
-- Laws64: both in f64
pub mod Laws64
-- Unique: the pair is determined
pub mod Unique
