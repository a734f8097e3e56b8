-- SpecialValues: tgammaf at the values that ISO C's Annex F names
pub mod SpecialValues
-- Narrowed: its answer is an f32 and has the sign of tgamma's
pub mod Narrowed
-- Points: where the answer overflows, vanishes or is rounded, worked out
pub mod Points
