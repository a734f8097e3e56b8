-- The laws that the proofs of `exp` cite, and those that callers cite.
-- Zero: whether an i32 is zero
pub mod Zero
-- ExpCode: what the returns of the code that exp and expf share give
pub mod ExpCode
-- SpecialValues: exp and expf of a NaN
pub mod SpecialValues
-- Unscaled: bounds of the answer in the primary range, before it is scaled
pub mod Unscaled
-- Cells: bounds of the answer for each multiple of ln 2 from -8 to -275
pub mod Cells
-- Bounds: bounds of exp from -190 to -5.5
pub mod Bounds
