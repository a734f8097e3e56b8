-- Reduction: x mod 2 is not below zero
pub mod Reduction
-- Exactness: x mod 2 and what is left of it are exact, over the format
pub mod Exactness
-- Quarters: n by four tests of x mod 2
pub mod Quarters
-- Octants: k_sin or k_cos, octant by octant
pub mod Octants
-- Wholes: x mod 2 of a whole number
pub mod Wholes
-- SignLaws: the sign by the whole part, and the zeros
pub mod SignLaws
-- SizeLaws: the size, from 2 ^ -54 on
pub mod SizeLaws
-- SignLawsf: the f32 sinpi by the whole part, and its zeros
pub mod SignLawsf
