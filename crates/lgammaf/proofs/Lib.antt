-- SignLaw: the sign that lgammaf_r reports
pub mod SignLaw
-- SameSign: it is the sign that lgamma_r reports of the same number
pub mod SameSign
-- SpecialValues: what Annex F names
pub mod SpecialValues
