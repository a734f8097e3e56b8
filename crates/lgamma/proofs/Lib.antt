-- LgammaCode: what the returns of the code that lgamma_r and lgammaf_r share give
pub mod LgammaCode
-- Poles: the poles and the sign of a negative argument, over the plan
pub mod Poles
-- PlanSigns: the sign that log-gamma reports, over the plan, for every argument
pub mod PlanSigns
-- SignLaw: the sign that lgamma_r reports
pub mod SignLaw
-- SpecialValues: what Annex F names
pub mod SpecialValues
