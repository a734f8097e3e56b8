-- Plan: what erf.rs and erff.rs have in common. PlanOf: the plan of a width's constants, as the code holds them. Erf64: the constants and cuts of
-- erf.rs, and erf and erfc by them. Shared: y, of which both are made, for the contracts of private functions.
pub mod Plan
pub mod PlanOf
pub mod Erf64
pub mod Shared
