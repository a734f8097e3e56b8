-- Plan: what lgamma_r.rs and lgammaf_r.rs have in common. PlanOf: the plan of the code's constants. Lgamma64: the constants and cuts of lgamma_r.rs,
-- and lgamma_r by them.
pub mod Plan
pub mod PlanOf
pub mod Lgamma64
pub mod Segment
