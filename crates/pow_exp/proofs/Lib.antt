pub mod Half
pub mod Laws
-- Courses: the course of product_s where |z| is below 1024
pub mod Courses
-- FractionExpr: the power of 2 that is left, as an expression that intervals bound
pub mod FractionExpr
