pub mod Integers
pub mod Laws
-- Courses: log2 of an ax from 1 on, by its interval
pub mod Courses
-- SeriesExpr: the series as an expression that intervals bound
pub mod SeriesExpr
