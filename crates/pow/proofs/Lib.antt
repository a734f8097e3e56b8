-- FarLaws: where the power is beyond the range because of a huge y
pub mod FarLaws
-- Courses: what pow answers at an x above 1 and a y of a size up to 2 ^ 31
pub mod Courses
