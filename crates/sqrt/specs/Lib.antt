-- What the functions of `sqrt` promise.
pub mod Sqrt
