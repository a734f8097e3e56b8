-- What `pow` promises.
pub mod Pow
