-- What the functions by bits are.
pub mod ByBits
pub mod Nan
