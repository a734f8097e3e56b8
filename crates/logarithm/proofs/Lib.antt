pub mod Exponents
pub mod NearCode
pub mod Reduction
pub mod Regions
pub mod SpecialValues
