pub mod CosineRange
pub mod SineRange
pub mod Narrowing
pub mod CosinefRange
pub mod SinefRange
