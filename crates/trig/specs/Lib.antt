-- k_sin and k_cos in f64, and in f32.
pub mod KSin
pub mod KCos
pub mod KSinf
pub mod KCosf
