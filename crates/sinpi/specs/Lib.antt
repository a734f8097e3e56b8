-- sin(pi x) in f64, and in f32.
pub mod Sinpi
pub mod Sinpif
