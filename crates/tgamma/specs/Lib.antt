-- s and tgamma.
pub mod Lanczos
pub mod Tgamma
