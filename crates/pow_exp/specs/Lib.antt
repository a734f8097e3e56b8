-- What the functions of `pow_exp` promise.
pub mod Exp2
