-- What the functions of `pow_log` promise.
pub mod Log2
