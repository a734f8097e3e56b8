-- What numbers as bytes are.
pub mod Digits
