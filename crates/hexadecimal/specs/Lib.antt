-- What numbers in hex are.
pub mod Hex
