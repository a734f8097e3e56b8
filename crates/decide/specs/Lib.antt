-- What the programs decide.
pub mod Decide
