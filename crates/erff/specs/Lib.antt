pub mod Erff
