-- Laws of numbers as bytes: DigitLaws; of runs of stores: StoreLaws.
pub mod DigitLaws
pub mod StoreLaws
