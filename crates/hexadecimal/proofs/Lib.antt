-- Laws of numbers in hex: HexLaws.
pub mod HexLaws
