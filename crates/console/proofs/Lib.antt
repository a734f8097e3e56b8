-- What is written into a buffer, one text behind the other (WriteLaws), what the loop over a text keeps (LineLoop), what a turn leaves
-- (TurnLaws) and is (PassLaws), and demand 2 for lines (Promised).
pub mod WriteLaws
pub mod LineLoop
pub mod TurnLaws
pub mod PassLaws
pub mod Promised
