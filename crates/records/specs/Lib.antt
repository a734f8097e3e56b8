-- What records are, and what a run is, by any step and over any table of kinds. Read in this order.
pub mod Reply
pub mod Row
pub mod Codes
pub mod Tally
pub mod Run
pub mod Lawful
pub mod Did
pub mod Pieces
