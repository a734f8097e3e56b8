-- What a feed does, over any table of kinds. Read in this order, behind records/specs.
pub mod Feed
pub mod Host
pub mod Promises
