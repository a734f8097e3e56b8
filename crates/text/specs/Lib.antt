-- What requests as text are. Read in this order, behind hex/specs, kinds/specs, records/specs and session/specs.
pub mod Quoted
pub mod Names
pub mod Line
pub mod Text
pub mod Reply
pub mod Trip
pub mod Steps
pub mod Typing
pub mod Promises
pub mod Rows
