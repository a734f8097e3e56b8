-- What the program `answers` does. Read in this order.
pub mod Session
pub mod Turn
