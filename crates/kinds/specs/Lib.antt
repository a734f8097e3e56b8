-- What the kinds of requests are, by their shapes. Read in this order.
pub mod Shape
pub mod Kinds
