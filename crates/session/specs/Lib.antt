-- What a program is that reads and writes in turns. Read in this order.
pub mod Moved
pub mod Session
pub mod Post
