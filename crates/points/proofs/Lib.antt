-- Points: the whole table. Typed: a text and its replies.
pub mod Points
pub mod Typed
