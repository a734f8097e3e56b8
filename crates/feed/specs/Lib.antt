-- What the feed at the table that there is promises. Read behind feeding/specs.
pub mod Fields
pub mod Post
pub mod Pushes
