-- What the entries of the pair, of the batch and of the feed promise.
pub mod Pair
pub mod Post
pub mod Batch
pub mod Feed
pub mod Turns
