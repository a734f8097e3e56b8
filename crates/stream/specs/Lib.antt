-- What the request stream is. Read in this order, behind records/specs.
pub mod Batch
pub mod Post
