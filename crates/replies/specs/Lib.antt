-- What the replies are, behind records/specs.
pub mod Table
