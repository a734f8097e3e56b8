-- The promises about the line of numbers, and what the contracts determine.
pub mod Shift
pub mod PlaceCode
pub mod PlaceLaws
pub mod LineLaws
pub mod Promised
pub mod Cases
pub mod Unique
