-- What the contracts determine, and what a NaN's pattern gives: Unique, NanLaws.
pub mod Unique
pub mod NanLaws
