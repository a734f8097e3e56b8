-- Laws of the feed that there is: what its fields mean (FieldLaws), the bytes of a record that has begun (JoinLaws), what a batch leaves of a piece
-- (FreshLaws), the rest of a record and of the piece (RestLaws), the theorems at the real table (TableLaws), what the contracts determine (Unique).
pub mod FieldLaws
pub mod JoinLaws
pub mod FreshLaws
pub mod RestLaws
pub mod TableLaws
pub mod Unique
