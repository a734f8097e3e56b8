-- Laws of the batch, which is the run over the table that there is: BatchLaws, Cases. What the contracts determine: Unique.
pub mod BatchLaws
pub mod Cases
pub mod Unique
