-- What the contracts determine (Unique), numbers in a lent slice (NumberLaws), the laws of a pair (PairLaws), of a report (ReportLaws) and of
-- a feed (FeedLaws), and that calls from C in turn are a batch (TurnLaws).
pub mod NumberLaws
pub mod PairLaws
pub mod ReportLaws
pub mod FeedLaws
pub mod TurnLaws
pub mod Unique
