-- Laws of a reply's bytes (ReplyLaws) and of a run over any table: counts (TallyLaws), a record (StepLaws), a run (RunLaws), a stream that comes
-- in pieces (SplitLaws, PieceLaws), room enough (RoomLaws), where a run stopped (StopLaws), what a loop keeps (LoopLaws).
pub mod ReplyLaws
pub mod TallyLaws
pub mod RunLaws
pub mod PartLaws
pub mod LoopLaws
pub mod StepLaws
pub mod SplitLaws
pub mod RoomLaws
pub mod PieceLaws
pub mod StopLaws
