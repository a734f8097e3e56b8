-- Laws of a feed, over any table: what a byte does and a piece cut in two (TakeLaws), a piece by records (RecordLaws), calls in turn (HostLaws), and
-- by pieces (LineLaws). What specs/Promises states is proved in Promised.
pub mod TakeLaws
pub mod RecordLaws
pub mod CallLaws
pub mod EndLaws
pub mod HostLaws
pub mod LineLaws
pub mod Promised
