-- What a move to the front leaves (FrontLaws), what a read brought and what a turn is (ReadLaws), what the loop keeps (LoopLaws), and what a
-- program says over its events (SayLaws). Over any program.
pub mod FrontLaws
pub mod ReadLaws
pub mod LoopLaws
pub mod SayLaws
