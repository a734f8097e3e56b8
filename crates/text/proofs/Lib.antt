-- What the proofs of `text` cite, and its callers.
-- TextLaws: a text and its lines. LineLaws: a line and what it asks for. ReplyLaws: the replies to lines and texts.
pub mod TextLaws
pub mod LineLaws
pub mod ReplyLaws
-- TypingLaws: the program over all that the outside does. TripLaws: text to requests and back.
pub mod TypingLaws
pub mod TripLaws
-- Promised: what specs/Promises states.
pub mod Promised
-- HeadLaws, RowLaws, PlaceLaws: the tests, the rows of the table and the places in a buffer as the code has them.
pub mod HeadLaws
pub mod RowLaws
pub mod PlaceLaws
-- Unique: what the contracts of the trips determine. Cases: examples.
pub mod Unique
pub mod Cases
