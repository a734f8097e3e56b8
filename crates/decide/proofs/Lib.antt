-- Laws of the decisions (DecideLaws), and what the tests of the code say (TestLaws).
pub mod DecideLaws
pub mod TestLaws
