-- What a turn is (PassLaws), and what the program does over all that the outside does (SessionLaws).
pub mod PassLaws
pub mod SessionLaws
