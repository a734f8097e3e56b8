-- floor: the laws of its definition by the value (FloorValues) and by the bits (FloorLaws), what each return of the code says (FloorCode), and that
-- the Rust's way by the bits comes to the same (FloorBits).
pub mod FloorValues
pub mod FloorLaws
pub mod FloorCode
pub mod FloorBits
