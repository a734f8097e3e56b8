-- The whole part and the fraction: the laws of their definitions (WholeLaws, FractionLaws), what they are by the bits (WholeBits), how large the whole
-- part is (WholeBounds), computed examples (Cases), and that the contracts determine the answers (Unique).
pub mod WholeLaws
pub mod FractionLaws
pub mod WholeBits
pub mod WholeBounds
pub mod Cases
pub mod Unique
