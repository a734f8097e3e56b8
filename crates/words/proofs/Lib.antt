-- The laws that the proofs of `words` cite, and those that callers cite.
-- PatternLaws: a pattern and its value, either way, in either format
pub mod PatternLaws
-- CutLaws: cuts on the size of a value as cuts on its bits and its size word, either way
pub mod CutLaws
