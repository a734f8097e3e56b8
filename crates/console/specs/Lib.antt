-- What the parts of the program `lines` promise, behind text/specs and session/specs.
pub mod Post
