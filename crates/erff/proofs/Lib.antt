-- Laws32: erff and erfcf at -x, and their special values
pub mod Laws32
