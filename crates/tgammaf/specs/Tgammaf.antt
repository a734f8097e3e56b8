-- tgammaf, as the Rust's tgammaf.rs has it: `tgamma(x as f64) as f32`. An f32 is an f64 of the same value, so `x as f64` is x; `as f32` rounds once.
use Rattle.std.specs.Prelude.{Float}
use Rattle.narrow.specs.Narrow.{narrow_s}
use Rattle.tgamma.specs.Tgamma.{tgamma_s}

unfoldable pub tgammaf_s : Float → Float
tgammaf_s x = narrow_s (tgamma_s x)
