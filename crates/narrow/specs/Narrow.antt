-- Narrowing, the Rust's `as f32` on an f64: the f32 nearest to x, of two equally near the even one. Said of the value; the Rust leaves it to
-- the compiler.
use Rattle.std.specs.Prelude.{◌*◌, Float}
use Rattle.std.specs.Float.{nan, inf, fin, binary32}
use Rattle.std.specs.Float.Ieee.{up, down, round}

unfoldable pub narrow_s : Float → Float
narrow_s nan = nan
narrow_s (inf s) = inf s
narrow_s (fin s m e) = round binary32 s (m * up e) (down e)
