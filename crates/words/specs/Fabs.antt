-- fabs, fabsf: the size of a float, which is the float without its sign. Said of the value, and not in the Rust's order: its generic/fabs.rs
-- clears the sign bit of the pattern.
use Rattle.std.specs.Prelude.{false, Float}
use Rattle.std.specs.Float.{nan, inf, fin}

unfoldable pub fabs_s : Float → Float
fabs_s nan = nan
fabs_s (inf s) = inf false
fabs_s (fin s m e) = fin false m e
