-- That the one pattern of a NaN is what a NaN has in its format, which proves what the trait `Width` asks of f64 and f32.
use Rattle.std.specs.Prelude.{◌≡◌, ◌+◌, ◌*◌, ◌/◌, refl}
use Rattle.std.specs.Float.{Format, nan}
use Rattle.std.specs.Float.Ieee.{ones, hid, to_bits}

pub nan_pattern : (f : Format) → ones f * hid f + hid f / 2 ≡ to_bits f nan
unfolding to_bits
nan_pattern f = refl
