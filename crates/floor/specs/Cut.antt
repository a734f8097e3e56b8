-- What `floor` cuts off first, over the format: x without its fraction, where it may have one. A size from 2 ^ (prec - 1) on is whole, and so the
-- Rust has no digits to clear there.
use Rattle.std.specs.Prelude.{◌+◌, ◌-◌, ◌*◌, Float, if◌then◌else◌}
use Rattle.std.specs.Float.{Format}
use Rattle.std.specs.Float.Ieee.{hid, prec, emax, of_bits, of_int, to_signed}
use Rattle.words.specs.Tests.{◌<·◌}
use Rattle.words.specs.Fabs.{fabs_s}

-- 2 ^ (prec - 1), which is 4503599627370496.0, and in f32 8388608.0
abbrev pub whole_from_s : Format → Float
whole_from_s f = of_bits f ((emax f + (prec f - 1)) * hid f)

abbrev pub cut_s : Format → Float → Float
cut_s f x = if fabs_s x <· whole_from_s f then of_int f (to_signed 63 x) else x
