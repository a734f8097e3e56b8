-- sin(pi x) for x > 0, as the Rust has it: sinpi in tgamma.rs and sin_pi in lgamma_r.rs. The two texts differ only in the order of the
-- factors of 4.0 * x, which is no matter for the bits. sinpi_s is what `sinpi` promises; turn_s and quarter_s serve it, and turn_s is what the private
-- `turn` promises.
use Rattle.std.specs.Prelude.{ℕ, ◌+◌, ◌/◌, pos, nat_abs, Float, if◌then◌else◌}
use Rattle.std.specs.Float.{binary64}
use Rattle.std.specs.Float.Ieee.{neg, of_int}
use Rattle.words.specs.Tests.{◌=?◌}
use Rattle.words.specs.F64.{◌⊖◌, ◌⊗◌, bits, 0·0, 0·5, 2·0, 4·0}
use Rattle.floor.specs.Floor.{floor_s}
use Rattle.whole.specs.Whole.{whole_s}
use Rattle.trig.specs.KSin.{k_sin_s}
use Rattle.trig.specs.KCos.{k_cos_s}

abbrev pub PI : Float
PI = bits 0x400921FB54442D18  -- PI 3.14159265358979311600e+00

-- x mod 2
unfoldable pub turn_s : Float → Float
turn_s x =
    let x = x ⊗ 0·5 in
    2·0 ⊗ (x ⊖ floor_s binary64 x)

-- n, of x mod 2. That is never negative, so n is a natural number, 0 to 4
unfoldable pub quarter_s : Float → ℕ
quarter_s x =
    let n = nat_abs (whole_s (4·0 ⊗ x)) in
    (n + 1) / 2

unfoldable pub sinpi_s : Float → Float
sinpi_s x =
    let x = turn_s x in
    let n = quarter_s x in
    let x = x ⊖ of_int binary64 (pos n) ⊗ 0·5 in
    let x = x ⊗ PI in
    if n =? 1 then k_cos_s x 0·0
    else if n =? 2 then k_sin_s (neg x) 0·0 (pos 0)
    else if n =? 3 then neg (k_cos_s x 0·0)
    else k_sin_s x 0·0 (pos 0)
