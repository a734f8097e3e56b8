-- sin(pi x) for x > 0 in f32, as the Rust has it: sin_pi in lgammaf_r.rs. x mod 2 and n are worked out in f32, y and the kernels in f64
-- (an f32 is an f64 of the same value, so `x as f64` is x). sinpif_s is what `sinpif` promises; turn_s and quarter_s serve it, and turn_s is what
-- the private `turn` of module `single` promises.
use Rattle.std.specs.Prelude.{ℕ, ◌+◌, ◌/◌, pos, nat_abs, Float, if◌then◌else◌}
use Rattle.std.specs.Float.{binary32, binary64}
use Rattle.std.specs.Float.Ieee.{neg, of_int}
use Rattle.words.specs.Tests.{◌=?◌}
use Rattle.words.specs.Operators.{operators}
use Rattle.words.specs.F32 as F32
use Rattle.words.specs.F64 as F64
use Rattle.floor.specs.Floor.{floor_s}
use Rattle.whole.specs.Whole.{whole_s}
use Rattle.trig.specs.KSinf.{k_sinf_s}
use Rattle.trig.specs.KCosf.{k_cosf_s}
use Rattle.sinpi.specs.Sinpi.{PI}

-- in f32
module _ where
  infixl 65 ◌⊖◌
  infixl 70 ◌⊗◌
  open operators binary32 use {◌⊖◌, ◌⊗◌}

  -- x mod 2
  unfoldable pub turn_s : Float → Float
  turn_s x =
      let x = x ⊗ F32.0·5 in
      F32.2·0 ⊗ (x ⊖ floor_s binary32 x)

  -- n, of x mod 2. That is never negative, so n is a natural number, 0 to 4
  unfoldable pub quarter_s : Float → ℕ
  quarter_s x =
      let n = nat_abs (whole_s (x ⊗ F32.4·0)) in
      (n + 1) / 2

-- in f64
module _ where
  infixl 65 ◌⊖◌
  infixl 70 ◌⊗◌
  open operators binary64 use {◌⊖◌, ◌⊗◌}

  unfoldable pub sinpif_s : Float → Float
  sinpif_s x =
      let x = turn_s x in
      let n = quarter_s x in
      let y = x ⊖ of_int binary64 (pos n) ⊗ F64.0·5 in
      let y = y ⊗ PI in
      if n =? 1 then k_cosf_s y
      else if n =? 2 then k_sinf_s (neg y)
      else if n =? 3 then neg (k_cosf_s y)
      else k_sinf_s y
