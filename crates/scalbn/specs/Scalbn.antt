-- scalbn: x times 2 ^ n, as the Rust's generic/scalbn.rs works it out, in at most three rounded products and in either format f.
-- scalbn_s is what `scalbn` and `scalbnf` promise; power2, up_s and down_s serve it, and are what the private `power`, `up` and `down` promise.
use Rattle.std.specs.Prelude.{◌-◌, ◌*◌, ℤ, pos, neg_ℤ, nat_abs, ◌+ℤ◌, ◌-ℤ◌, Float, if◌then◌else◌}
use Rattle.std.specs.Float.{Format}
use Rattle.std.specs.Float.Ieee.{prec, emax, hid, of_bits}
use Rattle.words.specs.Tests.{◌<ℤ?◌, ◌>ℤ?◌}
use Rattle.words.specs.Operators.{operators}

module _ (f : Format) where
  infixl 70 ◌⊗◌
  open operators f use {◌⊗◌}

  -- exp_max, exp_min and sig_total_bits
  abbrev pub exp_max : ℤ
  exp_max = pos (emax f)

  abbrev pub exp_min : ℤ
  exp_min = neg_ℤ (pos (emax f - 1))

  abbrev pub sig_total_bits : ℤ
  sig_total_bits = pos (prec f)

  -- F::from_parts(false, EXP_BIAS + n, 0): 2 ^ n, for an n from exp_min to exp_max
  abbrev pub power2 : ℤ → Float
  power2 n = of_bits f (nat_abs (pos (emax f) +ℤ n) * hid f)

  -- n > exp_max: x is scaled by 2 ^ exp_max once or twice before
  unfoldable pub up_s : Float → ℤ → Float
  up_s x n =
      let f_exp_max = power2 exp_max in
      let x = x ⊗ f_exp_max in
      let n = n -ℤ exp_max in
      if n >ℤ? exp_max then
      (let x = x ⊗ f_exp_max in
      let n = n -ℤ exp_max in
      let n = if n >ℤ? exp_max then exp_max else n in
      let scale = power2 n in
      x ⊗ scale)
      else
      let scale = power2 n in
      x ⊗ scale

  -- n < exp_min: x is scaled by 2 ^ (exp_min + sig_total_bits) once or twice before; n is then still below -sig_total_bits
  unfoldable pub down_s : Float → ℤ → Float
  down_s x n =
      let f_exp_min = power2 exp_min in
      let f_pow_subnorm = power2 sig_total_bits in
      let mul = f_exp_min ⊗ f_pow_subnorm in
      let add = neg_ℤ exp_min -ℤ sig_total_bits in
      let x = x ⊗ mul in
      let n = n +ℤ add in
      if n <ℤ? exp_min then
      (let x = x ⊗ mul in
      let n = n +ℤ add in
      let n = if n <ℤ? exp_min then exp_min else n in
      let scale = power2 n in
      x ⊗ scale)
      else
      let scale = power2 n in
      x ⊗ scale

  unfoldable pub scalbn_s : Float → ℤ → Float
  scalbn_s x n =
      if n >ℤ? exp_max then up_s x n
      else if n <ℤ? exp_min then down_s x n
      else
      let scale = power2 n in
      x ⊗ scale
