-- log, as the Rust's log.rs and logf.rs have it: one text over their constants and cuts. ui is the bit pattern, hx its upper 32 bits, which in f32
-- are all of it (the Rust's ix there). log_s is the whole; reduced_s and near_s serve it, and are what the private `reduced` and `near` promise.
use Rattle.std.specs.Prelude.{ℕ, ◌+◌, ◌-◌, ◌*◌, ◌/◌, ◌%◌, ◌^◌, ◌&&◌, ◌||◌, List, ℤ, pos, neg_ℤ, ◌+ℤ◌, ◌-ℤ◌, Float, if◌then◌else◌}
use Rattle.std.specs.Float.{Format}
use Rattle.std.specs.Float.Ieee.{top, of_int, to_bits, of_bits}
use Rattle.words.specs.Tests.{◌<?◌, ◌≥?◌, ◌=?◌}
use Rattle.words.specs.Operators.{operators}
use Rattle.poly.specs.Horner.{horner_s}

pub record Plan : Type 0 where
  pub format : Format
  -- how many bits lie below hx, and how many bits of the fraction are in hx
  pub below : ℕ
  pub fraction : ℕ
  -- hx of the least normal number, of infinity, of 1 and of sqrt(2)/2
  pub normal : ℕ
  pub not_finite : ℕ
  pub at1 : ℕ
  pub root : ℕ
  -- the exponent field of 1
  pub bias : ℕ
  -- a subnormal number is scaled up by 2 ^ up
  pub up : ℕ
  pub x1p_up : Float
  -- the literals
  pub 0·0 : Float
  pub 0·5 : Float
  pub 1·0 : Float
  pub 2·0 : Float
  pub -1·0 : Float
  pub LN2_HI : Float
  pub LN2_LO : Float
  -- LG2, LG4, .. and LG1, LG3, ..
  pub LG_even : List Float
  pub LG_odd : List Float

module _ (p : Plan) where
  infixl 65 ◌⊕◌ ◌⊖◌
  infixl 70 ◌⊗◌ ◌⊘◌
  open p use {format, below, fraction, normal, not_finite, at1, root, bias, up, x1p_up}
  open p use {0·0, 0·5, 1·0, 2·0, -1·0, LN2_HI, LN2_LO, LG_even, LG_odd}
  open operators p.format use {◌⊕◌, ◌⊖◌, ◌⊗◌, ◌⊘◌}

  -- log of x * 2 ^ k, for an x from sqrt(2)/2 to sqrt(2)
  unfoldable pub near_s : Float → ℤ → Float
  near_s x k =
      let f = x ⊖ 1·0 in
      let hfsq = 0·5 ⊗ f ⊗ f in
      let s = f ⊘ (2·0 ⊕ f) in
      let z = s ⊗ s in
      let w = z ⊗ z in
      let t1 = w ⊗ horner_s format LG_even w in
      let t2 = z ⊗ horner_s format LG_odd w in
      let r = t2 ⊕ t1 in
      let dk = of_int format k in
      s ⊗ (hfsq ⊕ r) ⊕ dk ⊗ LN2_LO ⊖ hfsq ⊕ f ⊕ dk ⊗ LN2_HI

  -- reduce x into [sqrt(2)/2, sqrt(2)]: ui is the pattern of a positive normal number, to be counted with 2 ^ k
  unfoldable pub reduced_s : ℕ → ℤ → Float
  reduced_s ui k =
      let hx = ui / 2 ^ below + (at1 - root) in
      let k = k +ℤ (pos (hx / 2 ^ fraction) -ℤ pos bias) in
      let hx = hx % 2 ^ fraction + root in
      let ui = hx * 2 ^ below + ui % 2 ^ below in
      let x = of_bits format ui in
      near_s x k

  unfoldable pub log_s : Float → Float
  log_s x =
      let ui = to_bits format x in
      let hx = ui / 2 ^ below in
      if hx <? normal || hx ≥? 2 ^ 31 then
      (if ui % top format =? 0 then -1·0 ⊘ (x ⊗ x)
      else if hx ≥? 2 ^ 31 then (x ⊖ x) ⊘ 0·0
      else reduced_s (to_bits format (x ⊗ x1p_up)) (neg_ℤ (pos up)))
      else if hx ≥? not_finite then x
      else if hx =? at1 && ui % 2 ^ below =? 0 then 0·0
      else reduced_s ui (pos 0)
