-- What exp.rs and expf.rs have in common, over their constants and cuts: everything from the argument reduction on. hx is the word of the size
-- (in f64 the high word, in f32 all of it), sign the sign bit. plain_s is that rest of both; it and the three before it are what the private
-- functions `plain`, `reduced`, `multiple` and `primary` promise.
use Rattle.std.specs.Prelude.{ℕ, List, ℤ, pos, negsuc, unsigned_abs, Float, if◌then◌else◌}
use Rattle.std.specs.Float.{Format}
use Rattle.std.specs.Float.Ieee.{of_int}
use Rattle.words.specs.Tests.{◌>?◌, ◌≥?◌, ◌=?◌}
use Rattle.words.specs.Operators.{operators}
use Rattle.whole.specs.Whole.{whole_s}
use Rattle.poly.specs.Horner.{horner_s}
use Rattle.scalbn.specs.Scalbn.{scalbn_s}

pub record Plan : Type 0 where
  pub format : Format
  -- the cuts, as hx sees them: the last one up to 0.5 ln2, the first one from 1.5 ln2, the last one of |x| so small that 1 + x serves
  pub to0·5ln2 : ℕ
  pub from1·5ln2 : ℕ
  pub to_tiny : ℕ
  -- the literals
  pub 0·0 : Float
  pub 0·5 : Float
  pub -0·5 : Float
  pub 1·0 : Float
  pub 2·0 : Float
  pub LN2HI : Float
  pub LN2LO : Float
  pub INVLN2 : Float
  -- P1, P2, ..
  pub P : List Float

module _ (p : Plan) where
  infixl 65 ◌⊕◌ ◌⊖◌
  infixl 70 ◌⊗◌ ◌⊘◌
  open p use {format, to0·5ln2, from1·5ln2, to_tiny, 0·0, 0·5, -0·5, 1·0, 2·0, LN2HI, LN2LO, INVLN2, P}
  open operators p.format use {◌⊕◌, ◌⊖◌, ◌⊗◌, ◌⊘◌}

  -- x is now in primary range, and is hi - lo
  unfoldable pub primary_s : Float → Float → Float → ℤ → Float
  primary_s x hi lo k =
      let xx = x ⊗ x in
      let c = x ⊖ xx ⊗ horner_s format P xx in
      let y = 1·0 ⊕ (x ⊗ c ⊘ (2·0 ⊖ c) ⊖ lo ⊕ hi) in
      if unsigned_abs k =? 0 then y else scalbn_s format y k

  -- k, where |x| > 0.5 ln2. For a sign of 0 or 1 the last line is the Rust's 1 - sign - sign
  unfoldable pub multiple_s : Float → ℕ → ℕ → ℤ
  multiple_s x hx sign =
      let HALF = if sign =? 0 then 0·5 else -0·5 in
      if hx ≥? from1·5ln2 then whole_s (INVLN2 ⊗ x ⊕ HALF)
      else if sign =? 0 then pos 1 else negsuc 0

  unfoldable pub reduced_s : Float → ℤ → Float
  reduced_s x k =
      let hi = x ⊖ of_int format k ⊗ LN2HI in
      let lo = of_int format k ⊗ LN2LO in
      let x = hi ⊖ lo in
      primary_s x hi lo k

  -- argument reduction
  unfoldable pub plain_s : Float → ℕ → ℕ → Float
  plain_s x hx sign =
      if hx >? to0·5ln2 then reduced_s x (multiple_s x hx sign)
      else if hx >? to_tiny then primary_s x x 0·0 (pos 0)
      else 1·0 ⊕ x
