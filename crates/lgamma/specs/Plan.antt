-- lgamma_r, as the Rust's lgamma_r.rs and lgammaf_r.rs have it. The two files are one text over their constants and cuts: a `Plan`.
-- Regions in the order tested: not finite; tiny; negative, by the reflection with sin(pi x); exactly 1 and 2; below 2 by three formulas;
-- below 8; below 2 ^ 58; above. x is the size from there on where the argument is negative.
-- lgamma_s is the whole; the others serve it, and are what the private functions of their names promise (segment_s that of `segment_at`).
use Rattle.std.specs.Prelude.{ℕ, Bool, List, ℤ, pos, negsuc, Float, if◌then◌else◌}
use Rattle.std.specs.Float.{Format}
use Rattle.std.specs.Float.Ieee.{neg, of_int}
use Rattle.words.specs.Tests.{◌<?◌, ◌≤?◌, ◌≥?◌, ◌=?◌, ◌≠?◌, ◌≥ℤ?◌, ◌>·◌, ◌=·◌}
use Rattle.words.specs.Operators.{operators}
use Rattle.words.specs.Bits.{sign_s}
use Rattle.whole.specs.Whole.{whole_s}
use Rattle.poly.specs.Horner.{horner_s}

-- A log-gamma answer: the value, and signgam, the sign of the gamma function
pub record Answer : Type 0 where
  pub value : Float
  pub sign : ℤ

pub record Plan : Type 0 where
  pub format : Format
  -- ix, the word of the size that is compared with the cuts: in f64 the high word, in f32 all of it
  pub ix : Float → ℕ
  -- whether x is exactly 1 or 2, by ix and its other bits
  pub is_one_or_two : ℕ → Float → Bool
  -- the cuts, as ix sees them: not finite, tiny, 2, 8, 2 ^ 58
  pub not_finite : ℕ
  pub tiny : ℕ
  pub at2 : ℕ
  pub at8 : ℕ
  pub at2^58 : ℕ
  -- and those below 2: 0.9 (the last one below it), and then by y
  pub to0·9 : ℕ
  pub at0·7316 : ℕ
  pub at0·2316 : ℕ
  pub at1·7316 : ℕ
  pub at1·2316 : ℕ
  -- log or logf, and sin_pi
  pub log : Float → Float
  pub sin_pi : Float → Float
  -- the literals
  pub 0·0 : Float
  pub 0·5 : Float
  pub -0·5 : Float
  pub 1·0 : Float
  pub 2·0 : Float
  pub 3·0 : Float
  pub 4·0 : Float
  pub 5·0 : Float
  pub 6·0 : Float
  pub PI : Float
  pub TC : Float
  pub TF : Float
  pub TT : Float
  -- A0, A2, .. and A1, A3, ..; T0, T3, ..; T1, T4, ..; T2, T5, ..
  pub A_even : List Float
  pub A_odd : List Float
  pub T·0 : List Float
  pub T·1 : List Float
  pub T·2 : List Float
  -- U0, ..; V0 = 1.0, V1, ..; S0, ..; R0 = 1.0, R1, ..
  pub U : List Float
  pub «V» : List Float
  pub S : List Float
  pub R : List Float
  -- W0; W1, ..
  pub W0 : Float
  pub W : List Float

-- The segment below 2: the Rust's i, 0 to 2, and y
pub record Segment : Type 0 where
  pub i : ℕ
  pub y : Float

module _ (p : Plan) where
  infixl 65 ◌⊕◌ ◌⊖◌
  infixl 70 ◌⊗◌ ◌⊘◌
  open p use {format, not_finite, tiny, at2, at8, at2^58, to0·9, at0·7316, at0·2316, at1·7316, at1·2316, log, sin_pi}
  open p use {0·0, 0·5, -0·5, 1·0, 2·0, 3·0, 4·0, 5·0, 6·0, PI, TC, TF, TT, A_even, A_odd, T·0, T·1, T·2, U, «V», S, R, W0, W}
  open operators p.format use {◌⊕◌, ◌⊖◌, ◌⊗◌, ◌⊘◌}

  abbrev horner : List Float → Float → Float
  horner c x = horner_s format c x

  -- i and y
  unfoldable pub segment_s : ℕ → Float → Segment
  segment_s ix x =
      if ix ≤? to0·9 then
      (if ix ≥? at0·7316 then record { i = 0; y = 1·0 ⊖ x }
      else if ix ≥? at0·2316 then record { i = 1; y = x ⊖ (TC ⊖ 1·0) }
      else record { i = 2; y = x })
      else if ix ≥? at1·7316 then record { i = 0; y = 2·0 ⊖ x }
      else if ix ≥? at1·2316 then record { i = 1; y = x ⊖ TC }
      else record { i = 2; y = x ⊖ 1·0 }

  -- what each segment adds to r
  unfoldable pub zero_s : Float → Float
  zero_s y =
      let z = y ⊗ y in
      let p1 = horner A_even z in
      let p2 = z ⊗ horner A_odd z in
      let p = y ⊗ p1 ⊕ p2 in
      p ⊖ 0·5 ⊗ y

  unfoldable pub one_s : Float → Float
  one_s y =
      let z = y ⊗ y in
      let w = z ⊗ y in
      let p1 = horner T·0 w in
      let p2 = horner T·1 w in
      let p3 = horner T·2 w in
      let p = z ⊗ p1 ⊖ (TT ⊖ w ⊗ (p2 ⊕ y ⊗ p3)) in
      TF ⊕ p

  unfoldable pub two_s : Float → Float
  two_s y =
      let p1 = y ⊗ horner U y in
      let p2 = horner «V» y in
      -0·5 ⊗ y ⊕ p1 ⊘ p2

  unfoldable pub added_s : Segment → Float
  added_s s = if s.i =? 0 then zero_s s.y else if s.i =? 1 then one_s s.y else two_s s.y

  -- for x < 2.0
  unfoldable pub below2_s : ℕ → Float → Float
  below2_s ix x =
      let r = if ix ≤? to0·9 then neg (log x) else 0·0 in
      r ⊕ added_s (segment_s ix x)

  -- x < 8.0. z is the product of y + 6, y + 5, .., y + 2, from where i allows it
  unfoldable pub product_s : Float → ℤ → Float
  product_s y i =
      let z = 1·0 in
      let z = if i ≥ℤ? pos 7 then z ⊗ (y ⊕ 6·0) else z in
      let z = if i ≥ℤ? pos 6 then z ⊗ (y ⊕ 5·0) else z in
      let z = if i ≥ℤ? pos 5 then z ⊗ (y ⊕ 4·0) else z in
      let z = if i ≥ℤ? pos 4 then z ⊗ (y ⊕ 3·0) else z in
      z ⊗ (y ⊕ 2·0)

  unfoldable pub below8_s : Float → Float
  below8_s x =
      let i = whole_s x in
      let y = x ⊖ of_int format i in
      let p = y ⊗ horner S y in
      let q = horner R y in
      let r = 0·5 ⊗ y ⊕ p ⊘ q in
      if i ≥ℤ? pos 3 then r ⊕ log (product_s y i) else r

  -- 8.0 <= x < 2**58
  unfoldable pub stirling_s : Float → Float
  stirling_s x =
      let t = log x in
      let z = 1·0 ⊘ x in
      let y = z ⊗ z in
      let w = W0 ⊕ z ⊗ horner W y in
      (x ⊖ 0·5) ⊗ (t ⊖ 1·0) ⊕ w

  -- r, of a positive x
  unfoldable pub size_s : ℕ → Float → Float
  size_s ix x =
      if p.is_one_or_two ix x then 0·0
      else if ix <? at2 then below2_s ix x
      else if ix <? at8 then below8_s x
      else if ix <? at2^58 then stirling_s x
      else x ⊗ (log x ⊖ 1·0)

  -- a negative argument, of which x is the size: t is sin_pi(x)
  unfoldable pub reflected_s : ℕ → Float → Float → Answer
  reflected_s ix x t =
      if t =· 0·0 then record { value = 1·0 ⊘ (x ⊖ x); sign = pos 1 }
      else if t >· 0·0 then
      (let nadj = log (PI ⊘ (t ⊗ x)) in
      record { value = nadj ⊖ size_s ix x; sign = negsuc 0 })
      else
      let t = neg t in
      let nadj = log (PI ⊘ (t ⊗ x)) in
      record { value = nadj ⊖ size_s ix x; sign = pos 1 }

  unfoldable pub lgamma_s : Float → Answer
  lgamma_s x =
      let sign = sign_s format x in
      let ix = p.ix x in
      if ix ≥? not_finite then record { value = x ⊗ x; sign = pos 1 }
      else if ix <? tiny then
      (if sign ≠? 0 then record { value = neg (log (neg x)); sign = negsuc 0 }
      else record { value = neg (log x); sign = pos 1 })
      else if sign ≠? 0 then reflected_s ix (neg x) (sin_pi (neg x))
      else record { value = size_s ix x; sign = pos 1 }
