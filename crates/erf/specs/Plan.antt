-- erf and erfc as the Rust's erf.rs and erff.rs have them. The two files are one text over their constants and cuts: a `Plan`.
-- Regions of erf in the order tested: not finite; below 0.84375 (below 2 ^ -28 apart); below 6 by erfc2; from 6 on.
-- Regions of erfc: not finite; below 0.84375 (below 2 ^ -56 apart, then at 1/4, where the sign counts); below 28 by erfc2; from 28 on.
-- erf_s and erfc_s are the whole; the others serve them, and are what the private functions of their names promise.
use Rattle.std.specs.Prelude.{ℕ, ◌*◌, ◌/◌, ◌^◌, ◌||◌, List, pos, Float, if◌then◌else◌}
use Rattle.std.specs.Float.{Format}
use Rattle.std.specs.Float.Ieee.{neg, of_int, of_bits, to_bits}
use Rattle.words.specs.Tests.{◌<?◌, ◌≥?◌, ◌≠?◌}
use Rattle.words.specs.Operators.{operators}
use Rattle.words.specs.Bits.{sign_s}
use Rattle.words.specs.Fabs.{fabs_s}
use Rattle.poly.specs.Horner.{horner_s}

pub record Plan : Type 0 where
  pub format : Format
  -- ix, the word of the size that is compared with the cuts: in f64 the high word, in f32 all of it
  pub ix : Float → ℕ
  -- the cuts, as ix sees them
  pub not_finite : ℕ
  pub at0·84375 : ℕ
  pub at2^-28 : ℕ
  pub at2^-56 : ℕ
  pub at1/4 : ℕ
  pub at1·25 : ℕ
  pub at1/0·35 : ℕ
  pub at6 : ℕ
  pub at28 : ℕ
  -- how many low bits z loses
  pub lost : ℕ
  -- exp or expf
  pub exp : Float → Float
  -- the literals
  pub 0·125 : Float
  pub 0·5 : Float
  pub 0·5625 : Float
  pub 1·0 : Float
  pub 2·0 : Float
  pub 8·0 : Float
  -- x1p_1022, in f32 x1p_120
  pub tiny : Float
  -- ERX, EFX8, and the coefficients PP0, PP1, .. of each list; QQ, QA, SA and SB begin with 1.0
  pub ERX : Float
  pub EFX8 : Float
  pub PP : List Float
  pub QQ : List Float
  pub PA : List Float
  pub QA : List Float
  pub RA : List Float
  pub SA : List Float
  pub RB : List Float
  pub SB : List Float

module _ (p : Plan) where
  infixl 65 ◌⊕◌ ◌⊖◌
  infixl 70 ◌⊗◌ ◌⊘◌
  open p use {format, not_finite, at0·84375, at2^-28, at2^-56, at1/4, at1·25, at1/0·35, at6, at28, lost, exp}
  open p use {0·125, 0·5, 0·5625, 1·0, 2·0, 8·0, tiny, ERX, EFX8, PP, QQ, PA, QA, RA, SA, RB, SB}
  open operators p.format use {◌⊕◌, ◌⊖◌, ◌⊗◌, ◌⊘◌}

  abbrev horner : List Float → Float → Float
  horner c x = horner_s format c x

  unfoldable pub erfc1_s : Float → Float
  erfc1_s x =
      let s = fabs_s x ⊖ 1·0 in
      let p = horner PA s in
      let q = horner QA s in
      1·0 ⊖ ERX ⊖ p ⊘ q

  -- x with its low bits cleared: with_set_low_word(x, 0), in f32 from_bits(ix & 0xffffe000)
  unfoldable pub short_s : Float → Float
  short_s x = of_bits format (to_bits format x / 2 ^ lost * 2 ^ lost)

  -- r / big_s
  unfoldable pub ratio_s : ℕ → Float → Float
  ratio_s ix s =
      if ix <? at1/0·35 then
      (let r = horner RA s in
      let big_s = horner SA s in
      r ⊘ big_s)
      else
      let r = horner RB s in
      let big_s = horner SB s in
      r ⊘ big_s

  unfoldable pub erfc2_s : ℕ → Float → Float
  erfc2_s ix x =
      if ix <? at1·25 then erfc1_s x
      else
      let x = fabs_s x in
      let s = 1·0 ⊘ (x ⊗ x) in
      let z = short_s x in
      exp (neg z ⊗ z ⊖ 0·5625) ⊗ exp ((z ⊖ x) ⊗ (z ⊕ x) ⊕ ratio_s ix s) ⊘ x

  -- y below 0.84375
  unfoldable pub small_s : Float → Float
  small_s x =
      let z = x ⊗ x in
      let r = horner PP z in
      let s = horner QQ z in
      r ⊘ s

  unfoldable pub erf_s : Float → Float
  erf_s x =
      let sign = sign_s format x in
      let ix = p.ix x in
      if ix ≥? not_finite then 1·0 ⊖ 2·0 ⊗ of_int format (pos sign) ⊕ 1·0 ⊘ x
      else if ix <? at0·84375 then (if ix <? at2^-28 then 0·125 ⊗ (8·0 ⊗ x ⊕ EFX8 ⊗ x) else x ⊕ x ⊗ small_s x)
      else
      let y = if ix <? at6 then 1·0 ⊖ erfc2_s ix x else 1·0 ⊖ tiny in
      if sign ≠? 0 then neg y else y

  unfoldable pub erfc_s : Float → Float
  erfc_s x =
      let sign = sign_s format x in
      let ix = p.ix x in
      if ix ≥? not_finite then 2·0 ⊗ of_int format (pos sign) ⊕ 1·0 ⊘ x
      else if ix <? at0·84375 then
      (let y = small_s x in
      if ix <? at2^-56 then 1·0 ⊖ x
      else if sign ≠? 0 || ix <? at1/4 then 1·0 ⊖ (x ⊕ x ⊗ y)
      else 0·5 ⊖ (x ⊖ 0·5 ⊕ x ⊗ y))
      else if ix <? at28 then (if sign ≠? 0 then 2·0 ⊖ erfc2_s ix x else erfc2_s ix x)
      else if sign ≠? 0 then 2·0 ⊖ tiny else tiny ⊗ tiny
