-- THE THEOREM on bit patterns, in the words of specs/Promises: for the 64 bits n of a finite f64 that is no negative whole number, tgamma's bits r are no
-- NaN's (`no_nan_bits`), and their sign bit is set exactly where lgamma_r's sign is -1 (`same_sign_bits`), which is exactly where n's sign bit is set and
-- the whole part of the size is even (`sign_rule_bits`). The sign is 1 or -1 for any n (`reports_bits`). At a negative whole number r is the NaN's pattern
-- and the sign 1 (`at_poles_bits`). And the same of the 32 bits of an f32, of tgammaf with lgammaf_r (the same names with _f32); its sign is lgamma_r's of
-- the same number, too (`same_sign_bits_wide`). The words for bits say of them what those for values say of their value, both ways (`bits_mean`), and so
-- what is true of a format's values is true of its bits, whichever the functions are: the laws that end in -of. Assumes nothing.
use mathlib.Core.Path.{◌≡◌, sym, ap, ◌∙◌, subst}
use mathlib.Core.Logic.{◌⊎◌}
use Prim.Native.Nat.{ℕ, ◌+◌, ◌*◌, ◌%◌, ◌^◌, ◌<◌}
use native.Mathlib.Omega.{arith}
use mathlib.Core.Bool.{true}
use lib.IntN.{ℤ, pos, negsuc}
use lib.Dec.{T, leb}
use lib.Ieee.{Float, Format, nan, binary32, binary64, hid, ones, top, fits, to_bits, of_bits}
use lib.Ieee.Bits.{of_bits-fits, of_bits-to_bits}
use borrow.Author.Tests.{le-leb, leb-true}
use Rattle.words.proofs.PatternLaws.{pattern_nan, rest_is}
use Rattle.lgamma.specs.Plan.{Answer}
use Rattle.lgamma.specs.Lgamma64.{lgamma_s}
use Rattle.lgammaf.specs.Lgammaf.{lgammaf_s}
use Rattle.tgamma.specs.Tgamma.{tgamma_s}
use Rattle.tgamma.proofs.Fits.{tgamma_fits}
use Rattle.tgammaf.specs.Tgammaf.{tgammaf_s}
use Rattle.tgammaf.proofs.Narrowed.{tgammaf_fits}
use Rattle.signs.specs.Pattern.{sign_bit, fraction, NanBits}
use Rattle.signs.specs.Promises.{NoNan, SameSign, SignRule, AtPoles, Reports, Means, NoNanBits, SameSignBits, SignRuleBits, AtPolesBits, ReportsBits}
use Rattle.signs.proofs.Fields.{finite_back, nan_back, pattern_same}
use Rattle.signs.proofs.Signs.{no_nan, same_sign, sign_rule, reports, at_poles}
use Rattle.signs.proofs.Signs.{no_nan_f32, same_sign_f32, same_sign_wide, sign_rule_f32, reports_f32, at_poles_f32}

-- ---- the sign bit of n, and the test for it
bit_test : (f : Format) (n : ℕ) → sign_bit f n ≡ 1 → leb (top f) n ≡ true
bit_test binary32 n h = le-leb (2 ^ 31) n (omega arith)
bit_test binary64 n h = le-leb (2 ^ 63) n (omega arith)

test_bit : (f : Format) (n : ℕ) → n < 2 * top f → leb (top f) n ≡ true → sign_bit f n ≡ 1
test_bit binary32 n l h = let k = leb-true (2 ^ 31) n h in omega arith
test_bit binary64 n l h = let k = leb-true (2 ^ 63) n h in omega arith

-- the bits of a NaN are its value's
nan_value : (f : Format) (r : ℕ) → NanBits f r → of_bits f r ≡ nan
nan_value f r h =
    sym (pattern_nan f r (rw (rest_is f r)
    (subst (λ (E : ℕ). ones f * hid f < E * hid f + fraction f r) (sym h.0) (more (ones f * hid f) (fraction f r) h.1))))
  where
    more : (a F : ℕ) → 0 < F → a < a + F
    more a F h = omega arith

-- what the words of specs/Pattern mean, of any bits that a float of the format has
pub bits_mean : (f : Format) (n : ℕ) → n < 2 * top f → Means f n
bits_mean f n l = record {
  finite = λ h. (pattern_same f n h).finite;
  finite_back = finite_back f n;
  nan_is = nan_value f n;
  nan_back = nan_back f n;
  minus = λ h b. (pattern_same f n h).back (bit_test f n b);
  minus_back = λ h m. test_bit f n l ((pattern_same f n h).minus m);
  part = λ h. sym (pattern_same f n h).part;
  whole = λ h w. (pattern_same f n h).pole (bit_test f n w.0, w.1, w.2);
  whole_back = λ h w. let k = (pattern_same f n h).whole w in (test_bit f n l k.0, k.1, k.2);
}

-- ---- from values to bits, in either format
module _ (f : Format) (g : Float → Float) (g_fits : (x : Float) → T (fits f (g x))) where
  no_nan_of : NoNan f g → NoNanBits f g
  no_nan_of k n r l h w e d =
      let x = of_bits f n in
      let v = bits_mean f n l in
      k x (of_bits-fits f n) (v.finite h) (λ p. w (v.whole_back h p))
      (sym (ap (of_bits f) e ∙ of_bits-to_bits f (g x) (g_fits x)) ∙ nan_value f r d)

  sign_rule_of : SignRule f g → SignRuleBits f g
  sign_rule_of k n r l h w e =
      let v = bits_mean f n l in
      let t = k (of_bits f n) (of_bits-fits f n) (v.finite h) (λ p. w (v.whole_back h p)) in
      let q = ap (λ (z : ℕ). z % 2) (v.part h) in (
        λ d. let p = t.0 (sym (ap (sign_bit f) e) ∙ d) in (v.minus_back h p.0, q ∙ p.1),
        λ d. ap (sign_bit f) e ∙ t.1 (v.minus h d.0, sym q ∙ d.1),
      )

module _ (f : Format) (g : Float → Float) (l : Float → Answer) where
  same_sign_of : SameSign f g l → SameSignBits f g l
  same_sign_of k n r s u h w e d =
      let v = bits_mean f n u in
      let t = k (of_bits f n) (of_bits-fits f n) (v.finite h) (λ p. w (v.whole_back h p)) in
      (λ b. d ∙ t.0 (sym (ap (sign_bit f) e) ∙ b), λ b. ap (sign_bit f) e ∙ t.1 (sym d ∙ b))

  at_poles_of : AtPoles f g l → AtPolesBits f g l
  at_poles_of k n r s h w e d =
      let t = k (of_bits f n) (of_bits-fits f n) ((pattern_same f n h).pole (bit_test f n w.0, w.1, w.2)) in
      (e ∙ ap (to_bits f) t.0, d ∙ ap (λ (a : Answer). a.sign) t.1)

reports_of : (f : Format) (l : Float → Answer) → Reports f l → ReportsBits f l
reports_of f l k n s d = subst (λ (z : ℤ). (z ≡ pos 1) ⊎ (z ≡ negsuc 0)) (sym d) (k (of_bits f n) (of_bits-fits f n))

-- ---- the 64 bits of an f64

-- 1. tgamma's bits are no NaN's
pub no_nan_bits : NoNanBits binary64 tgamma_s
no_nan_bits = no_nan_of binary64 tgamma_s tgamma_fits no_nan

-- 2. their sign bit is set exactly where lgamma_r's sign is -1
pub same_sign_bits : SameSignBits binary64 tgamma_s lgamma_s
same_sign_bits = same_sign_of binary64 tgamma_s lgamma_s same_sign

-- 3. that sign bit is set exactly where n's is and the whole part of the size is even
pub sign_rule_bits : SignRuleBits binary64 tgamma_s
sign_rule_bits = sign_rule_of binary64 tgamma_s tgamma_fits sign_rule

-- at a negative whole number
pub at_poles_bits : AtPolesBits binary64 tgamma_s lgamma_s
at_poles_bits = at_poles_of binary64 tgamma_s lgamma_s at_poles

-- lgamma_r's sign is 1 or -1
pub reports_bits : ReportsBits binary64 lgamma_s
reports_bits = reports_of binary64 lgamma_s reports

-- ---- the 32 bits of an f32

-- 1. tgammaf's bits are no NaN's
pub no_nan_bits_f32 : NoNanBits binary32 tgammaf_s
no_nan_bits_f32 = no_nan_of binary32 tgammaf_s tgammaf_fits no_nan_f32

-- 2. their sign bit is set exactly where lgammaf_r's sign is -1, and where lgamma_r's is
pub same_sign_bits_f32 : SameSignBits binary32 tgammaf_s lgammaf_s
same_sign_bits_f32 = same_sign_of binary32 tgammaf_s lgammaf_s same_sign_f32

pub same_sign_bits_wide : SameSignBits binary32 tgammaf_s lgamma_s
same_sign_bits_wide = same_sign_of binary32 tgammaf_s lgamma_s same_sign_wide

-- 3. that sign bit is set exactly where n's is and the whole part of the size is even
pub sign_rule_bits_f32 : SignRuleBits binary32 tgammaf_s
sign_rule_bits_f32 = sign_rule_of binary32 tgammaf_s tgammaf_fits sign_rule_f32

-- at a negative whole number
pub at_poles_bits_f32 : AtPolesBits binary32 tgammaf_s lgammaf_s
at_poles_bits_f32 = at_poles_of binary32 tgammaf_s lgammaf_s at_poles_f32

-- lgammaf_r's sign is 1 or -1
pub reports_bits_f32 : ReportsBits binary32 lgammaf_s
reports_bits_f32 = reports_of binary32 lgammaf_s reports_f32
