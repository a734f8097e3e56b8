-- What the laws of erf and erfc at -x and at the special values ask of a plan: `Regular`. Its fields are tests and equations that the checker works out.
-- What follows, for a finite x with no minus sign and its word ix:
--   `ix_neg`: ix does not see the sign; `ix_finite`: it is below the infinity's;
--   `from_cut`: where x is from a cut's value on, ix is from the cut on;
--   `small_plus`: where ix is from 2 ^ -28 up to 0.84375, the sum x + x * y, which is erf there, is above zero.
-- Assumes nothing.
use mathlib.Core.Path.{◌≡◌, sym, ap, ◌∙◌, subst}
use mathlib.Core.List.{[]}
use Prim.Native.Nat.{ℕ, ◌*◌, ◌/◌, ◌%◌, ◌^◌, ◌≤◌, ◌<◌}
use native.Mathlib.Nat.{le_of_lt, le-div_iff_mul-le, div-lt_iff_lt-mul, mul-lt-mul_of_pos_right}
use mathlib.Core.Bool.{Bool, true, false}
use lib.IntN.{ℤ, pos}
use lib.Dec.{T}
use lib.Pow.{pow_pos}
use lib.Ieee.{Float, nan, inf, fin, Format, top, add, sub, mul, div, neg, le, of_int, of_bits, to_bits, fits}
use lib.Ieee.Positive.{positive, between}
use Rattle.rounding.proofs.BitOrder.{endless}
use Rattle.rounding.proofs.Range.{In, halved_test, halved}
use Rattle.rounding.proofs.Relative.{zero+}
use Rattle.words.specs.Bits.{sign_s}
use Rattle.words.proofs.PatternLaws.{rest_neg}
use Rattle.words.proofs.CutLaws.{size_under, bits_from, from_bits, upto_bits}
use Rattle.erf.specs.Plan.{Plan}
use Rattle.erf.specs.Plan as Plan
use Rattle.erf.proofs.SmallSum.{sum_e, sum_is}

-- the value at a cut, where ix is without the pattern's k low bits
abbrev pub value_at : Plan → ℕ → ℕ → Float
value_at p k w = of_bits p.format (w * 2 ^ k)

-- erf and erfc of what is not finite
abbrev pub erf_end : Plan → Float → Float
erf_end p x =
    let f = p.format in
    add f (sub f p.1·0 (mul f p.2·0 (of_int f (pos (sign_s f x))))) (div f p.1·0 x)

abbrev pub erfc_end : Plan → Float → Float
erfc_end p x =
    let f = p.format in
    add f (mul f p.2·0 (of_int f (pos (sign_s f x)))) (div f p.1·0 x)

-- erf below 2 ^ -28
abbrev pub erf_tiny : Plan → Float → Float
erf_tiny p x =
    let f = p.format in
    mul f p.0·125 (add f (mul f p.8·0 x) (mul f p.EFX8 x))

pub record Regular (p : Plan) : Type 0 where
  -- ix is the pattern without the sign bit, and without so many low bits
  pub without : ℕ
  pub ix_is : (x : Float) → p.ix x ≡ to_bits p.format x % top p.format / 2 ^ without
  -- the infinity's pattern, and 0.84375 below it
  pub infinity_is : p.not_finite * 2 ^ without ≡ endless p.format
  pub below_infinity : p.at0·84375 < p.not_finite
  -- constants above zero
  pub eight_plus : T (positive p.8·0)
  pub EFX8_plus : T (positive p.EFX8)
  pub tiny_plus : T (positive p.tiny)
  pub one_plus : T (positive p.1·0)
  pub cut_plus : T (positive (value_at p without p.at0·84375))
  -- from 2 ^ -28 to 0.84375 erf lies from tiny to 1: the terms of its sum do not cancel
  pub small_test : T (halved_test 4 p.format p.tiny p.1·0 (sum_e p) [] (value_at p without p.at2^-28) (value_at p without p.at0·84375))
  -- what is not finite has its ix from the infinity's on; the formulas there
  pub ix_nan : p.not_finite ≤ p.ix nan
  pub ix_inf : (s : Bool) → p.not_finite ≤ p.ix (inf s)
  pub erf_ends : (erf_end p nan ≡ nan) × (erf_end p (inf false) ≡ p.1·0) × (erf_end p (inf true) ≡ neg p.1·0)
  pub erfc_ends : (erfc_end p nan ≡ nan) × (erfc_end p (inf false) ≡ zero+) × (erfc_end p (inf true) ≡ p.2·0)
  -- a zero is below every cut; the formula there
  pub ix_zero : (s : Bool) → p.ix (fin s 0 (pos 0)) < p.at2^-28
  pub small_cuts : p.at2^-28 < p.at0·84375
  pub at_zero : (s : Bool) → erf_tiny p (fin s 0 (pos 0)) ≡ fin s 0 (pos 0)
  -- from 28 on, and at the infinity
  pub far : sub p.format p.2·0 p.tiny ≡ sub p.format p.2·0 (mul p.format p.tiny p.tiny)
  pub two_less_zero : sub p.format p.2·0 zero+ ≡ p.2·0

module _ (p : Plan) (r : Regular p) where
  abbrev f : Format
  f = p.format

  abbrev unit : ℕ
  unit = 2 ^ r.without

  abbrev at : ℕ → Float
  at w = value_at p r.without w

  unit_pos : 0 < unit
  unit_pos = pow_pos r.without

  pub ix_neg : (x : Float) → p.ix (neg x) ≡ p.ix x
  ix_neg x = r.ix_is (neg x) ∙ ap (λ (n : ℕ). n / unit) (rest_neg f x) ∙ sym (r.ix_is x)

  cut_inside : p.at0·84375 * unit < endless f
  cut_inside = subst (λ (n : ℕ). p.at0·84375 * unit < n) r.infinity_is (mul-lt-mul_of_pos_right r.below_infinity unit_pos)

  module _ (m : ℕ) (e : ℤ) (F : T (fits f (fin false m e))) where
    abbrev x : Float
    x = fin false m e

    pub ix_finite : p.ix x < p.not_finite
    ix_finite = rw (r.ix_is x) ((div-lt_iff_lt-mul unit_pos).1 (rw r.infinity_is (size_under f false m e F)))

    pub from_cut : T (le (at p.at0·84375) x) → p.at0·84375 ≤ p.ix x
    from_cut h = rw (r.ix_is x) ((le-div_iff_mul-le unit_pos).1 (bits_from f false m e F (p.at0·84375 * unit) cut_inside h))

    small_in : p.at2^-28 ≤ p.ix x → p.ix x < p.at0·84375 → In (at p.at2^-28) (at p.at0·84375) x
    small_in lo hi = (
      from_bits f false m e F (p.at2^-28 * unit) ((le-div_iff_mul-le unit_pos).0 (rw (r.ix_is x) at lo)),
      upto_bits f false m e F (p.at0·84375 * unit) cut_inside (le_of_lt ((div-lt_iff_lt-mul unit_pos).0 (rw (r.ix_is x) at hi))),
    )

    pub small_plus : p.at2^-28 ≤ p.ix x → p.ix x < p.at0·84375 → T (positive (add f x (mul f x (Plan.small_s p x))))
    small_plus lo hi =
        let i =
        subst (In p.tiny p.1·0) (sum_is p x)
        (halved 4 f p.tiny p.1·0 (sum_e p) [] [] (at p.at2^-28) (at p.at0·84375) x tt r.small_test tt (small_in lo hi)) in
        between p.tiny (add f x (mul f x (Plan.small_s p x))) p.1·0 r.tiny_plus r.one_plus i.0 i.1
