-- Log-gamma at the values that ISO C's Annex F names, over the plan: NaN at a NaN, +inf at either infinity, +0 at 1 and at 2, +inf at either zero, whose
-- sign bit the sign is taken from. `AnnexF` states them, and a `Regular` plan has them (`annex_f`); `lgamma_special`: lgamma_r has them. (The poles, at
-- every negative whole number: `at_pole` of SignLaw.) Assumes nothing.
use mathlib.Core.Path.{◌≡◌, refl, ap}
use Prim.Native.Nat.{◌<◌, ◌≤◌}
use mathlib.Core.Bool.{Bool, true, false}
use lib.IntN.{pos, negsuc}
use lib.Dec.{T, lit<, lit≤}
use lib.Ieee.{Float, nan, inf, fin, binary64, unlike, mul, neg, fits, to_bits, of_bits}
use borrow.Author.Tests.{le-leb, lt-leb, lt-ltb, le-ltb, eq-eqb}
use Rattle.rounding.proofs.Relative.{zero+}
use Rattle.words.specs.Bits.{sign_s}
use Rattle.words.proofs.CutLaws.{sign_of_is}
use Rattle.logarithm.proofs.SpecialValues.{log_zero}
use Rattle.lgamma.specs.Plan.{Plan, Answer, size_s}
use Rattle.lgamma.specs.Plan as Plan
use Rattle.lgamma.specs.Lgamma64.{lgamma64}
use Rattle.lgamma.proofs.Poles.{Regular}
use Rattle.lgamma.proofs.SignLaw.{regular}

-- v, with the sign of the gamma function
abbrev pub plus : Float → Answer
plus v = record { value = v; sign = pos 1 }

abbrev pub minus : Float → Answer
minus v = record { value = v; sign = negsuc 0 }

pub record AnnexF (p : Plan) : Type 0 where
  pub at_nan : Plan.lgamma_s p nan ≡ plus nan
  pub at_infinity : (s : Bool) → Plan.lgamma_s p (inf s) ≡ plus (inf false)
  pub at_one : Plan.lgamma_s p p.1·0 ≡ plus zero+
  pub at_two : Plan.lgamma_s p p.2·0 ≡ plus zero+
  pub at_zero : Plan.lgamma_s p zero+ ≡ plus (inf false)
  pub at_minus_zero : Plan.lgamma_s p (fin true 0 (pos 0)) ≡ minus (inf false)

-- ---- what they ask of a plan, besides that it is regular

-- x is one of 1 and 2, by the tests
pub record OneOrTwo (p : Plan) (x : Float) : Type 0 where
  pub known : p.is_one_or_two (p.ix x) x ≡ true
  pub plus_sign : sign_s p.format x ≡ 0
  pub not_tiny : p.tiny ≤ p.ix x
  pub finite_ix : p.ix x < p.not_finite

pub record Special (p : Plan) : Type 0 where
  pub one : OneOrTwo p p.1·0
  pub two : OneOrTwo p p.2·0
  pub zero_fits : (s : Bool) → T (fits p.format (fin s 0 (pos 0)))
  pub zero_ix : (s : Bool) → p.ix (fin s 0 (pos 0)) < p.tiny
  pub log_of_zero : p.log zero+ ≡ inf true

module _ (p : Plan) (r : Regular p) where
  one_or_two : (x : Float) → OneOrTwo p x → Plan.lgamma_s p x ≡ plus zero+
  unfolding Plan.lgamma_s size_s
  one_or_two x k =
      simp (lt-leb _ _ k.finite_ix, le-ltb _ _ k.not_tiny, eq-eqb _ _ k.plus_sign, k.known) (ap plus r.zero_is)

  module _ (k : Special p) where
    finite_zero : (s : Bool) → p.ix (fin s 0 (pos 0)) < p.not_finite
    finite_zero s = r.ix_finite s 0 (pos 0) (k.zero_fits s)

    at_plus_zero : Plan.lgamma_s p zero+ ≡ plus (inf false)
    unfolding Plan.lgamma_s neg
    at_plus_zero =
        simp (lt-leb _ _ (finite_zero false), lt-ltb _ _ (k.zero_ix false), sign_of_is p.format false 0 (pos 0) (k.zero_fits false))
        (ap (λ (v : Float). plus (neg v)) k.log_of_zero)

    at_negative_zero : Plan.lgamma_s p (fin true 0 (pos 0)) ≡ minus (inf false)
    unfolding Plan.lgamma_s neg
    at_negative_zero =
        simp (lt-leb _ _ (finite_zero true), lt-ltb _ _ (k.zero_ix true), sign_of_is p.format true 0 (pos 0) (k.zero_fits true))
        (ap (λ (v : Float). minus (neg v)) k.log_of_zero)

    pub annex_f : AnnexF p
    unfolding Plan.lgamma_s mul
    annex_f = record {
      at_nan = rw (le-leb p.not_finite (p.ix nan) r.ix_nan) refl;
      at_infinity = λ s. rw (le-leb p.not_finite (p.ix (inf s)) (r.ix_inf s)) (elim s as (λ k. plus (inf (unlike k k)) ≡ plus (inf false)) [ true ↦ refl | false ↦ refl ]);
      at_one = one_or_two p.1·0 k.one;
      at_two = one_or_two p.2·0 k.two;
      at_zero = at_plus_zero;
      at_minus_zero = at_negative_zero;
    }

-- ---- lgamma_r
pub lgamma_special : AnnexF lgamma64
unfolding fits to_bits of_bits
lgamma_special = annex_f lgamma64 regular (record {
  one = record { known = refl; plus_sign = refl; not_tiny = lit≤ tt; finite_ix = lit< tt };
  two = record { known = refl; plus_sign = refl; not_tiny = lit≤ tt; finite_ix = lit< tt };
  zero_fits = λ s. tt;
  zero_ix = λ s. elim s as (λ k. lgamma64.ix (fin k 0 (pos 0)) < lgamma64.tiny) [ true ↦ lit< tt | false ↦ lit< tt ];
  log_of_zero = log_zero binary64 false;
})
