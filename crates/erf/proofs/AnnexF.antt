-- The special values of ISO C's Annex F, over the plan: `AnnexF` states them, and a `Regular` plan has them (`annex_f`). Assumes nothing.
use mathlib.Core.Path.{◌≡◌, refl, sym, ◌∙◌}
use native.Mathlib.Nat.{lt_trans}
use mathlib.Core.Bool.{Bool, true, false}
use lib.IntN.{pos}
use lib.Ieee.{nan, inf, fin, neg}
use Rattle.rounding.proofs.Relative.{zero+}
use Rattle.erf.specs.Plan.{Plan}
use Rattle.erf.specs.Plan as Plan
use Rattle.erf.proofs.ErfCode as code
use Rattle.erf.proofs.Regular.{Regular}

pub record AnnexF (p : Plan) : Type 0 where
  -- erf of either zero is that zero; of +inf 1, of -inf -1, of a NaN a NaN
  pub erf_zero : (s : Bool) → Plan.erf_s p (fin s 0 (pos 0)) ≡ fin s 0 (pos 0)
  pub erf_inf : Plan.erf_s p (inf false) ≡ p.1·0
  pub erf_minus_inf : Plan.erf_s p (inf true) ≡ neg p.1·0
  pub erf_nan : Plan.erf_s p nan ≡ nan
  -- erfc of +inf is +0, of -inf 2, of a NaN a NaN
  pub erfc_inf : Plan.erfc_s p (inf false) ≡ zero+
  pub erfc_minus_inf : Plan.erfc_s p (inf true) ≡ p.2·0
  pub erfc_nan : Plan.erfc_s p nan ≡ nan

pub annex_f : (p : Plan) → Regular p → AnnexF p
annex_f p r = record {
  erf_zero = λ s.
      sym (code.erf_tiny p refl refl (lt_trans (r.ix_zero s) (lt_trans r.small_cuts r.below_infinity)) (lt_trans (r.ix_zero s) r.small_cuts) (r.ix_zero s))
      ∙ r.at_zero s;
  erf_inf = sym (code.erf_not_finite p refl refl (r.ix_inf false)) ∙ r.erf_ends.1;
  erf_minus_inf = sym (code.erf_not_finite p refl refl (r.ix_inf true)) ∙ r.erf_ends.2;
  erf_nan = sym (code.erf_not_finite p refl refl r.ix_nan) ∙ r.erf_ends.0;
  erfc_inf = sym (code.erfc_not_finite p refl refl (r.ix_inf false)) ∙ r.erfc_ends.1;
  erfc_minus_inf = sym (code.erfc_not_finite p refl refl (r.ix_inf true)) ∙ r.erfc_ends.2;
  erfc_nan = sym (code.erfc_not_finite p refl refl r.ix_nan) ∙ r.erfc_ends.0;
}
