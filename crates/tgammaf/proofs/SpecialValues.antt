-- tgammaf at the values that ISO C's Annex F names, as `AnnexF` of tgamma/proofs/SpecialValues states them, every negative whole number among them:
-- `tgammaf_special`. Assumes nothing.
use mathlib.Core.Path.{ap}
use lib.Ieee.{binary32}
use lib.Ieee.Fits.{fits_widens}
use Rattle.narrow.specs.Narrow.{narrow_s}
use Rattle.tgamma.proofs.SpecialValues.{AnnexF, tgamma_special}
use Rattle.tgammaf.specs.Tgammaf.{tgammaf_s}

pub tgammaf_special : AnnexF binary32 tgammaf_s
unfolding tgammaf_s narrow_s
tgammaf_special = record {
  at_zero = λ s. ap narrow_s (tgamma_special.at_zero s);
  at_infinity = ap narrow_s tgamma_special.at_infinity;
  at_minus_infinity = ap narrow_s tgamma_special.at_minus_infinity;
  at_nan = ap narrow_s tgamma_special.at_nan;
  at_negative_whole = λ m e F p h. ap narrow_s (tgamma_special.at_negative_whole m e (fits_widens _ F) p h);
}
