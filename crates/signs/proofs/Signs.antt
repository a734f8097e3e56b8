-- THE THEOREM, in the words of specs/Promises: for every finite f64 x that is no negative whole number, tgamma(x) is no NaN (`no_nan`), and its sign bit is
-- set exactly where lgamma_r(x) reports the sign -1 (`same_sign`), which is exactly where x carries a minus sign and the whole part of its size is even
-- (`sign_rule`). lgamma_r reports +1 or -1 for every f64, the infinities and the NaN included (`reports`). At a negative whole number tgamma is NaN and
-- lgamma_r reports +1 (`at_poles`). And the same in f32, of tgammaf with lgammaf_r (the same names with _f32), an answer that overflows or vanishes
-- included; its sign is lgamma_r's of the same number, too (`same_sign_wide`). tgamma_s, lgamma_s, tgammaf_s and lgammaf_s are the definitions that the
-- functions are proved to equal. Assumes nothing.
use mathlib.Core.Path.{◌≡◌, sym, ap, subst}
use mathlib.Core.Logic.{◌⊎◌, inl, inr}
use lib.IntN.{ℤ, pos, negsuc}
use lib.Ieee.{nan, inf, fin, binary32, binary64}
use lib.Ieee.Fits.{fits_widens}
use Rattle.lgamma.specs.Plan.{Answer}
use Rattle.lgamma.specs.Lgamma64.{lgamma_s}
use Rattle.lgamma.proofs.SignLaw.{at_pole}
use Rattle.lgamma.proofs.SpecialValues.{lgamma_special}
use Rattle.lgammaf.specs.Lgammaf.{lgammaf_s}
use Rattle.lgammaf.proofs.SameSign as Single
use Rattle.lgammaf.proofs.SignLaw.{lgammaf_pole}
use Rattle.tgamma.specs.Tgamma.{tgamma_s}
use Rattle.tgamma.proofs.Fits.{tgamma_fits}
use Rattle.tgamma.proofs.SpecialValues.{tgamma_special}
use Rattle.tgammaf.specs.Tgammaf.{tgammaf_s}
use Rattle.tgammaf.proofs.Narrowed.{tgammaf_fits}
use Rattle.tgammaf.proofs.SpecialValues.{tgammaf_special}
use Rattle.signs.specs.Promises.{NoNan, SameSign, SignRule, AtPoles, Reports}
use Rattle.signs.proofs.Cases.{case, case_f32, case_wide, from_cases, poles_of, code_is, decide}

-- 1. tgamma(x) is no NaN
pub no_nan : NoNan binary64 tgamma_s
no_nan = (from_cases binary64 tgamma_s lgamma_s tgamma_fits case).no_nan

-- 2. its sign bit is set exactly where lgamma_r(x) reports -1
pub same_sign : SameSign binary64 tgamma_s lgamma_s
same_sign = (from_cases binary64 tgamma_s lgamma_s tgamma_fits case).same_sign

-- 3. that sign is minus exactly where x carries a minus sign and the whole part of its size is even
pub sign_rule : SignRule binary64 tgamma_s
sign_rule = (from_cases binary64 tgamma_s lgamma_s tgamma_fits case).sign_rule

-- at a negative whole number
pub at_poles : AtPoles binary64 tgamma_s lgamma_s
at_poles = poles_of binary64 tgamma_s lgamma_s tgamma_special at_pole

-- lgamma_r reports +1 or -1, and nothing else
pub reports : Reports binary64 lgamma_s
reports nan F = inl (ap (λ (a : Answer). a.sign) lgamma_special.at_nan)
reports (inf s) F = inl (ap (λ (a : Answer). a.sign) (lgamma_special.at_infinity s))
reports (fin s m e) F =
    elim (decide (fin s m e)) [
      | inl h ↦ inl (ap (λ (a : Answer). a.sign) (at_poles (fin s m e) F h).1)
      | inr n ↦ let c = case (fin s m e) F tt n in code_is c.sign _ c.log
    ]

-- ---- in f32

-- 1. tgammaf(x) is no NaN
pub no_nan_f32 : NoNan binary32 tgammaf_s
no_nan_f32 = (from_cases binary32 tgammaf_s lgammaf_s tgammaf_fits case_f32).no_nan

-- 2. its sign bit is set exactly where lgammaf_r(x) reports -1, and where lgamma_r(x) does
pub same_sign_f32 : SameSign binary32 tgammaf_s lgammaf_s
same_sign_f32 = (from_cases binary32 tgammaf_s lgammaf_s tgammaf_fits case_f32).same_sign

pub same_sign_wide : SameSign binary32 tgammaf_s lgamma_s
same_sign_wide = (from_cases binary32 tgammaf_s lgamma_s tgammaf_fits case_wide).same_sign

-- 3. that sign is minus exactly where x carries a minus sign and the whole part of its size is even
pub sign_rule_f32 : SignRule binary32 tgammaf_s
sign_rule_f32 = (from_cases binary32 tgammaf_s lgammaf_s tgammaf_fits case_f32).sign_rule

-- at a negative whole number
pub at_poles_f32 : AtPoles binary32 tgammaf_s lgammaf_s
at_poles_f32 = poles_of binary32 tgammaf_s lgammaf_s tgammaf_special lgammaf_pole

-- lgammaf_r reports +1 or -1, and nothing else
pub reports_f32 : Reports binary32 lgammaf_s
reports_f32 x F =
    subst (λ (z : ℤ). (z ≡ pos 1) ⊎ (z ≡ negsuc 0)) (sym (Single.same_sign x F)) (reports x (fits_widens x F))
