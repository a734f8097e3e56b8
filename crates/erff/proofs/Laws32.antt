-- The laws of erff and erfcf:
--   `erff_special`: the special values of Annex F;
--   `erff_odd`: erff(-x) is -erff(x), for every x (a NaN has no sign);
--   `erfcf_mirror`: erfcf(-x) is 2 - erfcf(x), for an x from 0.84375 on, the infinity included.
-- Assumes nothing.
use mathlib.Core.Path.{◌≡◌, refl, sym, ◌∙◌}
use mathlib.Core.List.{[]}
use Prim.Native.Nat.{◌≤◌, ◌<◌}
use native.Mathlib.Omega.{arith}
use mathlib.Core.Bool.{true, false}
use lib.Dec.{T, lit<, lit≤}
use lib.IntN.{pos}
use lib.Ieee.{Float, inf, fin, binary32, add, sub, mul, div, neg, le, of_int, of_bits, to_bits, fits}
use Rattle.rounding.proofs.Range.{ieval, halved_test}
use Rattle.words.specs.F32.{◌⊖◌, bits}
use Rattle.poly.proofs.HornerExpr.{horner_e}
use Rattle.erf.proofs.SmallSum.{sum_e}
use Rattle.erf.proofs.Regular.{Regular, erf_tiny}
use Rattle.erf.proofs.AnnexF.{AnnexF, annex_f}
use Rattle.erf.proofs.Mirror as Mirror
use Rattle.erff.specs.Erff.{erf32, erff_s, erfcf_s}

-- the sum below 0.84375, on intervals
small_test : T (halved_test 4 binary32 erf32.tiny erf32.1·0 (sum_e erf32) [] (bits 0x31800000) (bits 0x3F580000))
unfolding halved_test ieval horner_e add mul div neg le of_bits
small_test = tt

-- 2 - tiny and 2 - tiny * tiny are both 2
less_tiny : sub binary32 erf32.2·0 erf32.tiny ≡ erf32.2·0
unfolding sub of_bits
less_tiny = refl

less_nothing : sub binary32 erf32.2·0 (mul binary32 erf32.tiny erf32.tiny) ≡ erf32.2·0
unfolding sub mul of_bits
less_nothing = refl

-- the plan of f32
regular : Regular erf32
unfolding add sub mul div neg of_int of_bits to_bits
regular = record {
  without = 0;
  ix_is = λ x. omega arith;
  infinity_is = refl;
  below_infinity = omega arith;
  eight_plus = tt;
  EFX8_plus = tt;
  tiny_plus = tt;
  one_plus = tt;
  cut_plus = tt;
  small_test = small_test;
  ix_nan = lit≤ tt;
  ix_inf = λ s. elim s as (λ t. erf32.not_finite ≤ erf32.ix (inf t)) [ true ↦ lit≤ tt | false ↦ lit≤ tt ];
  erf_ends = (refl, refl, refl);
  erfc_ends = (refl, refl, refl);
  ix_zero = λ s. elim s as (λ t. erf32.ix (fin t 0 (pos 0)) < erf32.at2^-28) [ true ↦ lit< tt | false ↦ lit< tt ];
  small_cuts = omega arith;
  at_zero = λ s. elim s as (λ t. erf_tiny erf32 (fin t 0 (pos 0)) ≡ fin t 0 (pos 0)) [ true ↦ refl | false ↦ refl ];
  far = less_tiny ∙ sym less_nothing;
  two_less_zero = refl;
}

-- the special values
pub erff_special : AnnexF erf32
erff_special = annex_f erf32 regular

-- erff(-x) has the bits of -erff(x)
pub erff_odd : (x : Float) → T (fits binary32 x) → erff_s (neg x) ≡ neg (erff_s x)
erff_odd x F = Mirror.erf_odd erf32 regular x F

-- for an x from 0.84375 on erfcf(-x) has the bits of 2.0 - erfcf(x)
pub erfcf_mirror : (x : Float) → T (fits binary32 x) → T (le (bits 0x3F580000) x)
    → erfcf_s (neg x) ≡ bits 0x40000000 ⊖ erfcf_s x
unfolding regular
erfcf_mirror x F h = Mirror.erfc_mirror erf32 regular x F h
