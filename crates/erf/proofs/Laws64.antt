-- The laws of erf and erfc in f64:
--   `erf_special`: the special values of Annex F;
--   `erf_odd`: erf(-x) is -erf(x), for every x (a NaN has no sign);
--   `erfc_mirror`: erfc(-x) is 2 - erfc(x), for an x from 0.84375 on, the infinity included.
-- Assumes nothing.
use mathlib.Core.Path.{◌≡◌, refl, sym, ◌∙◌}
use mathlib.Core.List.{[]}
use Prim.Native.Nat.{◌≤◌, ◌<◌}
use native.Mathlib.Omega.{arith}
use mathlib.Core.Bool.{true, false}
use lib.Dec.{T, lit<, lit≤}
use lib.IntN.{pos}
use lib.Ieee.{Float, inf, fin, binary64, add, sub, mul, div, neg, le, of_int, of_bits, to_bits, fits}
use Rattle.rounding.proofs.Range.{ieval, halved_test}
use Rattle.words.specs.F64.{◌⊖◌, bits}
use Rattle.erf.specs.Erf64.{erf64, erf_s, erfc_s}
use Rattle.poly.proofs.HornerExpr.{horner_e}
use Rattle.erf.proofs.SmallSum.{sum_e}
use Rattle.erf.proofs.Regular.{Regular, erf_tiny}
use Rattle.erf.proofs.AnnexF.{AnnexF, annex_f}
use Rattle.erf.proofs.Mirror as Mirror

-- the sum below 0.84375, on intervals
small_test : T (halved_test 4 binary64 erf64.tiny erf64.1·0 (sum_e erf64) [] (bits 0x3E30000000000000) (bits 0x3FEB000000000000))
unfolding halved_test ieval horner_e add mul div neg le of_bits
small_test = tt

-- 2 - tiny and 2 - tiny * tiny are both 2
less_tiny : sub binary64 erf64.2·0 erf64.tiny ≡ erf64.2·0
unfolding sub of_bits
less_tiny = refl

less_nothing : sub binary64 erf64.2·0 (mul binary64 erf64.tiny erf64.tiny) ≡ erf64.2·0
unfolding sub mul of_bits
less_nothing = refl

-- the plan of f64
regular : Regular erf64
unfolding add sub mul div neg of_int of_bits to_bits
regular = record {
  without = 32;
  ix_is = λ x. omega arith;
  infinity_is = refl;
  below_infinity = omega arith;
  eight_plus = tt;
  EFX8_plus = tt;
  tiny_plus = tt;
  one_plus = tt;
  cut_plus = tt;
  small_test = small_test;
  ix_nan = lit≤ tt;
  ix_inf = λ s. elim s as (λ t. erf64.not_finite ≤ erf64.ix (inf t)) [ true ↦ lit≤ tt | false ↦ lit≤ tt ];
  erf_ends = (refl, refl, refl);
  erfc_ends = (refl, refl, refl);
  ix_zero = λ s. elim s as (λ t. erf64.ix (fin t 0 (pos 0)) < erf64.at2^-28) [ true ↦ lit< tt | false ↦ lit< tt ];
  small_cuts = omega arith;
  at_zero = λ s. elim s as (λ t. erf_tiny erf64 (fin t 0 (pos 0)) ≡ fin t 0 (pos 0)) [ true ↦ refl | false ↦ refl ];
  far = less_tiny ∙ sym less_nothing;
  two_less_zero = refl;
}

-- the special values
pub erf_special : AnnexF erf64
erf_special = annex_f erf64 regular

-- erf(-x) has the bits of -erf(x)
pub erf_odd : (x : Float) → T (fits binary64 x) → erf_s (neg x) ≡ neg (erf_s x)
erf_odd x F = Mirror.erf_odd erf64 regular x F

-- for an x from 0.84375 on erfc(-x) has the bits of 2.0 - erfc(x)
pub erfc_mirror : (x : Float) → T (fits binary64 x) → T (le (bits 0x3FEB000000000000) x)
    → erfc_s (neg x) ≡ bits 0x4000000000000000 ⊖ erfc_s x
unfolding regular
erfc_mirror x F h = Mirror.erfc_mirror erf64 regular x F h
