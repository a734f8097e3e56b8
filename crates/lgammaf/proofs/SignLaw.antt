-- The plan of lgammaf_r is regular, so that what lgamma/proofs/PlanSigns says of the sign holds in f32: it depends on nothing but the value
-- (`lgammaf_sign`), and every negative whole number is a pole (`lgammaf_pole`). Assumes nothing.
use Rattle.std.proofs.Common.{◌≡◌, ℕ, ◌*◌, ◌%◌, ◌<◌, ◌≤◌, true, false, T, ℤ, pos, refl, le_of_lt, lit<, lit≤}
use lib.Ieee.{Float, inf, fin, binary32, up, down, div, fits, to_bits, of_bits}
use Rattle.words.proofs.CutLaws.{size_under, from_bits, upto_bits}
use Rattle.sinpi.proofs.SignLawsf.{sinpif_even, sinpif_odd, sinpif_whole}
use Rattle.lgamma.proofs.Poles.{Regular}
use Rattle.lgamma.proofs.PlanSigns as Plan
use Rattle.lgamma.proofs.PlanSigns.{sign_of}
use Rattle.lgammaf.specs.Lgammaf.{lgamma32, lgammaf_s}

pub regular : Regular lgamma32
unfolding to_bits of_bits div
regular = record {
  ix_nan = lit≤ tt;
  ix_inf = λ s. elim s as (λ k. lgamma32.not_finite ≤ lgamma32.ix (inf k)) [ true ↦ lit≤ tt | false ↦ lit≤ tt ];
  ix_finite = size_under binary32;
  n = 20;
  upto_tiny = λ m e F h. upto_bits binary32 true m e F 0x35000000 (lit< tt) (le_of_lt h);
  from_tiny = λ m e F h. from_bits binary32 true m e F 0x35000000 h;
  sine_whole = sinpif_whole;
  sine_even = sinpif_even;
  sine_odd = sinpif_odd;
  zero_is = refl;
  one_by_zero = refl;
}

-- ---- every argument: the sign depends on nothing but the value
pub lgammaf_sign : (x : Float) → T (fits binary32 x) → (lgammaf_s x).sign ≡ sign_of x
lgammaf_sign x F = Plan.sign_is lgamma32 regular x F

-- ---- a negative whole number is a pole: +inf, and the sign +1
pub lgammaf_pole : (m : ℕ) (e : ℤ) → T (fits binary32 (fin true m e)) → 0 < m → m * up e % down e ≡ 0
    → lgammaf_s (fin true m e) ≡ record { value = inf false; sign = pos 1 }
lgammaf_pole m e F = Plan.at_pole lgamma32 regular m e F
