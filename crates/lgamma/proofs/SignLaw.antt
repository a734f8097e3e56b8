-- The sign that lgamma_r reports, for every finite argument: -1 exactly where the argument carries a minus sign, is zero or no whole number, and the
-- whole part of its size is even. A finite argument is ±(m * up e) / (down e): it is whole where that leaves no remainder, and the whole part of its
-- size is the quotient. `lgamma_sign` says it of every argument at once.
-- Assumes nothing.
use mathlib.Core.Path.{◌≡◌, refl}
use Prim.Native.Nat.{ℕ, ◌*◌, ◌/◌, ◌%◌, ◌<◌, ◌≤◌}
use native.Mathlib.Omega.{arith}
use mathlib.Core.Bool.{true, false}
use lib.Dec.{T, lit<, lit≤}
use lib.IntN.{ℤ, pos, negsuc}
use lib.Ieee.{Float, fin, inf, binary64, div, fits, to_bits, of_bits, up, down}
use Rattle.words.proofs.CutLaws.{word_under, from_word, upto_word}
use Rattle.sinpi.proofs.SignLaws.{sinpi_even, sinpi_odd, sinpi_whole}
use Rattle.lgamma.specs.Lgamma64.{lgamma64, lgamma_s}
use Rattle.lgamma.proofs.Poles.{Regular}
use Rattle.lgamma.proofs.PlanSigns as Plan
use Rattle.lgamma.proofs.PlanSigns.{sign_of}

pub regular : Regular lgamma64
unfolding to_bits of_bits div
regular = record {
  ix_nan = lit≤ tt;
  ix_inf = λ s. elim s as (λ k. lgamma64.not_finite ≤ lgamma64.ix (inf k)) [ true ↦ lit≤ tt | false ↦ lit≤ tt ];
  ix_finite = word_under;
  n = 69;
  upto_tiny = λ m e F h. upto_word true m e F 0x3B90000000000000 (lit< tt) h;
  from_tiny = λ m e F h. from_word true m e F 0x3B90000000000000 (omega arith);
  sine_whole = sinpi_whole;
  sine_even = sinpi_even;
  sine_odd = sinpi_odd;
  zero_is = refl;
  one_by_zero = refl;
}

-- ---- no minus sign: +1
pub plus : (m : ℕ) (e : ℤ) → T (fits binary64 (fin false m e)) → (lgamma_s (fin false m e)).sign ≡ pos 1
plus m e F = Plan.plus lgamma64 regular m e F

-- ---- a minus sign
-- a negative whole number is a pole: +inf, and the sign +1
pub at_pole : (m : ℕ) (e : ℤ) → T (fits binary64 (fin true m e)) → 0 < m → m * up e % down e ≡ 0
    → lgamma_s (fin true m e) ≡ record { value = inf false; sign = pos 1 }
at_pole m e F = Plan.at_pole lgamma64 regular m e F

-- -1 at -0
pub minus_zero : (e : ℤ) → T (fits binary64 (fin true 0 e)) → (lgamma_s (fin true 0 e)).sign ≡ negsuc 0
minus_zero e F = Plan.minus_zero lgamma64 regular 0 e F refl

-- elsewhere -1 where the whole part of the size is even
pub minus_even : (m : ℕ) (e : ℤ) → T (fits binary64 (fin true m e)) → (m * up e % down e ≡ 0 → ⊥) → m * up e / down e % 2 ≡ 0
    → (lgamma_s (fin true m e)).sign ≡ negsuc 0
minus_even m e F = Plan.minus_even lgamma64 regular m e F

-- and +1 where it is odd
pub minus_odd : (m : ℕ) (e : ℤ) → T (fits binary64 (fin true m e)) → 0 < m → (m * up e % down e ≡ 0 → ⊥) → m * up e / down e % 2 ≡ 1
    → (lgamma_s (fin true m e)).sign ≡ pos 1
minus_odd m e F = Plan.minus_odd lgamma64 regular m e F

-- ---- every argument: the sign depends on nothing but the value
pub lgamma_sign : (x : Float) → T (fits binary64 x) → (lgamma_s x).sign ≡ sign_of x
lgamma_sign x F = Plan.sign_is lgamma64 regular x F
