-- tgamma's Lanczos formula at a negative x that is no whole number, from 2 ^ -54 to 184 in size: it has a minus sign where the whole part of the size is
-- even (`reflected_even`), and none where it is odd (`reflected_odd`). Assumes nothing.
use mathlib.Core.Path.{◌≡◌, sym, subst}
use Prim.Native.Nat.{ℕ, ◌*◌, ◌/◌, ◌%◌, ◌<◌}
use mathlib.Core.Bool.{Bool, true, false}
use lib.IntN.{ℤ}
use lib.Dec.{T, ltb→lt}
use lib.Ieee.{Float, fin, binary64, fits, up, down}
use lib.Ieee.Fits.{div-fits}
use lib.Ieee.Positive.{above_of_le}
use Rattle.rounding.proofs.Signed.{Signed}
use Rattle.words.proofs.PatternLaws.{fits_any_sign}
use Rattle.sinpi.specs.Sinpi.{sinpi_s}
use Rattle.tgamma.specs.Tgamma.{MINUS_PI, lanczos_s}
use Rattle.tgamma.proofs.Regions.{from_54, Middle}
use Rattle.tgamma.proofs.Formula.{r_of, quotient, lanczos_minus}
use Rattle.signs.proofs.LanczosRange.{r_range}
use Rattle.signs.proofs.Correction.{Sized}
use Rattle.signs.proofs.LastLine.{last_keeps}
use Rattle.signs.proofs.Reflection.{quotient_even, quotient_odd}

module _ (m : ℕ) (e : ℤ) (F : T (fits binary64 (fin true m e))) (broken : m * up e % down e ≡ 0 → ⊥) (i : Middle (fin false m e)) where
  abbrev x : Float
  x = fin false m e

  F' : T (fits binary64 (fin false m e))
  F' = fits_any_sign binary64 true false m e F

  above_zero : 0 < m
  above_zero = ltb→lt 0 m (above_of_le from_54 x tt i.0)

  -- the lines from the correction of r on keep the sign of the reflection's quotient
  reflected : (s : Bool) → Sized s (quotient (sinpi_s x) x (r_of x)) → Signed s (lanczos_s (fin true m e) 1)
  reflected s q =
      subst (Signed s) (sym (lanczos_minus m e above_zero)) (last_keeps x F' i s (quotient (sinpi_s x) x (r_of x)) (div-fits binary64 MINUS_PI _) q).1

  -- an even whole part
  pub reflected_even : m * up e / down e % 2 ≡ 0 → Signed true (lanczos_s (fin true m e) 1)
  reflected_even d = reflected true (quotient_even m e (r_of x) F' i (r_range x i) broken d)

  -- an odd whole part
  pub reflected_odd : m * up e / down e % 2 ≡ 1 → Signed false (lanczos_s (fin true m e) 1)
  reflected_odd d = reflected false (quotient_odd m e (r_of x) F' i (r_range x i) broken d)
