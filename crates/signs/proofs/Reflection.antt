-- The quotient of tgamma's reflection, -PI / (sinpi(x) x r), for an x from 2 ^ -54 to 184 that is no whole number and an r from 2 ^ -340 to 2 ^ 100:
-- finite, of a size from 2 ^ -600 to 2 ^ 600 (`Sized`), with a minus sign where the whole part of x is even (`quotient_even`) and with none where it is
-- odd (`quotient_odd`). By intervals, from the size of sinpi. Assumes nothing.
use mathlib.Core.Path.{◌≡◌, refl, subst}
use mathlib.Core.List.{List, [], ◌∷◌}
use Prim.Native.Nat.{ℕ, ◌*◌, ◌/◌, ◌%◌}
use mathlib.Core.Bool.{true, false}
use lib.IntN.{ℤ}
use lib.Dec.{T}
use lib.Ieee.{Float, fin, binary64, mul, div, neg, le, fits, of_bits, up, down}
use Rattle.rounding.proofs.Signed.{le_neg}
use Rattle.rounding.proofs.Odd.{neg_neg}
use Rattle.rounding.proofs.Interval.{Interval, some}
use Rattle.rounding.proofs.Range.{Expr, var, con, times, over, eval, ieval, In, Env, range_test, range}
use Rattle.sinpi.specs.Sinpi.{sinpi_s}
use Rattle.sinpi.proofs.SizeLaws as Size
use Rattle.sinpi.proofs.SizeLaws.{sinpi_size}
use Rattle.trig.proofs.CosineRange.{two}
use Rattle.tgamma.specs.Tgamma.{MINUS_PI}
use Rattle.tgamma.proofs.Regions.{from_54, to184, Middle}
use Rattle.tgamma.proofs.Formula.{quotient}
use Rattle.signs.proofs.LanczosRange.{over_340, under100}
use Rattle.signs.proofs.Correction.{small, large, Sized}

-- r from 2 ^ -340 to 2 ^ 100
abbrev pub Factor : Float → Type 0
Factor r = In over_340 under100 r

-- a change of sign and back, of a range
back : (a b x : Float) → In a b (neg x) → In (neg b) (neg a) x
back a b x i = subst (In (neg b) (neg a)) (neg_neg x) (le_neg (neg x) b i.1, le_neg a (neg x) i.0)

-- ---- the quotient

quot_e : Expr
quot_e = over (con MINUS_PI) (times (times (var 0) (var 1)) (var 2))

ranges : List Interval
ranges = some from_54 to184 ∷ some over_340 under100 ∷ []

quot_is : (v x r : Float) → eval binary64 (v ∷ x ∷ r ∷ []) quot_e ≡ quotient v x r
unfolding eval quot_e
quot_is v x r = refl

env : (x r : Float) → Middle x → Factor r → Env ranges (x ∷ r ∷ [])
unfolding ranges
env x r i j = ((tt, tt, i.0, i.1), ((tt, tt, j.0, j.1), tt))

plus_test : T (range_test binary64 (neg large) (neg small) quot_e ranges Size.bottom two)
unfolding quot_e ranges ieval mul div le neg of_bits
plus_test = tt

minus_test : T (range_test binary64 small large quot_e ranges (neg two) (neg Size.bottom))
unfolding quot_e ranges ieval mul div le neg of_bits
minus_test = tt

-- v above zero: a minus sign
quotient_minus : (v x r : Float) → In Size.bottom two v → Middle x → Factor r → Sized true (quotient v x r)
quotient_minus v x r h i j =
    subst (In (neg large) (neg small)) (quot_is v x r)
    (range binary64 (neg large) (neg small) quot_e ranges (x ∷ r ∷ []) Size.bottom two v plus_test (env x r i j) h)

-- v below zero: no minus sign
quotient_plus : (v x r : Float) → In Size.bottom two (neg v) → Middle x → Factor r → Sized false (quotient v x r)
quotient_plus v x r h i j =
    subst (In small large) (quot_is v x r)
    (range binary64 small large quot_e ranges (x ∷ r ∷ []) (neg two) (neg Size.bottom) v minus_test (env x r i j) (back Size.bottom two v h))

-- ---- the theorems: x is no whole number
module _ (m : ℕ) (e : ℤ) (r : Float) (F : T (fits binary64 (fin false m e))) (i : Middle (fin false m e)) (j : Factor r)
    (broken : m * up e % down e ≡ 0 → ⊥) where
  from_start : T (le Size.start (fin false m e))
  unfolding of_bits
  from_start = i.0

  -- an even whole part
  pub quotient_even : m * up e / down e % 2 ≡ 0 → Sized true (quotient (sinpi_s (fin false m e)) (fin false m e) r)
  quotient_even d = quotient_minus (sinpi_s (fin false m e)) (fin false m e) r ((sinpi_size m e F from_start broken).0 d) i j

  -- an odd whole part
  pub quotient_odd : m * up e / down e % 2 ≡ 1 → Sized false (quotient (sinpi_s (fin false m e)) (fin false m e) r)
  quotient_odd d = quotient_plus (sinpi_s (fin false m e)) (fin false m e) r ((sinpi_size m e F from_start broken).1 d) i j
