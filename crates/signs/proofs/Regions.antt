-- The sign of tgamma at a finite x = ±(m * up e) / (down e) that is no negative whole number, from the formula that gives its answer (`Course`): none
-- for an x with no minus sign (`plus_sign`); for one with a minus sign a minus where the whole part of the size is even, and none where it is odd
-- (`minus_sign`). Assumes nothing.
use mathlib.Core.Path.{◌≡◌, refl}
use mathlib.Core.List.{List, [], ◌∷◌}
use Prim.Native.Nat.{ℕ, zero, suc, ◌-◌, ◌*◌, ◌/◌, ◌%◌, ◌^◌, ◌<◌, ◌≤◌}
use native.Mathlib.Nat.{div-eq_of_lt}
use native.Mathlib.Omega.{arith}
use mathlib.Core.Bool.{Bool, true, false, ◌&&◌, cond, false≢true, true≢false}
use lib.IntN.{ℤ, pos, negsuc}
use lib.ListN.{length, get_or}
use lib.Dec.{T, eqb, ltb→lt}
use lib.Ieee.{Float, nan, inf, fin, binary64, up, down, unlike, round, div, le, fits, of_bits}
use lib.Ieee.Fits.{down_pos, and_l, and_r}
use lib.Ieee.Positive.{positive, above_of_le}
use Rattle.rounding.proofs.Signed.{Signed, round_signed, le→Le}
use Rattle.rounding.proofs.Fraction.{mul_is}
use Rattle.words.specs.F64.{◌⊗◌, ◌⊘◌, 1·0}
use Rattle.tgamma.specs.Tgamma.{FACT, x1p1023}
use Rattle.tgamma.proofs.Regions.{from_54, to184, Course, tiny, factorial, overflown, vanished, lanczos}
use Rattle.tgamma.proofs.Zeros.{vanished_even, vanished_odd}
use Rattle.signs.proofs.Positive.{lanczos_sign}
use Rattle.signs.proofs.Negative.{reflected_even, reflected_odd}

-- 1 / x has the sign of x
reciprocal : (s : Bool) (m : ℕ) (e : ℤ) → Signed s (1·0 ⊘ fin s m e)
unfolding div of_bits
reciprocal s m e = go s (eqb m 0) (1 * down e) (m * up e * 1)
  where
    go : (s b : Bool) (a c : ℕ) → Signed s (cond b (inf (unlike false s)) (round binary64 (unlike false s) a c))
    go true true a c = refl
    go true false a c = round_signed binary64 true a c
    go false true a c = refl
    go false false a c = round_signed binary64 false a c

-- a size up to 2 ^ -54 has the whole part 0
tiny_part : (m : ℕ) (e : ℤ) → T (le (fin false m e) from_54) → m * up e / down e ≡ 0
tiny_part m e h = div-eq_of_lt (less (m * up e) (down e) (down_pos e) (omega (arith, le→Le false m e false 1 (negsuc 53) h)))
  where
    less : (a d : ℕ) → 0 < d → a * 2 ^ 54 ≤ d → a < d
    less a d h k = omega arith

-- the entries of FACT are above zero
all_positive : List Float → Bool
all_positive [] = true
all_positive (x ∷ l) = positive x && all_positive l

positive_plus : (x : Float) → T (positive x) → Signed false x
positive_plus nan p = absurd p
positive_plus (inf s) p = absurd p
positive_plus (fin true m e) p = absurd p
positive_plus (fin false m e) p = refl

entry_plus : (l : List Float) → T (all_positive l) → (k : ℕ) → k < length l → Signed false (get_or l k nan)
unfolding all_positive
entry_plus [] t k h = absurd (omega arith)
entry_plus (x ∷ l) t zero h = positive_plus x (and_l (positive x) (all_positive l) t)
entry_plus (x ∷ l) t (suc k) h = entry_plus l (and_r (positive x) (all_positive l) t) k (omega arith)

fact_positive : T (all_positive FACT)
unfolding all_positive of_bits
fact_positive = tt

-- from 184 on: x * 2 ^ 1023
far_sign : (m : ℕ) (e : ℤ) → Signed false (fin false m e ⊗ x1p1023)
unfolding of_bits
far_sign m e = rw (mul_is binary64 false m e false 1 (pos 1023)) (round_signed binary64 false _ _)

-- ---- no minus sign
pub plus_sign : (m : ℕ) (e : ℤ) → T (fits binary64 (fin false m e)) → (y : Float) → Course false m e y → Signed false y
plus_sign m e F y (tiny h) = reciprocal false m e
plus_sign m e F y (factorial s q a b) = entry_plus FACT fact_positive (q - 1) (place q a b)
  where
    place : (q : ℕ) → 1 ≤ q → q ≤ 23 → q - 1 < 23
    place q h k = omega arith
plus_sign m e F y (overflown s) = far_sign m e
plus_sign m e F y (vanished s h) = absurd (false≢true s)
plus_sign m e F y (lanczos i) = lanczos_sign (fin false m e) F i

-- ---- a minus sign: what is asked of y where the whole part of the size is q
abbrev BySize : ℕ → Float → Type 0
BySize q y = (q % 2 ≡ 0 → Signed true y) × (q % 2 ≡ 1 → Signed false y)

pub minus_sign : (m : ℕ) (e : ℤ) → T (fits binary64 (fin true m e)) → (0 < m → m * up e % down e ≡ 0 → ⊥) → (y : Float) → Course true m e y
    → BySize (m * up e / down e) y
minus_sign m e F n y (tiny h) =
    ((λ (d : m * up e / down e % 2 ≡ 0). reciprocal true m e), λ (d : m * up e / down e % 2 ≡ 1). absurd (clash (m * up e / down e) (tiny_part m e h) d))
  where
    clash : (q : ℕ) → q ≡ 0 → q % 2 ≡ 1 → ⊥
    clash q z d = omega arith
minus_sign m e F n y (factorial s q a b) = absurd (true≢false s)
minus_sign m e F n y (overflown s) = absurd (true≢false s)
minus_sign m e F n y (vanished s h) = (
  (λ (d : m * up e / down e % 2 ≡ 0). unfold of_bits in rw (vanished_even m e F one broken d) refl),
  λ (d : m * up e / down e % 2 ≡ 1). unfold of_bits in rw (vanished_odd m e F one broken d) refl,
)
  where
    one : down e ≤ m * up e
    one = omega (arith, le→Le false 23 (pos 3) false m e h)

    broken : m * up e % down e ≡ 0 → ⊥
    broken = n (ltb→lt 0 m (above_of_le to184 (fin false m e) tt h))
minus_sign m e F n y (lanczos i) =
    let broken = n (ltb→lt 0 m (above_of_le from_54 (fin false m e) tt i.0)) in
    (reflected_even m e F broken i, reflected_odd m e F broken i)
