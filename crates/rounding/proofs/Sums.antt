-- f64 values in units of 2 ^ -1074, and their sums:
--   `in-units`: a value of at most k in size is ±X units, X at most k * 2 ^ 1074; `within`: a value of ±X / L lies from -a / b to a / b;
--   `sum_near`, `difference-near`: a sum, or a difference, of values of at most 4000 in size together is off by half of 2 ^ 1033 units at most;
--   `size-of-sum`, `size-of-difference`: so it is at most so much more than the sum of the sizes; `one_side`: a value near zero is small.
-- Assumes nothing.
use Prim.Native.Nat.{ℕ, ◌+◌, ◌*◌, ◌^◌, ◌≤◌, ◌<◌}
use mathlib.Core.Path.{refl, sym, subst}
use mathlib.Core.Bool.{Bool, true, false, not}
use native.Mathlib.Omega.{arith}
use native.Mathlib.Nat.{lt_of_le_of_lt, zero-mul}
use lib.Dec.{T, lit<}
use lib.Ieee.{Float, nan, inf, fin, binary64, neg, add, sub, fits}
use lib.Ieee.Exact.{HasValue}
use lib.Ieee.Scale.{finite}
use Rattle.rounding.proofs.Signed.{P, N, Le, le_of_signed, signed_of_le, value_finite, value_neg}
use Rattle.rounding.proofs.Order.{between_finite, neg_finite}
use Rattle.rounding.proofs.Fraction.{sub_is}
use Rattle.rounding.proofs.Grid.{on_grid}
use Rattle.rounding.proofs.Error.{NearSum, add_near}
use Rattle.rounding.proofs.Range.{In}

-- ---- a range and a number of units

-- a value of at most c = k in size is ±X units
pub in_units : (x c : Float) (k : ℕ) → HasValue c false k 1 → T (fits binary64 x) → In (neg c) c x
    → (s : Bool) × (X : ℕ) × HasValue x s X (2 ^ 1074) × (X ≤ k * 2 ^ 1074)
in_units x c k v F i = go x F i (between_finite (neg c) x c (neg_finite c (value_finite c false k 1 v)) (value_finite c false k 1 v) i.0 i.1)
  where
    upper : (A k L : ℕ) → A * 1 + 0 * L ≤ k * L + 0 * 1 → A ≤ k * L
    upper A k L h = omega arith

    lower : (A k L : ℕ) → 0 * L + A * 1 ≤ 0 * 1 + k * L → A ≤ k * L
    lower A k L h = omega arith

    go : (x : Float) → T (fits binary64 x) → In (neg c) c x → T (finite x) → (s : Bool) × (X : ℕ) × HasValue x s X (2 ^ 1074) × (X ≤ k * 2 ^ 1074)
    go nan F i X = absurd X
    go (inf _) F i X = absurd X
    go (fin false m e) F i X =
        let g = on_grid binary64 false m e F in
        let A = m * 2 ^ g.0 in
        let w : HasValue (fin false m e) false A (2 ^ 1074) = (refl, g.1.0) in
        (false, A, w, upper A k (2 ^ 1074) (signed_of_le (fin false m e) c false A (2 ^ 1074) false k 1 w v i.1))
    go (fin true m e) F i X =
        let g = on_grid binary64 true m e F in
        let A = m * 2 ^ g.0 in
        let w : HasValue (fin true m e) true A (2 ^ 1074) = (refl, g.1.0) in
        (true, A, w, lower A k (2 ^ 1074) (signed_of_le (neg c) (fin true m e) true k 1 true A (2 ^ 1074) (value_neg c false k 1 v) w i.0))

-- ±X / L, where that is at most c = a / b in size
pub within : (x c : Float) (s : Bool) (X L a b : ℕ) → 0 < L → 0 < b → HasValue x s X L → HasValue c false a b → X * b ≤ a * L → In (neg c) c x
within x c s X L a b U B v w h =
    (le_of_signed (neg c) x true a b s X L B U (value_neg c false a b w) v (over s), le_of_signed x c s X L false a b U B v w (under s))
  where
    over : (s : Bool) → Le true a b s X L
    over false = omega (arith, zero-mul L, zero-mul b)
    over true = omega (arith, zero-mul L, zero-mul b)

    under : (s : Bool) → Le s X L false a b
    under false = omega (arith, zero-mul L, zero-mul b)
    under true = omega (arith, zero-mul L, zero-mul b)

-- ---- sums and differences
pub sum_near : (x y : Float) (s : Bool) (X : ℕ) (t : Bool) (Y : ℕ) → HasValue x s X (2 ^ 1074) → HasValue y t Y (2 ^ 1074) → X + Y ≤ 4000 * 2 ^ 1074
    → (u : Bool) × (G : ℕ) × HasValue (add binary64 x y) u G (2 ^ 1074) × NearSum u G s X t Y (2 ^ 1033)
sum_near x y s X t Y v w h =
    add_near binary64 x y s X t Y 1033 v w (lt_of_le_of_lt h (lit< tt)) (lt_of_le_of_lt (more (X + Y) (4000 * 2 ^ 1074) (2 ^ 1033) h) (lit< tt))
  where
    more : (a b c : ℕ) → a ≤ b → a + c ≤ b + c
    more a b c h = omega arith

-- ±G lies within E / 2 of the difference of ±X and ±Y
abbrev pub NearDifference : Bool → ℕ → Bool → ℕ → Bool → ℕ → ℕ → Type 0
NearDifference u G s X t Y E =
    (2 * (P u G + (N s X + P t Y)) ≤ 2 * (N u G + (P s X + N t Y)) + E)
    × (2 * (N u G + (P s X + N t Y)) ≤ 2 * (P u G + (N s X + P t Y)) + E)

turned : (u : Bool) (G : ℕ) (s : Bool) (X : ℕ) (t : Bool) (Y E : ℕ) → NearSum u G s X (not t) Y E → NearDifference u G s X t Y E
turned u G s X false Y E h = h
turned u G s X true Y E h = h

pub difference_near : (x y : Float) (s : Bool) (X : ℕ) (t : Bool) (Y : ℕ) → HasValue x s X (2 ^ 1074) → HasValue y t Y (2 ^ 1074) → X + Y ≤ 4000 * 2 ^ 1074
    → (u : Bool) × (G : ℕ) × HasValue (sub binary64 x y) u G (2 ^ 1074) × NearDifference u G s X t Y (2 ^ 1033)
difference_near x y s X t Y v w h =
    let k = sum_near x (neg y) s X (not t) Y v (value_neg y t Y (2 ^ 1074) w) h in
    (k.0, k.1, subst (λ (z : Float). HasValue z k.0 k.1 (2 ^ 1074)) (sym (sub_is binary64 x y)) k.2, turned k.0 k.1 s X t Y (2 ^ 1033) k.3)

-- ---- their sizes
pub size_of_difference : (u : Bool) (G : ℕ) (s : Bool) (X : ℕ) (t : Bool) (Y E : ℕ) → NearDifference u G s X t Y E → 2 * G ≤ 2 * (X + Y) + E
size_of_difference false G false X false Y E h = omega arith
size_of_difference false G false X true Y E h = omega arith
size_of_difference false G true X false Y E h = omega arith
size_of_difference false G true X true Y E h = omega arith
size_of_difference true G false X false Y E h = omega arith
size_of_difference true G false X true Y E h = omega arith
size_of_difference true G true X false Y E h = omega arith
size_of_difference true G true X true Y E h = omega arith

pub size_of_sum : (u : Bool) (G : ℕ) (s : Bool) (X : ℕ) (t : Bool) (Y E : ℕ) → NearSum u G s X t Y E → 2 * G ≤ 2 * (X + Y) + E
size_of_sum u G s X false Y E h = size_of_difference u G s X true Y E h
size_of_sum u G s X true Y E h = size_of_difference u G s X false Y E h

-- ±X, within K / 2 of zero on either side
pub one_side : (s : Bool) (X K : ℕ) → 2 * P s X ≤ 2 * N s X + K → 2 * N s X ≤ 2 * P s X + K → 2 * X ≤ K
one_side false X K a b = omega arith
one_side true X K a b = omega arith
