-- For each multiple k = -(j + 1) of ln 2, j from 7 to 274: the arguments that are reduced to k lie between two ends (`over_low`, `under_high`),
-- and there exp's answer for k lies from 2 ^ -300 to 1 (`cell_range`). The ends and what is needed of them are tested for all j. Assumes nothing.
use Rattle.std.proofs.Common.{◌≡◌, ℕ, zero, suc, ◌+◌, ◌-◌, ◌*◌, ◌<◌, ◌≤◌, Bool, true, false, not, ◌&&◌, T, List, [], ◌∷◌, pos, negsuc, sym, refl, subst, inl, inr, eq-or-lt_of_le, arith, lit≤, T_not, le-ltb, ne_eqb}
use lib.Ieee.{Float, fin, binary64, of_bits, add, sub, mul, le, of_int}
use lib.Ieee.Fits.{and_l, and_r}
use lib.Ieee.Scale.{finite}
use Rattle.rounding.proofs.Order.{le_refl, le_trans, le_total}
use Rattle.rounding.proofs.Fraction.{mul_commutes}
use Rattle.rounding.proofs.Monotone.{add_mono, mul_mono_plus}
use Rattle.rounding.proofs.Interval.{Interval, some}
use Rattle.rounding.proofs.Range.{Expr, var, con, minus, times, eval, ieval, In, range_test, range}
use Rattle.words.specs.F64.{◌⊕◌, ◌⊖◌, ◌⊗◌}
use Rattle.whole.proofs.WholeBounds.{number}
use Rattle.scalbn.specs.Scalbn.{power2, scalbn_s}
use Rattle.scalbn.proofs.OneProduct.{one_product, power_le}
use Rattle.exp.specs.Plan.{primary_s, reduced_s}
use Rattle.exp.specs.Exp.{exp64}
use Rattle.exp.proofs.Unscaled.{unscaled, unscaled_range, hi_min, hi_max, lo_min, lo_max, quarter, four}

-- INVLN2 * x, and what k is the whole part of, for an x below 0
unfoldable pub product : Float → Float
product x = exp64.INVLN2 ⊗ x

unfoldable pub quotient : Float → Float
unfolding product
quotient x = product x ⊕ exp64.-0·5

-- k as a float
unfoldable multiple : ℕ → Float
multiple j = of_int binary64 (negsuc j)

-- the ends, in units of 2 ^ -20: a little past (k - 1/2) ln 2 and (k + 1/2) ln 2
abbrev pub low_end : ℕ → Float
low_end j = fin true ((2 * j + 3) * 363409 + 64) (negsuc 19)

abbrev pub high_end : ℕ → Float
high_end j = fin true ((2 * j + 1) * 363408 - 64) (negsuc 19)

-- ---- tests of every j
-- p holds from j to j + n - 1
all : (ℕ → Bool) → ℕ → ℕ → Bool
all p zero j = true
all p (suc n) j = p j && all p n (suc j)

-- a test of all from j to j + n - 1 is one of each
all_holds : (p : ℕ → Bool) (n j i : ℕ) → T (all p n j) → j ≤ i → i < j + n → T (p i)
unfolding all
all_holds p zero j i t h k = absurd (none h k)
  where
    none : j ≤ i → i < j + 0 → ⊥
    none h k = omega arith
all_holds p (suc n) j i t h k =
    elim (eq-or-lt_of_le h) [
      | inl e ↦ subst (λ (z : ℕ). T (p z)) e (and_l (p j) (all p n (suc j)) t)
      | inr l ↦ all_holds p n (suc j) i (and_r (p j) (all p n (suc j)) t) l (omega arith)
    ]

-- the products at the ends are finite
are_ends_finite : ℕ → Bool
are_ends_finite j = finite (product (low_end j)) && finite (product (high_end j))

-- at the low end the quotient is at most k - 1, and at the high end above k
is_low_ok : ℕ → Bool
is_low_ok j = le (quotient (low_end j)) (number true (suc (suc j)))

is_high_ok : ℕ → Bool
is_high_ok j = not (le (quotient (high_end j)) (number true (suc j)))

-- hi and lo as data: in hi x is variable 0 and k variable 1, in lo k is variable 0
hi_e : Expr
hi_e = minus (var 0) (times (var 1) (con exp64.LN2HI))

lo_e : Expr
lo_e = times (var 0) (con exp64.LN2LO)

is_hi_ok : ℕ → Bool
is_hi_ok j = range_test binary64 hi_min hi_max hi_e (some (multiple j) (multiple j) ∷ []) (low_end j) (high_end j)

is_lo_ok : ℕ → Bool
is_lo_ok j = finite (multiple j) && range_test binary64 lo_min lo_max lo_e [] (multiple j) (multiple j)

finite_ends : T (all are_ends_finite 268 7)
unfolding all are_ends_finite product of_bits mul
finite_ends = tt

low_ok : T (all is_low_ok 268 7)
unfolding all is_low_ok quotient product of_bits add mul le
low_ok = tt

high_ok : T (all is_high_ok 268 7)
unfolding all is_high_ok quotient product of_bits add mul le
high_ok = tt

hi_ok : T (all is_hi_ok 268 7)
unfolding all is_hi_ok hi_e multiple ieval of_bits of_int sub mul le
hi_ok = tt

lo_ok : T (all is_lo_ok 268 7)
unfolding all is_lo_ok lo_e multiple ieval of_bits of_int mul le
lo_ok = tt

-- ---- an argument that is reduced to k lies between the ends
product_mono : (x y : Float) → T (finite x) → T (finite y) → T (le x y) → T (le (product x) (product y))
unfolding product of_bits
product_mono x y X Y h =
    rw (mul_commutes binary64 exp64.INVLN2 x, mul_commutes binary64 exp64.INVLN2 y)
    (mul_mono_plus binary64 x y 3248660424278399 (negsuc 50) X Y h)

quotient_mono : (x y : Float) → T (finite x) → T (finite y) → T (finite (product x)) → T (finite (product y)) → T (le x y)
    → T (le (quotient x) (quotient y))
unfolding quotient of_bits
quotient_mono x y X Y U W h =
    add_mono binary64 (product x) (product y) exp64.-0·5 exp64.-0·5 U W tt tt (product_mono x y X Y h) (le_refl exp64.-0·5 tt)

module _ (j : ℕ) (from : 7 ≤ j) (upto : j ≤ 274) where
  here : (p : ℕ → Bool) → T (all p 268 7) → T (p j)
  here p t = all_holds p 268 7 j t from (omega arith)

  ends : T (finite (product (low_end j))) × T (finite (product (high_end j)))
  unfolding are_ends_finite
  ends =
      let t = here are_ends_finite finite_ends in
      (and_l (finite (product (low_end j))) (finite (product (high_end j))) t, and_r (finite (product (low_end j))) (finite (product (high_end j))) t)

  module _ (x : Float) (X : T (finite x)) (U : T (finite (product x))) where
    -- above k - 1, so from the low end on
    pub over_low : (T (le (quotient x) (number true (suc (suc j)))) → ⊥) → T (le (low_end j) x)
    unfolding is_low_ok
    over_low short = go (le x (low_end j)) refl
      where
        go : (b : Bool) → le x (low_end j) ≡ b → T (le (low_end j) x)
        go true e =
            absurd (short (le_trans (quotient x) (quotient (low_end j)) (number true (suc (suc j)))
            (quotient_mono x (low_end j) X tt U ends.0 (subst T (sym e) tt)) (here is_low_ok low_ok)))
        go false e = le_total x (low_end j) X tt (subst (λ (z : Bool). T (not z)) (sym e) tt)

    -- at most k, so up to the high end
    pub under_high : T (le (quotient x) (number true (suc j))) → T (le x (high_end j))
    unfolding is_high_ok
    under_high reached = go (le x (high_end j)) refl
      where
        go : (b : Bool) → le x (high_end j) ≡ b → T (le x (high_end j))
        go true e = subst T (sym e) tt
        go false e =
            let above = le_total x (high_end j) X tt (subst (λ (z : Bool). T (not z)) (sym e) tt) in
            absurd (T_not (le (quotient (high_end j)) (number true (suc j))) (here is_high_ok high_ok)
            (le_trans (quotient (high_end j)) (quotient x) (number true (suc j)) (quotient_mono (high_end j) x tt X ends.1 U above) reached))

-- ---- the answer for k
-- 2 ^ -300 and 1
abbrev pub least : Float
least = fin false 1 (negsuc 299)

abbrev pub one : Float
one = fin false 1 (pos 0)

-- the product as data: y is variable 0 and the power of 2 variable 1
scale_e : Expr
scale_e = times (var 0) (var 1)

abbrev powers : List Interval
powers = some (power2 binary64 (negsuc 274)) (power2 binary64 (negsuc 7)) ∷ []

scale_test : T (range_test binary64 least one scale_e powers quarter four)
unfolding scale_e ieval of_bits mul le
scale_test = tt

-- y times 2 ^ -(j + 1)
scale_range : (j : ℕ) (y : Float) → 7 ≤ j → j ≤ 274 → In quarter four y → In least one (scalbn_s binary64 y (negsuc j))
unfolding scale_e eval of_bits
scale_range j y h k i =
    rw (one_product binary64 y (negsuc j) refl (le-ltb 1021 j (omega arith)))
    (range binary64 least one scale_e powers (power2 binary64 (negsuc j) ∷ []) quarter four y scale_test
    ((tt, tt, power_le binary64 j 274 k (lit≤ tt), power_le binary64 7 j h (omega arith)), tt) i)

primary_is : (hi lo : Float) (j : ℕ) → primary_s exp64 (hi ⊖ lo) hi lo (negsuc j) ≡ scalbn_s binary64 (unscaled hi lo) (negsuc j)
unfolding primary_s unscaled
primary_is hi lo j = simp (ne_eqb (suc j) 0 (λ e. omega arith))

-- between the ends the answer for k lies from 2 ^ -300 to 1
pub cell_range : (j : ℕ) (x : Float) → 7 ≤ j → j ≤ 274 → In (low_end j) (high_end j) x → In least one (reduced_s exp64 x (negsuc j))
unfolding reduced_s multiple is_hi_ok is_lo_ok hi_e lo_e eval
cell_range j x h k i =
    let K = multiple j in
    let lo_test = range_test binary64 lo_min lo_max lo_e [] K K in
    let t = here j h k is_lo_ok lo_ok in
    let finite_k = and_l (finite K) lo_test t in
    let k_to_k = le_refl K finite_k in
    let hi = x ⊖ K ⊗ exp64.LN2HI in
    let lo = K ⊗ exp64.LN2LO in
    let hi_in =
    range binary64 hi_min hi_max hi_e (some K K ∷ []) (K ∷ []) (low_end j) (high_end j) x (here j h k is_hi_ok hi_ok)
    ((finite_k, finite_k, k_to_k, k_to_k), tt) i in
    let lo_in = range binary64 lo_min lo_max lo_e [] [] K K K (and_r (finite K) lo_test t) tt (k_to_k, k_to_k) in
    rw (primary_is hi lo j) (scale_range j (unscaled hi lo) h k (unscaled_range hi lo hi_in lo_in))
