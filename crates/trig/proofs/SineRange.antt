-- k_sin with no tail, for sizes up to the f64 nearest pi/4: of an x above zero it lies from half of x to x (`sin_range`); of a -x it
-- is the negative of that (`sin_odd`); of either zero it is +0 (`sin_zero`).
-- k_sin is x + v * c with v = x * x * x and c = S1 + z * r. Intervals bound c by -1/4 and 0, so v * c lies from -x/4 to 0; up to 2 ^ -500
-- it is a zero. Assumes nothing.
use mathlib.Core.Path.{◌≡◌, refl, sym, ap, ◌∙◌, subst}
use mathlib.Core.List.{[], ◌∷◌}
use Prim.Native.Nat.{ℕ, ◌+◌, ◌≤◌, ◌<◌}
use native.Mathlib.Omega.{arith}
use mathlib.Core.Bool.{Bool, true, false, not}
use lib.IntN.{ℤ, pos, negsuc}
use lib.Dec.{T, ltb→lt}
use lib.Ieee.{Float, nan, inf, fin, binary64, add, mul, neg, le, fits, of_bits}
use lib.Ieee.Fits.{mul-fits}
use lib.Ieee.Positive.{positive}
use Rattle.rounding.proofs.Signed.{Signed, finite_shape, round_signed}
use Rattle.rounding.proofs.Order.{le_refl, le_trans, le_total, between_finite}
use Rattle.rounding.proofs.Fraction.{mul_is}
use Rattle.rounding.proofs.Grid.{on_grid, spare}
use Rattle.rounding.proofs.Relative.{zero+, one+, part-, quarter-, zero_le, power_below, mul_le_self, mul_part, part_finite}
use Rattle.rounding.proofs.Relative.{FromHalf, add_quarter, add_nothing}
use Rattle.rounding.proofs.Odd.{mul_neg, mul_neg_right, mul_neg_both, add_odd}
use Rattle.rounding.proofs.Range.{Expr, var, con, plus, times, share, eval, ieval, In, range_test, range}
use Rattle.words.specs.F64.{◌⊕◌, ◌⊗◌, bits}
use Rattle.trig.specs.KSin.{S1, S2, S3, S4, S5, S6, k_sin_s}
use Rattle.trig.proofs.CosineRange.{pio4}

-- k_sin with no tail
abbrev sin : Float → Float
sin x = k_sin_s x (bits 0) (pos 0)

-- the factor c, in z
abbrev fac_e : Expr
fac_e =
    share (times (var 0) (var 0))
    (share (plus (plus (con S2) (times (var 1) (plus (con S3) (times (var 1) (con S4)))))
    (times (times (var 1) (var 0)) (plus (con S5) (times (var 1) (con S6)))))
    (plus (con S1) (times (var 2) (var 0))))

abbrev fac : Float → Float
fac z = eval binary64 (z ∷ []) fac_e

sin_is : (x : Float) → sin x ≡ x ⊕ x ⊗ x ⊗ x ⊗ fac (x ⊗ x)
unfolding eval k_sin_s
sin_is x = refl

square_test : T (range_test binary64 zero+ one+ (times (var 0) (var 0)) [] zero+ pio4)
unfolding ieval mul le of_bits
square_test = tt

fac_test : T (range_test binary64 quarter- zero+ fac_e [] zero+ one+)
unfolding ieval mul add le of_bits
fac_test = tt

-- 2 ^ -500
abbrev tiny : Float
tiny = fin false 1 (negsuc 499)

-- v * c, in x
rest_e : Expr
rest_e = share (times (var 0) (var 0)) (times (times (var 0) (var 1)) fac_e)

rest_test : T (range_test binary64 zero+ zero+ rest_e [] zero+ tiny)
unfolding rest_e ieval mul add le of_bits
rest_test = tt

rest_is : (x : Float) → eval binary64 (x ∷ []) rest_e ≡ x ⊗ x ⊗ x ⊗ fac (x ⊗ x)
unfolding eval rest_e
rest_is x = refl

zero_under : (m : ℕ) (e : ℤ) → T (le zero+ (fin false m e))
zero_under m e = zero_le (fin false m e) refl

pub mul_plus : (m : ℕ) (e : ℤ) (n : ℕ) (d : ℤ) → Signed false (fin false m e ⊗ fin false n d)
mul_plus m e n d = subst (Signed false) (sym (mul_is binary64 false m e false n d)) (round_signed binary64 false _ _)

plenty : (j : ℕ) → 1074 < 53 + j + 500 → 2 ≤ j
plenty j h = omega arith

-- ---- the pieces, for an x that is fin false m e

-- x * x is at most 1
pub square_range : (m : ℕ) (e : ℤ) → T (le (fin false m e) pio4) → In zero+ one+ (fin false m e ⊗ fin false m e)
square_range m e hi = unfold eval in (range binary64 zero+ one+ (times (var 0) (var 0)) [] [] zero+ pio4 (fin false m e) square_test tt (zero_under m e, hi))

-- v has no minus sign and is at most x
abbrev pub Under : Float → Float → Type 0
Under x v = T (fits binary64 v) × Signed false v × T (le v x)

under_shape : (m : ℕ) (e : ℤ) (v : Float) → Under (fin false m e) v → (n : ℕ) × (d : ℤ) × (v ≡ fin false n d)
under_shape m e v u = finite_shape false v u.1 (between_finite zero+ v (fin false m e) tt tt (zero_le v u.1) u.2)

-- so is z * v, for a z from 0 to 1
pub times_under : (m : ℕ) (e : ℤ) (z v : Float) → Signed false z → In zero+ one+ z → Under (fin false m e) v → Under (fin false m e) (z ⊗ v)
times_under m e z v p i u =
    let Z = between_finite zero+ z one+ tt tt i.0 i.1 in
    let zs = finite_shape false z p Z in
    let vs = under_shape m e v u in (
      mul-fits binary64 z v,
      rw (zs.2, vs.2) (mul_plus zs.0 zs.1 vs.0 vs.1),
      le_trans (z ⊗ v) v (fin false m e)
          (rw vs.2 (mul_le_self binary64 z vs.0 vs.1 (subst (λ (y : Float). T (fits binary64 y)) vs.2 u.0) Z i.1)) u.2,
    )

-- v * c lies from -x/2 ^ (k + 1) to 0, for c from -1/2 ^ (k + 1) to 0
pub product_range : (k m : ℕ) (e : ℤ) (v c : Float) → Under (fin false m e) v → In (part- k) zero+ c → In (fin false m e ⊗ part- k) zero+ (v ⊗ c)
product_range k m e v c u i =
    let vs = under_shape m e v u in
    rw vs.2
    (mul_part binary64 k m e vs.0 vs.1 c (unfold fits in tt) (between_finite (part- k) c zero+ tt tt i.0 i.1)
    (subst (λ (y : Float). T (le y (fin false m e))) vs.2 u.2) i.0 i.1)

-- ---- from half of x to x
sin_big : (m : ℕ) (e : ℤ) → T (fits binary64 (fin false m e)) → 0 < m → T (le tiny (fin false m e)) → T (le (fin false m e) pio4)
    → FromHalf binary64 (fin false m e) (sin (fin false m e))
sin_big m e F M lo hi =
    let x = fin false m e in
    let z = x ⊗ x in
    let t = z ⊗ x ⊗ fac z in
    let zi = square_range m e hi in
    let ci : In quarter- zero+ (fac z) = range binary64 quarter- zero+ fac_e [] [] zero+ one+ z fac_test tt zi in
    let ti : In (x ⊗ quarter-) zero+ t =
    product_range 1 m e (z ⊗ x) (fac z) (times_under m e z x (mul_plus m e m e) zi (F, refl, le_refl x tt)) ci in
    let g = on_grid binary64 false m e F in
    let J = plenty g.0 (spare binary64 m e g.0 500 g.1 (power_below 499 m e lo)) in
    subst (FromHalf binary64 x) (sym (sin_is x))
    (add_quarter binary64 m e t g.0 F g.1 J
    (between_finite (x ⊗ quarter-) t zero+ (part_finite binary64 1 m e g.0 g.1 J) tt ti.0 ti.1) ti.0 ti.1 M)

sin_small : (m : ℕ) (e : ℤ) → T (fits binary64 (fin false m e)) → 0 < m → T (le (fin false m e) tiny)
    → FromHalf binary64 (fin false m e) (sin (fin false m e))
sin_small m e F M hi =
    let x = fin false m e in
    let t = x ⊗ x ⊗ x ⊗ fac (x ⊗ x) in
    let i : In zero+ zero+ t =
    subst (In zero+ zero+) (rest_is x) (range binary64 zero+ zero+ rest_e [] [] zero+ tiny x rest_test tt (zero_under m e, hi)) in
    subst (FromHalf binary64 x) (sym (sin_is x))
    (add_nothing binary64 m e t F (between_finite zero+ t zero+ tt tt i.0 i.1) i.0 i.1 M)

sin_plus : (m : ℕ) (e : ℤ) → T (fits binary64 (fin false m e)) → 0 < m → T (le (fin false m e) pio4)
    → FromHalf binary64 (fin false m e) (sin (fin false m e))
sin_plus m e F M hi = go (le (fin false m e) tiny) refl
  where
    go : (b : Bool) → le (fin false m e) tiny ≡ b → FromHalf binary64 (fin false m e) (sin (fin false m e))
    go true p = sin_small m e F M (subst T (sym p) tt)
    go false p = sin_big m e F M (le_total (fin false m e) tiny tt tt (subst (λ (z : Bool). T (not z)) (sym p) tt)) hi

-- from half of x to x, for an x above zero
pub sin_range : (x : Float) → T (fits binary64 x) → T (positive x) → T (le x pio4) → FromHalf binary64 x (k_sin_s x (bits 0) (pos 0))
sin_range nan F p hi = absurd p
sin_range (inf s) F p hi = absurd p
sin_range (fin true m e) F p hi = absurd p
sin_range (fin false m e) F p hi = sin_plus m e F (ltb→lt 0 m p) hi

-- ---- the other sign
odd_where : (x : Float) → T (positive (sin x)) → sin (neg x) ≡ neg (sin x)
odd_where x p =
    let z = x ⊗ x in
    let c = fac z in
    sin_is (neg x)
    ∙ ap (λ (u : Float). neg x ⊕ u ⊗ neg x ⊗ fac u) (mul_neg_both binary64 x x)
    ∙ ap (λ (u : Float). neg x ⊕ u ⊗ c) (mul_neg_right binary64 z x)
    ∙ ap (λ (u : Float). neg x ⊕ u) (mul_neg binary64 (z ⊗ x) c)
    ∙ add_odd binary64 x (z ⊗ x ⊗ c) (subst (λ (k : Float). T (positive k)) (sin_is x) p)
    ∙ ap neg (sym (sin_is x))

-- k_sin of -x is the negative of k_sin of x, for an x above zero
pub sin_odd : (x : Float) → T (fits binary64 x) → T (positive x) → T (le x pio4)
    → k_sin_s (neg x) (bits 0) (pos 0) ≡ neg (k_sin_s x (bits 0) (pos 0))
sin_odd x F p hi = odd_where x (sin_range x F p hi).2

-- of either zero it is +0
pub sin_zero : (s : Bool) → k_sin_s (fin s 0 (pos 0)) (bits 0) (pos 0) ≡ bits 0
unfolding k_sin_s mul add of_bits
sin_zero true = refl
sin_zero false = refl
