-- How the operations treat a change of sign, `neg`:
--   `neg-neg`: twice is nothing;
--   `mul-neg`, `mul-neg-right`, `div-neg`, `div-neg-right`: a product and a quotient turn with either operand, for all values;
--   `mul-neg-both`: so a product stays the same when both factors turn;
--   `add-odd`: a sum turns with both operands, where it is above zero (a sum of opposite values is +0 either way).
-- Assumes nothing.
use mathlib.Core.Path.{◌≡◌, refl, sym, ap, ◌∙◌}
use Prim.Native.Nat.{ℕ, ◌+◌, ◌*◌, ◌<◌}
use native.Mathlib.Nat.{mul-pos, lt_irrefl, eq-zero-or-pos}
use native.Mathlib.Omega.{arith}
use mathlib.Core.Logic.{inl, inr}
use mathlib.Core.Bool.{Bool, true, false, not, cond, false≢true}
use lib.IntN.{pos}
use lib.Dec.{T, eqb}
use lib.Ieee.{Float, nan, inf, fin, Format, up, down, unlike, round, neg, sum, add, mul, div}
use lib.Ieee.Fits.{down_pos}
use lib.Ieee.Exact.{HasValue}
use lib.Ieee.Positive.{positive, value_pos}
use Rattle.rounding.proofs.Signed.{P, N, cond_neg, round_not, round_zero}
use Rattle.rounding.proofs.Fraction.{unlike_comm, sum_is, mul_commutes}

-- the negative of the negative is the value itself
pub neg_neg : (x : Float) → neg (neg x) ≡ x
unfolding neg
neg_neg nan = refl
neg_neg (inf true) = refl
neg_neg (inf false) = refl
neg_neg (fin true m e) = refl
neg_neg (fin false m e) = refl

unlike_not : (s t : Bool) → unlike (not s) t ≡ not (unlike s t)
unlike_not false false = refl
unlike_not false true = refl
unlike_not true false = refl
unlike_not true true = refl

unlike_not_right : (s t : Bool) → unlike s (not t) ≡ not (unlike s t)
unlike_not_right s t = unlike_comm s (not t) ∙ unlike_not t s ∙ ap not (unlike_comm t s)

-- ---- products

-- a product turns with its first factor
pub mul_neg : (f : Format) (x y : Float) → mul f (neg x) y ≡ neg (mul f x y)
unfolding mul neg
mul_neg f nan y = refl
mul_neg f (inf s) nan = refl
mul_neg f (inf s) (inf t) = ap inf (unlike_not s t)
mul_neg f (inf s) (fin t n d) =
    ap (λ (b : Bool). cond (eqb n 0) nan (inf b)) (unlike_not s t) ∙ cond_neg (eqb n 0) nan (inf (unlike s t))
mul_neg f (fin s m e) nan = refl
mul_neg f (fin s m e) (inf t) =
    ap (λ (b : Bool). cond (eqb m 0) nan (inf b)) (unlike_not s t) ∙ cond_neg (eqb m 0) nan (inf (unlike s t))
mul_neg f (fin s m e) (fin t n d) =
    ap (λ (b : Bool). round f b (m * up e * (n * up d)) (down e * down d)) (unlike_not s t)
    ∙ round_not f (unlike s t) (m * up e * (n * up d)) (down e * down d)

-- a product turns with its second factor
pub mul_neg_right : (f : Format) (x y : Float) → mul f x (neg y) ≡ neg (mul f x y)
mul_neg_right f x y = mul_commutes f x (neg y) ∙ mul_neg f y x ∙ ap neg (mul_commutes f y x)

-- a product stays the same when both factors turn
pub mul_neg_both : (f : Format) (x y : Float) → mul f (neg x) (neg y) ≡ mul f x y
mul_neg_both f x y = mul_neg f x (neg y) ∙ ap neg (mul_neg_right f x y) ∙ neg_neg (mul f x y)

-- ---- quotients
quotient_not : (f : Format) (s : Bool) (by_zero zero-by : Bool) (a c : ℕ)
    → cond by_zero (cond zero-by nan (inf (not s))) (round f (not s) a c) ≡ neg (cond by_zero (cond zero-by nan (inf s)) (round f s a c))
unfolding neg
quotient_not f s true true a c = refl
quotient_not f s true false a c = refl
quotient_not f s false zero-by a c = round_not f s a c

div_turns : (f : Format) (x y : Float) → (div f (neg x) y ≡ neg (div f x y)) × (div f x (neg y) ≡ neg (div f x y))
unfolding div neg
div_turns f nan y = (refl, refl)
div_turns f (inf s) nan = (refl, refl)
div_turns f (inf s) (inf t) = (refl, refl)
div_turns f (inf s) (fin t n d) = (ap inf (unlike_not s t), ap inf (unlike_not_right s t))
div_turns f (fin s m e) nan = (refl, refl)
div_turns f (fin s m e) (inf t) =
    (ap (λ (b : Bool). fin b 0 (pos 0)) (unlike_not s t), ap (λ (b : Bool). fin b 0 (pos 0)) (unlike_not_right s t))
div_turns f (fin s m e) (fin t n d) = (turn (unlike (not s) t) (unlike_not s t), turn (unlike s (not t)) (unlike_not_right s t))
  where
    by : Bool → Float
    by u = cond (eqb n 0) (cond (eqb m 0) nan (inf u)) (round f u (m * up e * down d) (n * up d * down e))

    turn : (u : Bool) → u ≡ not (unlike s t) → by u ≡ neg (by (unlike s t))
    turn u h = ap by h ∙ quotient_not f (unlike s t) (eqb n 0) (eqb m 0) (m * up e * down d) (n * up d * down e)

-- a quotient turns with the value divided
pub div_neg : (f : Format) (x y : Float) → div f (neg x) y ≡ neg (div f x y)
div_neg f x y = (div_turns f x y).0

-- a quotient turns with the divisor
pub div_neg_right : (f : Format) (x y : Float) → div f x (neg y) ≡ neg (div f x y)
div_neg_right f x y = (div_turns f x y).1

-- ---- sums
zero_not_positive : (f : Format) (s : Bool) (c : ℕ) → 0 < c → T (positive (round f s 0 c)) → ⊥
zero_not_positive f false c C p = lt_irrefl 0 (value_pos (round f false 0 c) 0 c p C (round_zero f false c C))
zero_not_positive f true c C p = go (round f true 0 c) (round_zero f true c C) p
  where
    go : (x : Float) → HasValue x true 0 c → T (positive x) → ⊥
    go nan v p = p
    go (inf s) v p = p
    go (fin true m e) v p = p
    go (fin false m e) v p = false≢true v.0

-- ±q, not zero, and ±r are the sum of ±a and ±b, and of their negatives: r is q, with the other sign
opposite : (s : Bool) (a : ℕ) (t : Bool) (b : ℕ) (u : Bool) (q : ℕ) (v : Bool) (r : ℕ) → 0 < q
    → P u q + (N s a + N t b) ≡ N u q + (P s a + P t b) → P v r + (N (not s) a + N (not t) b) ≡ N v r + (P (not s) a + P (not t) b)
    → (v ≡ not u) × (r ≡ q)
opposite s a t b u q v r Q h k = go u v h (back s t k)
  where
    back : (s t : Bool) → P v r + (N (not s) a + N (not t) b) ≡ N v r + (P (not s) a + P (not t) b)
        → P v r + (P s a + P t b) ≡ N v r + (N s a + N t b)
    back false false k = k
    back false true k = k
    back true false k = k
    back true true k = k

    go : (u v : Bool) → P u q + (N s a + N t b) ≡ N u q + (P s a + P t b) → P v r + (P s a + P t b) ≡ N v r + (N s a + N t b)
        → (v ≡ not u) × (r ≡ q)
    go false true h k = (refl, omega arith)
    go true false h k = (refl, omega arith)
    go false false h k = absurd (omega arith)
    go true true h k = absurd (omega arith)

sum_odd : (f : Format) (s : Bool) (a : ℕ) (t : Bool) (b c : ℕ) → 0 < c → T (positive (sum f s a t b c))
    → sum f (not s) a (not t) b c ≡ neg (sum f s a t b c)
sum_odd f s a t b c C p =
    let S = sum_is f s a t b c in
    let R = sum_is f (not s) a (not t) b c in
    let q = S.1 in
    let Q : 0 < q = nonzero q (λ (z : q ≡ 0). zero_not_positive f S.0 c C (rw (S.2, z) at p)) in
    let o = opposite s a t b S.0 q R.0 R.1 Q S.3 R.3 in
    R.2
    ∙ ap (λ (u : Bool). round f u R.1 c) o.0
    ∙ ap (λ (r : ℕ). round f (not S.0) r c) o.1
    ∙ round_not f S.0 q c
    ∙ ap neg (sym S.2)
  where
    nonzero : (q : ℕ) → (q ≡ 0 → ⊥) → 0 < q
    nonzero q h = elim (eq-zero-or-pos q) [ inl z ↦ absurd (h z) | inr l ↦ l ]

-- a sum above zero turns with both operands
pub add_odd : (f : Format) (x y : Float) → T (positive (add f x y)) → add f (neg x) (neg y) ≡ neg (add f x y)
unfolding add neg
add_odd f nan y h = absurd h
add_odd f (inf s) nan h = absurd h
add_odd f (inf true) (inf true) h = absurd h
add_odd f (inf true) (inf false) h = absurd h
add_odd f (inf false) (inf true) h = absurd h
add_odd f (inf false) (inf false) h = absurd h
add_odd f (inf s) (fin t n d) h = absurd h
add_odd f (fin s m e) nan h = absurd h
add_odd f (fin s m e) (inf t) h = absurd h
add_odd f (fin s m e) (fin t n d) h =
    sum_odd f s (m * up e * down d) t (n * up d * down e) (down e * down d) (mul-pos (down_pos e) (down_pos d)) h
