-- The order `le` on floats:
--   `le_refl`, `le_total`, `le_trans`: it is reflexive and total on finite values, and transitive on all;
--   `lt-le`, `le_of_not_lt`, `not-lt-of-le`: `lt` is the order without equality;
--   `eq-values`: the test `eq` on two values of one sign, by any fractions that they equal;
--   `eq-le`, `eq_turned`: equal floats are at most each other, and equal either way round;
--   `between-finite`, `neg-finite`: what lies between finite values is finite, and so is the negative of one;
--   `Between`, `between-bounds`: to lie between two values, one way round or the other.
-- Assumes nothing.
use mathlib.Core.Path.{◌≡◌, refl, sym, ap, ◌∙◌, subst}
use mathlib.Core.Logic.{◌⊎◌, inl, inr}
use Prim.Native.Nat.{ℕ, ◌+◌, ◌*◌, ◌≤◌, ◌<◌}
use native.Mathlib.Nat.{mul_comm, mul-pos, mul-mul-mul_comm, eq_of_mul-eq-mul_right}
use native.Mathlib.Omega.{arith}
use mathlib.Core.Bool.{Bool, true, false, not, ◌||◌, ◌&&◌, false≢true}
use lib.Dec.{T, T_not, ltb, ltb→lt, nltb→le, eqb, eqb→eq}
use lib.Ieee.{Float, nan, inf, fin, up, down, neg, le, lt, eq, level}
use lib.Ieee.Exact.{HasValue}
use lib.Ieee.Fits.{and_l, down_pos}
use lib.Ieee.Scale.{finite}
use borrow.Author.Tests.{le-ltb, eqb-true, eq-eqb, ne_eqb}
use Rattle.rounding.proofs.Signed.{P, N, Le-refl, Le-trans, le→Le, Le→le, le_signed}

-- a finite value is at most itself
pub le_refl : (x : Float) → T (finite x) → T (le x x)
le_refl nan p = absurd p
le_refl (inf s) p = absurd p
le_refl (fin s m e) p = Le→le s m e s m e (Le-refl s (m * up e) (down e))

-- `le` is transitive, infinities and NaN included
pub le_trans : (x y z : Float) → T (le x y) → T (le y z) → T (le x z)
unfolding le
le_trans nan nan z h k = absurd h
le_trans (inf s) nan z h k = absurd h
le_trans (fin s m e) nan z h k = absurd h
le_trans nan (inf true) z h k = absurd h
le_trans (inf false) (inf true) z h k = absurd h
le_trans (inf true) (inf true) z h k = k
le_trans (fin s m e) (inf true) z h k = absurd h
le_trans x (inf false) nan h k = absurd k
le_trans x (inf false) (inf true) h k = absurd k
le_trans x (inf false) (inf false) h k = h
le_trans x (inf false) (fin u o g) h k = absurd k
le_trans nan (fin t n d) z h k = absurd h
le_trans (inf false) (fin t n d) z h k = absurd h
le_trans (inf true) (fin t n d) nan h k = absurd k
le_trans (inf true) (fin t n d) (inf true) h k = tt
le_trans (inf true) (fin t n d) (inf false) h k = tt
le_trans (inf true) (fin t n d) (fin u o g) h k = tt
le_trans (fin s m e) (fin t n d) nan h k = absurd k
le_trans (fin s m e) (fin t n d) (inf true) h k = absurd k
le_trans (fin s m e) (fin t n d) (inf false) h k = tt
le_trans (fin s m e) (fin t n d) (fin u o g) h k =
    Le→le s m e u o g
    (Le-trans s (m * up e) (down e) t (n * up d) (down d) u (o * up g) (down g) (down_pos d) (le→Le s m e t n d h) (le→Le t n d u o g k))

-- of two finite values one is at most the other
pub le_total : (x y : Float) → T (finite x) → T (finite y) → T (not (le x y)) → T (le y x)
le_total nan y p q h = absurd p
le_total (inf s) y p q h = absurd p
le_total (fin s m e) nan p q h = absurd q
le_total (fin s m e) (inf t) p q h = absurd q
le_total (fin s m e) (fin t n d) p q h = go (ltb R L) (ltb→lt R L) (nltb→le R L)
  where
    L : ℕ
    L = P s (m * up e) * down d + N t (n * up d) * down e

    R : ℕ
    R = P t (n * up d) * down e + N s (m * up e) * down d

    go : (b : Bool) → (T b → R < L) → (T (not b) → L ≤ R) → T (le (fin t n d) (fin s m e))
    go true k l = let x = k tt in Le→le t n d s m e (omega arith)
    go false k l = absurd (T_not (le (fin s m e) (fin t n d)) h (Le→le s m e t n d (l tt)))

-- ---- `lt`, the strict order

-- what is below y is at most y
pub lt_le : (x y : Float) → T (lt x y) → T (le x y)
unfolding le
lt_le x y h = go (lt x y) h
  where
    go : (b : Bool) → T b → T (b || eq x y)
    go true t = tt
    go false t = absurd t

-- a finite x that is not below y is at least y
pub le_of_not_lt : (x y : Float) → T (finite x) → T (finite y) → T (not (lt x y)) → T (le y x)
unfolding lt
le_of_not_lt nan y X Y h = absurd X
le_of_not_lt (inf s) y X Y h = absurd X
le_of_not_lt (fin s m e) nan X Y h = absurd Y
le_of_not_lt (fin s m e) (inf t) X Y h = absurd Y
le_of_not_lt (fin false m e) (fin false n d) X Y h =
    let k = nltb→le (m * up e * down d) (n * up d * down e) h in Le→le false n d false m e (omega arith)
le_of_not_lt (fin false m e) (fin true n d) X Y h = le_signed (fin true n d) (fin false m e) refl refl
le_of_not_lt (fin true m e) (fin false n d) X Y h =
    let k = nltb→le 0 (m * up e * down d + n * up d * down e) h in Le→le false n d true m e (omega arith)
le_of_not_lt (fin true m e) (fin true n d) X Y h =
    let k = nltb→le (n * up d * down e) (m * up e * down d) h in Le→le true n d true m e (omega arith)

-- what is at least y is not below y, infinities and NaN included
pub not_lt_of_le : (x y : Float) → T (le y x) → lt x y ≡ false
unfolding lt le
not_lt_of_le nan y h = refl
not_lt_of_le (inf s) nan h = refl
not_lt_of_le (inf false) (inf t) h = refl
not_lt_of_le (inf true) (inf true) h = refl
not_lt_of_le (inf true) (inf false) h = absurd h
not_lt_of_le (inf false) (fin t n d) h = refl
not_lt_of_le (inf true) (fin t n d) h = absurd h
not_lt_of_le (fin s m e) nan h = refl
not_lt_of_le (fin s m e) (inf true) h = refl
not_lt_of_le (fin s m e) (inf false) h = absurd h
not_lt_of_le (fin false m e) (fin false n d) h =
    let k = le→Le false n d false m e h in le-ltb (m * up e * down d) (n * up d * down e) (omega arith)
not_lt_of_le (fin false m e) (fin true n d) h = refl
not_lt_of_le (fin true m e) (fin false n d) h =
    let k = le→Le false n d true m e h in le-ltb 0 (m * up e * down d + n * up d * down e) (omega arith)
not_lt_of_le (fin true m e) (fin true n d) h =
    let k = le→Le true n d true m e h in le-ltb (n * up d * down e) (m * up e * down d) (omega arith)

-- ---- `eq`
cross : (M N p q a b c d : ℕ) → 0 < p → 0 < q → M * c ≡ a * p → N * d ≡ b * q → M * q ≡ N * p → a * d ≡ b * c
cross M N p q a b c d P Q h k e =
    eq_of_mul-eq-mul_right (p * q) (mul-pos P Q) (a * d) (b * c)
    (mul-mul-mul_comm a d p q
    ∙ ap (λ (z : ℕ). z * (d * q)) (sym h)
    ∙ ap (λ (z : ℕ). M * c * z) (mul_comm d q)
    ∙ mul-mul-mul_comm M c q d
    ∙ ap (λ (z : ℕ). z * (c * d)) e
    ∙ ap (λ (z : ℕ). N * p * z) (mul_comm c d)
    ∙ mul-mul-mul_comm N p d c
    ∙ ap (λ (z : ℕ). z * (p * c)) k
    ∙ ap (λ (z : ℕ). b * q * z) (mul_comm p c)
    ∙ mul-mul-mul_comm b q c p
    ∙ ap (λ (z : ℕ). b * c * z) (mul_comm q p))

same_test : (x y a b : ℕ) → (x ≡ y → a ≡ b) → (a ≡ b → x ≡ y) → eqb x y ≡ eqb a b
same_test x y a b h k = go (eqb a b) (eqb-true a b) refl
  where
    go : (t : Bool) → (eqb a b ≡ true → a ≡ b) → eqb a b ≡ t → eqb x y ≡ eqb a b
    go true q e = eq-eqb x y (k (q e)) ∙ sym e
    go false q e = ne_eqb x y (λ (z : x ≡ y). false≢true (sym e ∙ eq-eqb a b (h z))) ∙ sym e

and_true : (t : Bool) → t && true ≡ t
and_true true = refl
and_true false = refl

level_same : (s : Bool) (a b : ℕ) → level s a s b ≡ eqb a b
level_same true a b = and_true (eqb a b)
level_same false a b = and_true (eqb a b)

-- ±a / c == ±b / d, of one sign
pub eq_values : (x y : Float) (s : Bool) (a c b d : ℕ) → 0 < c → 0 < d → HasValue x s a c → HasValue y s b d → eq x y ≡ eqb (a * d) (b * c)
unfolding eq
eq_values nan y s a c b d C D v w = absurd v
eq_values (inf t) y s a c b d C D v w = absurd v
eq_values (fin t m e) nan s a c b d C D v w = absurd w
eq_values (fin t m e) (inf u) s a c b d C D v w = absurd w
eq_values (fin t m e) (fin u n g) s a c b d C D v w =
    let M = m * up e in
    let N = n * up g in
    ap (λ (z : Bool). level z (M * down g) u (N * down e)) v.0
    ∙ ap (λ (z : Bool). level s (M * down g) z (N * down e)) w.0
    ∙ level_same s (M * down g) (N * down e)
    ∙ same_test (M * down g) (N * down e) (a * d) (b * c)
    (cross M N (down e) (down g) a b c d (down_pos e) (down_pos g) v.1 w.1)
    (cross a b c d M N (down e) (down g) C D (sym v.1) (sym w.1))

-- what equals y is at most y
pub eq_le : (x y : Float) → T (eq x y) → T (le x y)
unfolding le
eq_le x y h = go (lt x y)
  where
    go : (b : Bool) → T (b || eq x y)
    go true = tt
    go false = h

level_turned : (s : Bool) (a : ℕ) (t : Bool) (b : ℕ) → T (level s a t b) → T (level t b s a)
level_turned s a t b h =
    let e : a ≡ b = eqb→eq a b (and_l (eqb a b) _ h) in
    subst (λ (z : ℕ). T (level t z s a)) e (go s t (subst (λ (z : ℕ). T (level s a t z)) (sym e) h))
  where
    go : (s t : Bool) → T (level s a t a) → T (level t a s a)
    go false false h = h
    go false true h = h
    go true false h = h
    go true true h = h

-- and y equals it
pub eq_turned : (x y : Float) → T (eq x y) → T (eq y x)
unfolding eq
eq_turned nan y h = absurd h
eq_turned (inf s) nan h = absurd h
eq_turned (inf false) (inf false) h = tt
eq_turned (inf true) (inf true) h = tt
eq_turned (inf false) (inf true) h = absurd h
eq_turned (inf true) (inf false) h = absurd h
eq_turned (inf s) (fin t n d) h = absurd h
eq_turned (fin s m e) nan h = absurd h
eq_turned (fin s m e) (inf t) h = absurd h
eq_turned (fin s m e) (fin t n d) h = level_turned s (m * up e * down d) t (n * up d * down e) h

-- ---- finite values

-- what lies between two finite values is finite
pub between_finite : (l x h : Float) → T (finite l) → T (finite h) → T (le l x) → T (le x h) → T (finite x)
unfolding le
between_finite nan x h p q a b = absurd p
between_finite (inf s) x h p q a b = absurd p
between_finite (fin s m e) x nan p q a b = absurd q
between_finite (fin s m e) x (inf t) p q a b = absurd q
between_finite (fin s m e) nan (fin t n d) p q a b = absurd a
between_finite (fin s m e) (inf false) (fin t n d) p q a b = absurd b
between_finite (fin s m e) (inf true) (fin t n d) p q a b = absurd a
between_finite (fin s m e) (fin u o g) (fin t n d) p q a b = tt

-- the negative of a finite value is finite
pub neg_finite : (x : Float) → T (finite x) → T (finite (neg x))
unfolding neg
neg_finite nan p = p
neg_finite (inf s) p = p
neg_finite (fin s m e) p = tt

-- ---- between two values

-- w lies between u and v, one way round or the other
abbrev pub Between : Float → Float → Float → Type 0
Between u v w = (T (le u w) × T (le w v)) ⊎ (T (le v w) × T (le w u))

-- what lies between two values of a range lies in the range
pub between_bounds : (l h u v w : Float) → T (le l u) → T (le l v) → T (le u h) → T (le v h) → Between u v w → T (le l w) × T (le w h)
between_bounds l h u v w a b c d (inl t) = (le_trans l u w a t.0, le_trans w v h t.1 d)
between_bounds l h u v w a b c d (inr t) = (le_trans l v w b t.0, le_trans w u h t.1 c)
