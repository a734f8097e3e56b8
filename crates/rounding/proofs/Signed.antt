-- The order of signed fractions, and what `le`, `round` and `neg` do with it.
-- The fraction ±a / b stands as a sign (true: minus), a and b. P and N are its parts above and below zero, so that an order of signed
-- fractions is one of natural numbers. The main laws:
--   `le-of-signed`, `signed-of-le`: `le` on finite values is the order of any fractions that they equal;
--   `round-Le`: rounding keeps the order, whatever the signs; `round-zero`: the rounding of a zero is a zero;
--   `round-not`, `round-neg`: rounding goes through a change of sign; `round-signed`: it keeps the sign that it is given;
--   `value-longer`, `value-shorter`: other fractions of one value;
--   `le-neg`: a change of sign turns the order; `le-signed`: what has a minus sign is at most what has none.
-- Assumes nothing.
use mathlib.Core.Path.{◌≡◌, refl, sym, ap, ◌∙◌, subst}
use mathlib.Core.Logic.{◌⊎◌, inl, inr}
use Prim.Native.Nat.{ℕ, zero, suc, ◌+◌, ◌*◌, ◌^◌, ◌≤◌, ◌<◌}
use native.Mathlib.Nat.{mul_right_comm, eq_of_mul-eq-mul_right, le_of_eq, le_of_lt, zero-mul, mul_comm, mul_assoc, mul_left_comm, mul-add, add-mul, mul-le-mul_right}
use native.Mathlib.Nat.{le_of_mul-le-mul_right, mul-pos, eq-zero-or-pos}
use native.Mathlib.Omega.{arith}
use mathlib.Core.Bool.{Bool, true, false, not, ◌&&◌, ◌||◌, cond}
use lib.IntN.{ℤ}
use lib.Dec.{T, ltb, eqb, eqb→eq, ltb→lt, nltb→le}
use lib.Pow.{pow_pos}
use lib.Ieee.{Float, nan, inf, fin, Format, prec, emax, low, up, down, odd, units, round, neg, le, below, level}
use lib.Ieee.Fits.{down_pos, and_i, and_l, and_r, eq→eqb, round_is}
use lib.Ieee.Exact.{HasValue, round_exact}
use lib.Ieee.Order.{round_mono}
use lib.Ieee.Scale.{finite}

-- ---- signed fractions

-- the part of ±a above zero
abbrev pub P : Bool → ℕ → ℕ
P false a = a
P true a = 0

-- the part of ±a below zero
abbrev pub N : Bool → ℕ → ℕ
N false a = 0
N true a = a

-- ±a / b ≤ ±c / d
abbrev pub Le : Bool → ℕ → ℕ → Bool → ℕ → ℕ → Type 0
Le s a b t c d = P s a * d + N t c * b ≤ P t c * b + N s a * d

-- the part above zero of a product
pub P-mul : (s : Bool) (a b : ℕ) → P s (a * b) ≡ P s a * b
P-mul false a b = refl
P-mul true a b = sym (zero-mul b)

-- the part below zero of a product
pub N-mul : (s : Bool) (a b : ℕ) → N s (a * b) ≡ N s a * b
N-mul false a b = sym (zero-mul b)
N-mul true a b = refl

-- a signed fraction is at most itself
pub Le-refl : (s : Bool) (a b : ℕ) → Le s a b s a b
Le-refl s a b = omega arith

-- the other signs, the other order
pub Le-flip : (s : Bool) (a b : ℕ) (t : Bool) (c d : ℕ) → Le s a b t c d → Le (not t) c d (not s) a b
Le-flip false a b false c d h = omega arith
Le-flip false a b true c d h = omega arith
Le-flip true a b false c d h = omega arith
Le-flip true a b true c d h = omega arith

trans_core : (px nx dx py ny dy pz nz dz : ℕ) → 0 < dy
    → px * dy + ny * dx ≤ py * dx + nx * dy → py * dz + nz * dy ≤ pz * dy + ny * dz → px * dz + nz * dx ≤ pz * dx + nx * dz
trans_core px nx dx py ny dy pz nz dz D h k =
    let h' = simp (mul_assoc, mul_comm, mul_left_comm, mul-add, add-mul) at (mul-le-mul_right dz h) in
    let k' = simp (mul_assoc, mul_comm, mul_left_comm, mul-add, add-mul) at (mul-le-mul_right dx k) in
    le_of_mul-le-mul_right (simp (mul_assoc, mul_comm, mul_left_comm, mul-add, add-mul) (omega arith)) D

-- the order of signed fractions is transitive, over a middle one with a denominator above zero
pub Le-trans : (s : Bool) (a b : ℕ) (t : Bool) (c d : ℕ) (u : Bool) (e g : ℕ) → 0 < d → Le s a b t c d → Le t c d u e g → Le s a b u e g
Le-trans s a b t c d u e g D h k = trans_core (P s a) (N s a) b (P t c) (N t c) d (P u e) (N u e) g D h k

scale_core : (p n c p' n' c' b d : ℕ) → p * c' + n' * c ≤ p' * c + n * c'
    → p * b * (c' * d) + n' * b * (c * d) ≤ p' * b * (c * d) + n * b * (c' * d)
scale_core p n c p' n' c' b d h =
    let h' = simp (mul_assoc, mul_comm, mul_left_comm, mul-add, add-mul) at (mul-le-mul_right (b * d) h) in
    simp (mul_assoc, mul_comm, mul_left_comm) (omega arith)

-- both sides times b / d
pub Le-scale : (s : Bool) (a c : ℕ) (t : Bool) (a' c' : ℕ) (b d : ℕ) → Le s a c t a' c' → Le s (a * b) (c * d) t (a' * b) (c' * d)
Le-scale s a c t a' c' b d h =
    rw (P-mul s a b, P-mul t a' b, N-mul s a b, N-mul t a' b) (scale_core (P s a) (N s a) c (P t a') (N t a') c' b d h)

-- ---- `le` on finite values is Le on their own fractions
or_split : (a b : Bool) → T (a || b) → T a ⊎ T b
or_split true b t = inl tt
or_split false b t = inr t

-- the two tests that `le` makes, x below y and x level with y, are x ≤ y
le_of_tests : (x y : ℕ) (e : Bool) → (T e → x ≡ y) → T (ltb x y || e) → x ≤ y
le_of_tests x y e k t = elim (or_split (ltb x y) e t) [ inl u ↦ le_of_lt (ltb→lt x y u) | inr u ↦ le_of_eq (k u) ]

tests_of_le : (x y : ℕ) (e : Bool) → (y ≤ x → T e) → T (ltb x y || e)
tests_of_le x y e k = go (ltb x y) (nltb→le x y)
  where
    go : (t : Bool) → (T (not t) → y ≤ x) → T (t || e)
    go true h = tt
    go false h = k (h tt)

eqb_of : (a b : ℕ) → a ≡ b → T (eqb a b)
eqb_of a b e = eq→eqb e

-- `le` with the products as variables
test : Bool → ℕ → Bool → ℕ → Bool
test s a t b = below s a t b || level s a t b

test→order : (s : Bool) (a : ℕ) (t : Bool) (b : ℕ) → T (test s a t b) → P s a + N t b ≤ P t b + N s a
unfolding test
test→order false a false b h =
    let x = le_of_tests a b (eqb a b && true) (λ (u : T (eqb a b && true)). eqb→eq a b (and_l (eqb a b) true u)) h in omega arith
test→order false a true b h =
    let x = eqb→eq a b (and_l (eqb a b) (eqb a 0) h) in
    let y = eqb→eq a 0 (and_r (eqb a b) (eqb a 0) h) in
    omega arith
test→order true a false b h = omega arith
test→order true a true b h =
    let x = le_of_tests b a (eqb a b && true) (λ (u : T (eqb a b && true)). sym (eqb→eq a b (and_l (eqb a b) true u))) h in omega arith

order→test : (s : Bool) (a : ℕ) (t : Bool) (b : ℕ) → P s a + N t b ≤ P t b + N s a → T (test s a t b)
unfolding test
order→test false a false b h = tests_of_le a b (eqb a b && true) (λ (k : b ≤ a). and_i (eqb a b) true (eqb_of a b (omega arith)) tt)
order→test false a true b h = and_i (eqb a b) (eqb a 0) (eqb_of a b (omega arith)) (eqb_of a 0 (omega arith))
order→test true a false b h =
    tests_of_le 0 (a + b) (eqb a b && eqb a 0)
    (λ (k : a + b ≤ 0). and_i (eqb a b) (eqb a 0) (eqb_of a b (omega arith)) (eqb_of a 0 (omega arith)))
order→test true a true b h = tests_of_le b a (eqb a b && true) (λ (k : a ≤ b). and_i (eqb a b) true (eqb_of a b (omega arith)) tt)

le_is : (s : Bool) (m : ℕ) (e : ℤ) (t : Bool) (n : ℕ) (d : ℤ)
    → le (fin s m e) (fin t n d) ≡ test s (m * up e * down d) t (n * up d * down e)
unfolding le test
le_is s m e t n d = refl

-- the fractions of two finite values are in the order of the values
pub le→Le : (s : Bool) (m : ℕ) (e : ℤ) (t : Bool) (n : ℕ) (d : ℤ)
    → T (le (fin s m e) (fin t n d)) → Le s (m * up e) (down e) t (n * up d) (down d)
le→Le s m e t n d h =
    subst (λ (z : ℕ). z + N t (n * up d) * down e ≤ P t (n * up d) * down e + N s (m * up e) * down d) (P-mul s (m * up e) (down d))
    (rw (← P-mul t (n * up d) (down e), ← N-mul t (n * up d) (down e), ← N-mul s (m * up e) (down d))
    (test→order s (m * up e * down d) t (n * up d * down e) (subst (λ (b : Bool). T b) (le_is s m e t n d) h)))

-- two finite values are in the order of their own fractions
pub Le→le : (s : Bool) (m : ℕ) (e : ℤ) (t : Bool) (n : ℕ) (d : ℤ)
    → Le s (m * up e) (down e) t (n * up d) (down d) → T (le (fin s m e) (fin t n d))
Le→le s m e t n d h =
    subst (λ (b : Bool). T b) (sym (le_is s m e t n d))
    (order→test s (m * up e * down d) t (n * up d * down e)
    (rw (P-mul s (m * up e) (down d), P-mul t (n * up d) (down e), N-mul t (n * up d) (down e), N-mul s (m * up e) (down d)) h))

-- ---- `le` by any fractions that two values equal
same-Le : (s : Bool) (a b c d : ℕ) → a * d ≡ c * b → Le s a b s c d
same-Le false a b c d h = omega arith
same-Le true a b c d h = omega arith

-- two values are in the order of the fractions that they equal
pub le_of_signed : (x y : Float) (s : Bool) (a c : ℕ) (t : Bool) (b d : ℕ) → 0 < c → 0 < d
    → HasValue x s a c → HasValue y t b d → Le s a c t b d → T (le x y)
le_of_signed nan y s a c t b d C D v w h = absurd v
le_of_signed (inf _) y s a c t b d C D v w h = absurd v
le_of_signed (fin s' m e) nan s a c t b d C D v w h = absurd w
le_of_signed (fin s' m e) (inf _) s a c t b d C D v w h = absurd w
le_of_signed (fin s' m e) (fin t' n g) s a c t b d C D v w h =
    let l : Le s (m * up e) (down e) s a c = same-Le s (m * up e) (down e) a c v.1 in
    let r : Le t b d t (n * up g) (down g) = same-Le t b d (n * up g) (down g) (sym w.1) in
    let k : Le s (m * up e) (down e) t (n * up g) (down g) =
    Le-trans s (m * up e) (down e) s a c t (n * up g) (down g) C l (Le-trans s a c t b d t (n * up g) (down g) D h r) in
    Le→le s' m e t' n g
    (subst (λ (x : Bool). Le x (m * up e) (down e) t' (n * up g) (down g)) (sym v.0)
    (subst (λ (y : Bool). Le s (m * up e) (down e) y (n * up g) (down g)) (sym w.0) k))

-- the fractions that two values equal are in the order of the values
pub signed_of_le : (x y : Float) (s : Bool) (a c : ℕ) (t : Bool) (b d : ℕ)
    → HasValue x s a c → HasValue y t b d → T (le x y) → Le s a c t b d
signed_of_le nan y s a c t b d v w h = absurd v
signed_of_le (inf _) y s a c t b d v w h = absurd v
signed_of_le (fin s' m e) nan s a c t b d v w h = absurd w
signed_of_le (fin s' m e) (inf _) s a c t b d v w h = absurd w
signed_of_le (fin s' m e) (fin t' n g) s a c t b d v w h =
    let l : Le s a c s (m * up e) (down e) = same-Le s a c (m * up e) (down e) (sym v.1) in
    let r : Le t (n * up g) (down g) t b d = same-Le t (n * up g) (down g) b d w.1 in
    let k : Le s (m * up e) (down e) t (n * up g) (down g) =
    subst (λ (x : Bool). Le s (m * up e) (down e) x (n * up g) (down g)) w.0
    (subst (λ (x : Bool). Le x (m * up e) (down e) t' (n * up g) (down g)) v.0 (le→Le s' m e t' n g h)) in
    Le-trans s a c s (m * up e) (down e) t b d (down_pos e) l
    (Le-trans s (m * up e) (down e) t (n * up g) (down g) t b d (down_pos g) k r)

-- ---- signs

-- x has the sign s, and is no NaN
abbrev pub Signed : Bool → Float → Type 0
Signed s nan = ⊥
Signed s (inf t) = t ≡ s
Signed s (fin t m e) = t ≡ s

-- a finite value with the sign s is ±m * 2 ^ e
pub finite_shape : (s : Bool) (x : Float) → Signed s x → T (finite x) → (m : ℕ) × (e : ℤ) × (x ≡ fin s m e)
finite_shape s nan p q = absurd p
finite_shape s (inf t) p q = absurd q
finite_shape s (fin t m e) p q = (m, e, ap (λ (b : Bool). fin b m e) p)

-- what equals a fraction has the fraction's sign
pub value_signed : (x : Float) (s : Bool) (a c : ℕ) → HasValue x s a c → Signed s x
value_signed nan s a c v = absurd v
value_signed (inf t) s a c v = absurd v
value_signed (fin t m e) s a c v = v.0

-- what equals a fraction is finite
pub value_finite : (x : Float) (s : Bool) (a c : ℕ) → HasValue x s a c → T (finite x)
value_finite nan s a c v = absurd v
value_finite (inf t) s a c v = absurd v
value_finite (fin t m e) s a c v = tt

-- the negative of what equals a fraction equals the negative fraction
pub value_neg : (x : Float) (s : Bool) (a c : ℕ) → HasValue x s a c → HasValue (neg x) (not s) a c
unfolding neg
value_neg nan s a c v = v
value_neg (inf t) s a c v = v
value_neg (fin t m e) s a c v = (ap not v.0, v.1)

-- what has a minus sign is at most what has none
pub le_signed : (x y : Float) → Signed true x → Signed false y → T (le x y)
le_signed nan y p q = absurd p
le_signed (inf s) nan p q = absurd q
le_signed (inf s) (inf t) p q = rw (p, q) (unfold le in tt)
le_signed (inf s) (fin t n d) p q = rw p (unfold le in tt)
le_signed (fin s m e) nan p q = absurd q
le_signed (fin s m e) (inf t) p q = rw q (unfold le in tt)
le_signed (fin s m e) (fin t n d) p q = rw (p, q) (Le→le true m e false n d (omega arith))

-- a change of sign turns the order
pub le_neg : (x y : Float) → T (le x y) → T (le (neg y) (neg x))
unfolding neg le
le_neg nan y h = absurd h
le_neg (inf s) nan h = absurd h
le_neg (inf false) (inf false) h = tt
le_neg (inf false) (inf true) h = absurd h
le_neg (inf true) (inf false) h = tt
le_neg (inf true) (inf true) h = tt
le_neg (inf false) (fin t n d) h = absurd h
le_neg (inf true) (fin t n d) h = tt
le_neg (fin s m e) nan h = absurd h
le_neg (fin s m e) (inf false) h = tt
le_neg (fin s m e) (inf true) h = absurd h
le_neg (fin s m e) (fin t n d) h = Le→le (not t) n d (not s) m e (Le-flip s (m * up e) (down e) t (n * up d) (down d) (le→Le s m e t n d h))

-- ---- `round` and the sign

-- a choice goes through a change of sign
pub cond_neg : (b : Bool) (x y : Float) → cond b (neg x) (neg y) ≡ neg (cond b x y)
cond_neg true x y = refl
cond_neg false x y = refl

-- q * 2 ^ k / 2 ^ l goes through a change of sign
pub odd_not : (d : ℕ) (s : Bool) (q k l : ℕ) → odd d (not s) q k l ≡ neg (odd d s q k l)
unfolding odd neg
odd_not d s zero k l = refl
odd_not d s (suc q) k l = refl

units_not : (f : Format) (s : Bool) (q k : ℕ) → units f (not s) q k ≡ neg (units f s q k)
unfolding units neg
units_not f s q k =
    ap (λ (z : Float). cond (ltb (q * 2 ^ k) (2 ^ (low f + suc (emax f)))) z (inf (not s))) (odd_not (suc (prec f)) s q k (low f))
    ∙ cond_neg (ltb (q * 2 ^ k) (2 ^ (low f + suc (emax f)))) (odd (suc (prec f)) s q k (low f)) (inf s)

-- rounding with the other sign gives the negative
pub round_not : (f : Format) (s : Bool) (a b : ℕ) → round f (not s) a b ≡ neg (round f s a b)
round_not f s a b = round_is f (not s) a b ∙ units_not f s _ _ ∙ ap neg (sym (round_is f s a b))

-- rounding with a minus sign gives the negative
pub round_neg : (f : Format) (a b : ℕ) → round f true a b ≡ neg (round f false a b)
round_neg f a b = round_not f false a b

odd_signed : (d : ℕ) (s : Bool) (q k l : ℕ) → Signed s (odd d s q k l)
unfolding odd
odd_signed d s zero k l = refl
odd_signed d s (suc q) k l = refl

units_signed : (f : Format) (s : Bool) (q k : ℕ) → Signed s (units f s q k)
unfolding units
units_signed f s q k = go (ltb (q * 2 ^ k) (2 ^ (low f + suc (emax f))))
  where
    go : (b : Bool) → Signed s (cond b (odd (suc (prec f)) s q k (low f)) (inf s))
    go true = odd_signed (suc (prec f)) s q k (low f)
    go false = refl

-- rounding keeps the sign that it is given, also of a zero and of an infinity
pub round_signed : (f : Format) (s : Bool) (a b : ℕ) → Signed s (round f s a b)
round_signed f s a b = subst (λ (z : Float). Signed s z) (sym (round_is f s a b)) (units_signed f s _ _)

-- ---- `round` keeps the order

-- the rounding of a zero is a zero
pub round_zero : (f : Format) (s : Bool) (b : ℕ) → 0 < b → HasValue (round f s 0 b) s 0 b
round_zero f s b B =
    round_exact f s 0 b 0 0 B (pow_pos (prec f)) (pow_pos (low f + suc (emax f))) (zero-mul (2 ^ low f) ∙ sym (zero-mul b))

factor_zero : (a d : ℕ) → 0 < d → a * d ≤ 0 → a ≡ 0
factor_zero a d D h = elim (eq-zero-or-pos a) [ inl z ↦ z | inr p ↦ let q = mul-pos p D in omega arith ]

-- rounding keeps the order of signed fractions
pub round-Le : (f : Format) (s : Bool) (a b : ℕ) (t : Bool) (c d : ℕ) → 0 < b → 0 < d → Le s a b t c d
    → T (le (round f s a b) (round f t c d))
round-Le f false a b false c d B D h = round_mono f a b c d B D (omega arith)
round-Le f true a b false c d B D h = le_signed (round f true a b) (round f false c d) (round_signed f true a b) (round_signed f false c d)
round-Le f false a b true c d B D h =
    rw (factor_zero a d D (omega arith), factor_zero c b B (omega arith))
    (le_of_signed (round f false 0 b) (round f true 0 d) false 0 b true 0 d B D
    (round_zero f false b B) (round_zero f true d D) (omega arith))
round-Le f true a b true c d B D h =
    rw (round_neg f a b, round_neg f c d)
    (le_neg (round f false c d) (round f false a b) (round_mono f c d a b D B (omega arith)))

-- ---- other fractions of one value
-- over one denominator there is but one numerator
pub value_unique : (x : Float) (s t : Bool) (a b c : ℕ) → HasValue x s a c → HasValue x t b c → a ≡ b
value_unique nan s t a b c v w = absurd v
value_unique (inf _) s t a b c v w = absurd v
value_unique (fin u m e) s t a b c v w = eq_of_mul-eq-mul_right (down e) (down_pos e) a b (sym v.1 ∙ w.1)

pub value_longer : (x : Float) (s : Bool) (a c p : ℕ) → HasValue x s a c → HasValue x s (a * p) (c * p)
value_longer nan s a c p v = v
value_longer (inf t) s a c p v = v
value_longer (fin t m e) s a c p v =
    (v.0, sym (mul_assoc (m * up e) c p) ∙ ap (λ (z : ℕ). z * p) v.1 ∙ mul_right_comm a (down e) p)

pub value_shorter : (x : Float) (s : Bool) (a c p : ℕ) → 0 < p → HasValue x s (a * p) (c * p) → HasValue x s a c
value_shorter nan s a c p P v = v
value_shorter (inf t) s a c p P v = v
value_shorter (fin t m e) s a c p P v = (
  v.0,
  eq_of_mul-eq-mul_right p P (m * up e * c) (a * down e) (mul_assoc (m * up e) c p ∙ v.1 ∙ mul_right_comm a p (down e)),
)
