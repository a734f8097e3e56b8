-- The rounded operations keep or turn the order in each operand, on finite values of all signs:
--   `add-mono`: a sum grows with both operands;
--   `mul-mono-plus`, `mul-anti-minus`: a product by a factor with no minus sign keeps the order, by one with a minus sign it turns it;
--   `div-mono-left`, `div-anti-right`, `div-mono-right`: the same of a quotient by a divisor above zero, and of a growing divisor;
--   `mul-between`, `div-between-left`, `div-between-right`: so the result at a point lies between those at the two ends.
-- Assumes nothing.
use mathlib.Core.Path.{◌≡◌, ap, ◌∙◌}
use mathlib.Core.Logic.{inl, inr}
use Prim.Native.Nat.{ℕ, ◌+◌, ◌*◌, ◌≤◌, ◌<◌}
use native.Mathlib.Nat.{mul_comm, mul_assoc, mul_left_comm, mul-add, add-mul, mul-le-mul_right, mul-pos}
use native.Mathlib.Omega.{arith}
use mathlib.Core.Bool.{Bool, true, false}
use lib.IntN.{ℤ}
use lib.Dec.{T, ltb→lt}
use lib.Ieee.{Float, nan, inf, fin, Format, up, down, round, neg, add, mul, div, le}
use lib.Ieee.Fits.{up_pos, down_pos}
use lib.Ieee.Scale.{finite}
use lib.Ieee.Positive.{positive}
use Rattle.rounding.proofs.Signed.{P, N, Le, Le-scale, le→Le, le_neg, round-Le}
use Rattle.rounding.proofs.Order.{Between}
use Rattle.rounding.proofs.Fraction.{unlike_false, add_fraction, mul_is, div_is}
use Rattle.rounding.proofs.Odd.{mul_neg_right, div_neg}

-- ---- sums and differences

-- x ≤ x' and y ≤ y', by parts above and below zero over denominators, and the parts u and v of x + y, u' and v' of x' + y'
add_core : (px nx dx py ny dy px' nx' dx' py' ny' dy' u v u' v' : ℕ)
    → px * dx' + nx' * dx ≤ px' * dx + nx * dx' → py * dy' + ny' * dy ≤ py' * dy + ny * dy'
    → u + (nx * dy + ny * dx) ≡ v + (px * dy + py * dx) → u' + (nx' * dy' + ny' * dx') ≡ v' + (px' * dy' + py' * dx')
    → u * (dx' * dy') + v' * (dx * dy) ≤ u' * (dx * dy) + v * (dx' * dy')
add_core px nx dx py ny dy px' nx' dx' py' ny' dy' u v u' v' h k i j =
    let h' = simp (mul_assoc, mul_comm, mul_left_comm, mul-add, add-mul) at (mul-le-mul_right (dy * dy') h) in
    let k' = simp (mul_assoc, mul_comm, mul_left_comm, mul-add, add-mul) at (mul-le-mul_right (dx * dx') k) in
    let i' = simp (mul_assoc, mul_comm, mul_left_comm, mul-add, add-mul) at (ap (λ (z : ℕ). z * (dx' * dy')) i) in
    let j' = simp (mul_assoc, mul_comm, mul_left_comm, mul-add, add-mul) at (ap (λ (z : ℕ). z * (dx * dy)) j) in
    simp (mul_assoc, mul_comm, mul_left_comm, mul-add, add-mul) (omega arith)

-- a sum grows with both operands
pub add_mono : (f : Format) (x x' y y' : Float) → T (finite x) → T (finite x') → T (finite y) → T (finite y')
    → T (le x x') → T (le y y') → T (le (add f x y) (add f x' y'))
add_mono f nan x' y y' p p' q q' h k = absurd p
add_mono f (inf s) x' y y' p p' q q' h k = absurd p
add_mono f (fin s m e) nan y y' p p' q q' h k = absurd p'
add_mono f (fin s m e) (inf _) y y' p p' q q' h k = absurd p'
add_mono f (fin s m e) (fin s' m' e') nan y' p p' q q' h k = absurd q
add_mono f (fin s m e) (fin s' m' e') (inf _) y' p p' q q' h k = absurd q
add_mono f (fin s m e) (fin s' m' e') (fin t n d) nan p p' q q' h k = absurd q'
add_mono f (fin s m e) (fin s' m' e') (fin t n d) (inf _) p p' q q' h k = absurd q'
add_mono f (fin s m e) (fin s' m' e') (fin t n d) (fin t' n' d') p p' q q' h k =
    let S = add_fraction f s m e t n d in
    let S' = add_fraction f s' m' e' t' n' d' in
    rw (S.2, S'.2)
    (round-Le f S.0 S.1 (down e * down d) S'.0 S'.1 (down e' * down d')
    (mul-pos (down_pos e) (down_pos d)) (mul-pos (down_pos e') (down_pos d'))
    (add_core
    (P s (m * up e)) (N s (m * up e)) (down e) (P t (n * up d)) (N t (n * up d)) (down d)
    (P s' (m' * up e')) (N s' (m' * up e')) (down e') (P t' (n' * up d')) (N t' (n' * up d')) (down d')
    (P S.0 S.1) (N S.0 S.1) (P S'.0 S'.1) (N S'.0 S'.1)
    (le→Le s m e s' m' e' h) (le→Le t n d t' n' d' k) S.3 S'.3))

-- ---- products

-- two fractions in order, each times b / d, are rounded in order
round_scaled : (f : Format) (s : Bool) (a c : ℕ) (t : Bool) (a' c' b d : ℕ) → 0 < c → 0 < c' → 0 < d → Le s a c t a' c'
    → T (le (round f s (a * b) (c * d)) (round f t (a' * b) (c' * d)))
round_scaled f s a c t a' c' b d C C' D h =
    round-Le f s (a * b) (c * d) t (a' * b) (c' * d) (mul-pos C D) (mul-pos C' D) (Le-scale s a c t a' c' b d h)

-- a product by a factor with no minus sign grows with the other
pub mul_mono_plus : (f : Format) (x x' : Float) (n : ℕ) (d : ℤ) → T (finite x) → T (finite x') → T (le x x')
    → T (le (mul f x (fin false n d)) (mul f x' (fin false n d)))
mul_mono_plus f nan x' n d p p' h = absurd p
mul_mono_plus f (inf s) x' n d p p' h = absurd p
mul_mono_plus f (fin s m e) nan n d p p' h = absurd p'
mul_mono_plus f (fin s m e) (inf t) n d p p' h = absurd p'
mul_mono_plus f (fin s m e) (fin t o g) n d p p' h =
    rw (mul_is f s m e false n d, mul_is f t o g false n d, unlike_false s, unlike_false t)
    (round_scaled f s (m * up e) (down e) t (o * up g) (down g) (n * up d) (down d)
    (down_pos e) (down_pos g) (down_pos d) (le→Le s m e t o g h))

mul_minus : (f : Format) (x : Float) (n : ℕ) (d : ℤ) → mul f x (fin true n d) ≡ neg (mul f x (fin false n d))
unfolding neg
mul_minus f x n d = mul_neg_right f x (fin false n d)

-- a product by a factor with a minus sign falls as the other grows
pub mul_anti_minus : (f : Format) (x x' : Float) (n : ℕ) (d : ℤ) → T (finite x) → T (finite x') → T (le x x')
    → T (le (mul f x' (fin true n d)) (mul f x (fin true n d)))
mul_anti_minus f x x' n d p p' h =
    rw (mul_minus f x n d, mul_minus f x' n d)
    (le_neg (mul f x (fin false n d)) (mul f x' (fin false n d)) (mul_mono_plus f x x' n d p p' h))

-- for x between a and b, x * y lies between a * y and b * y
pub mul_between : (f : Format) (a x b y : Float) → T (finite a) → T (finite x) → T (finite b) → T (finite y)
    → T (le a x) → T (le x b) → Between (mul f a y) (mul f b y) (mul f x y)
mul_between f a x b nan p q r z h k = absurd z
mul_between f a x b (inf t) p q r z h k = absurd z
mul_between f a x b (fin false n d) p q r z h k = inl (mul_mono_plus f a x n d p q h, mul_mono_plus f x b n d q r k)
mul_between f a x b (fin true n d) p q r z h k = inr (mul_anti_minus f x b n d q r k, mul_anti_minus f a x n d p q h)

-- ---- quotients, by a divisor above zero

-- a quotient grows with the value divided
pub div_mono_left : (f : Format) (x x' : Float) (n : ℕ) (d : ℤ) → 0 < n → T (finite x) → T (finite x') → T (le x x')
    → T (le (div f x (fin false n d)) (div f x' (fin false n d)))
div_mono_left f nan x' n d n0 p p' h = absurd p
div_mono_left f (inf s) x' n d n0 p p' h = absurd p
div_mono_left f (fin s m e) nan n d n0 p p' h = absurd p'
div_mono_left f (fin s m e) (inf t) n d n0 p p' h = absurd p'
div_mono_left f (fin s m e) (fin t o g) n d n0 p p' h =
    rw (div_is f s m e false n d n0, div_is f t o g false n d n0, unlike_false s, unlike_false t)
    (round_scaled f s (m * up e) (down e) t (o * up g) (down g) (down d) (n * up d)
    (down_pos e) (down_pos g) (mul-pos n0 (up_pos d)) (le→Le s m e t o g h))

-- y ≤ y' turns into 1 / y' ≤ 1 / y
recip : (b d b' d' : ℕ) → Le false b d false b' d' → Le false d' b' false d b
recip b d b' d' h = let p = mul_comm b d' in let q = mul_comm b' d in omega arith

-- the quotient as 1 / y times x
div_recip : (f : Format) (m : ℕ) (e : ℤ) (n : ℕ) (d : ℤ) → 0 < n
    → div f (fin false m e) (fin false n d) ≡ round f false (down d * (m * up e)) (n * up d * down e)
div_recip f m e n d h =
    div_is f false m e false n d h
    ∙ ap (λ (a : ℕ). round f false a (down e * (n * up d))) (mul_comm (m * up e) (down d))
    ∙ ap (λ (a : ℕ). round f false (down d * (m * up e)) a) (mul_comm (down e) (n * up d))

-- the quotient of a value with no minus sign falls as the divisor grows
pub div_anti_right : (f : Format) (m : ℕ) (e : ℤ) (n : ℕ) (d : ℤ) (n' : ℕ) (d' : ℤ) → 0 < n → 0 < n'
    → T (le (fin false n d) (fin false n' d')) → T (le (div f (fin false m e) (fin false n' d')) (div f (fin false m e) (fin false n d)))
div_anti_right f m e n d n' d' n0 n0' h =
    rw (div_recip f m e n d n0, div_recip f m e n' d' n0')
    (round_scaled f false (down d') (n' * up d') false (down d) (n * up d) (m * up e) (down e)
    (mul-pos n0' (up_pos d')) (mul-pos n0 (up_pos d)) (down_pos e)
    (recip (n * up d) (down d) (n' * up d') (down d') (le→Le false n d false n' d' h)))

div_minus : (f : Format) (m : ℕ) (e : ℤ) (y : Float) → div f (fin true m e) y ≡ neg (div f (fin false m e) y)
unfolding neg
div_minus f m e y = div_neg f (fin false m e) y

-- the quotient of a value with a minus sign grows with the divisor
pub div_mono_right : (f : Format) (m : ℕ) (e : ℤ) (n : ℕ) (d : ℤ) (n' : ℕ) (d' : ℤ) → 0 < n → 0 < n'
    → T (le (fin false n d) (fin false n' d')) → T (le (div f (fin true m e) (fin false n d)) (div f (fin true m e) (fin false n' d')))
div_mono_right f m e n d n' d' n0 n0' h =
    rw (div_minus f m e (fin false n d), div_minus f m e (fin false n' d'))
    (le_neg (div f (fin false m e) (fin false n' d')) (div f (fin false m e) (fin false n d)) (div_anti_right f m e n d n' d' n0 n0' h))

-- for x between a and b, x / y lies between a / y and b / y
pub div_between_left : (f : Format) (a x b y : Float) → T (finite a) → T (finite x) → T (finite b) → T (positive y)
    → T (le a x) → T (le x b) → Between (div f a y) (div f b y) (div f x y)
div_between_left f a x b nan p q r z h k = absurd z
div_between_left f a x b (inf t) p q r z h k = absurd z
div_between_left f a x b (fin true n d) p q r z h k = absurd z
div_between_left f a x b (fin false n d) p q r z h k =
    inl (div_mono_left f a x n d (ltb→lt 0 n z) p q h, div_mono_left f x b n d (ltb→lt 0 n z) q r k)

-- for y between c and d, x / y lies between x / c and x / d
pub div_between_right : (f : Format) (x c y d : Float) → T (finite x) → T (positive c) → T (positive y) → T (positive d)
    → T (le c y) → T (le y d) → Between (div f x c) (div f x d) (div f x y)
div_between_right f nan c y d p q r z h k = absurd p
div_between_right f (inf s) c y d p q r z h k = absurd p
div_between_right f (fin s m e) nan y d p q r z h k = absurd q
div_between_right f (fin s m e) (inf _) y d p q r z h k = absurd q
div_between_right f (fin s m e) (fin true _ _) y d p q r z h k = absurd q
div_between_right f (fin s m e) (fin false c g) nan d p q r z h k = absurd r
div_between_right f (fin s m e) (fin false c g) (inf _) d p q r z h k = absurd r
div_between_right f (fin s m e) (fin false c g) (fin true _ _) d p q r z h k = absurd r
div_between_right f (fin s m e) (fin false c g) (fin false y i) nan p q r z h k = absurd z
div_between_right f (fin s m e) (fin false c g) (fin false y i) (inf _) p q r z h k = absurd z
div_between_right f (fin s m e) (fin false c g) (fin false y i) (fin true _ _) p q r z h k = absurd z
div_between_right f (fin false m e) (fin false c g) (fin false y i) (fin false d j) p q r z h k =
    inr (div_anti_right f m e y i d j (ltb→lt 0 y r) (ltb→lt 0 d z) k, div_anti_right f m e c g y i (ltb→lt 0 c q) (ltb→lt 0 y r) h)
div_between_right f (fin true m e) (fin false c g) (fin false y i) (fin false d j) p q r z h k =
    inl (div_mono_right f m e c g y i (ltb→lt 0 c q) (ltb→lt 0 y r) h, div_mono_right f m e y i d j (ltb→lt 0 y r) (ltb→lt 0 d z) k)
