-- Operations on values given as whole numbers of a common unit 1 / L, or as any fractions that they equal:
--   `add-units`: a sum is the rounding of the signed sum of the two numbers;
--   `sub-units`, `sub-units-neg`: a difference of values with no minus sign, either way round;
--   `mul-units`: a product is the rounding of the product of the two fractions.
-- Assumes nothing.
use mathlib.Core.Path.{◌≡◌, refl, sym, ap, ◌∙◌, subst}
use Prim.Native.Nat.{ℕ, ◌+◌, ◌-◌, ◌*◌, ◌≤◌, ◌<◌}
use native.Mathlib.Nat.{mul_comm, mul_assoc, mul_right_comm, add-mul, mul-sub, mul-mul-mul_comm, mul-pos, mul-lt-mul_of_pos_right}
use native.Mathlib.Nat.{lt_of_mul-lt-mul_right, not-le_of_lt}
use mathlib.Core.Bool.{Bool, true, false, ◌&&◌, cond}
use lib.Dec.{T, ltb, ltb→lt, lt→ltb, not_T}
use lib.Ieee.{Float, nan, inf, fin, Format, up, down, unlike, round, neg, sum, add, sub, mul}
use lib.Ieee.Bits.{is_true, cond_no}
use lib.Ieee.Fits.{down_pos}
use lib.Ieee.Exact.{HasValue}
use lib.Ieee.Scale.{round_same}
use Rattle.rounding.proofs.Signed.{value_neg}
use Rattle.rounding.proofs.Fraction.{add_is, sub_is, mul_is}

-- ---- a sum over another denominator: a / c is a' / L and b / c is b' / L
bool_same : (a b : Bool) → (T a → T b) → (T b → T a) → a ≡ b
bool_same true true f g = refl
bool_same false false f g = refl
bool_same true false f g = absurd (f tt)
bool_same false true f g = absurd (g tt)

lt_scaled : (a b c a' b' L : ℕ) → 0 < L → a * L ≡ a' * c → b * L ≡ b' * c → T (ltb a b) → T (ltb a' b')
lt_scaled a b c a' b' L l p q t =
    lt→ltb a' b'
    (lt_of_mul-lt-mul_right c
    (subst (λ (z : ℕ). z < b' * c) p (subst (λ (z : ℕ). a * L < z) q (mul-lt-mul_of_pos_right (ltb→lt a b t) l))))

ltb_scaled : (a b c a' b' L : ℕ) → 0 < L → 0 < c → a * L ≡ a' * c → b * L ≡ b' * c → ltb a b ≡ ltb a' b'
ltb_scaled a b c a' b' L l C p q =
    bool_same (ltb a b) (ltb a' b') (lt_scaled a b c a' b' L l p q) (lt_scaled a' b' L a b c C (sym p) (sym q))

minus_scaled : (a b c a' b' L : ℕ) → a * L ≡ a' * c → b * L ≡ b' * c → (a - b) * L ≡ (a' - b') * c
minus_scaled a b c a' b' L p q =
    mul_comm (a - b) L
    ∙ mul-sub L a b
    ∙ ap (λ (z : ℕ). z - L * b) (mul_comm L a ∙ p ∙ mul_comm a' c)
    ∙ ap (λ (z : ℕ). c * a' - z) (mul_comm L b ∙ q ∙ mul_comm b' c)
    ∙ sym (mul-sub c a' b')
    ∙ mul_comm c (a' - b')

plus_scaled : (a b c a' b' L : ℕ) → a * L ≡ a' * c → b * L ≡ b' * c → (a + b) * L ≡ (a' + b') * c
plus_scaled a b c a' b' L p q =
    add-mul a b L ∙ ap (λ (z : ℕ). z + b * L) p ∙ ap (λ (z : ℕ). a' * c + z) q ∙ sym (add-mul a' b' c)

sum_same : (f : Format) (s : Bool) (a : ℕ) (t : Bool) (b c a' b' L : ℕ) → 0 < c → 0 < L → a * L ≡ a' * c → b * L ≡ b' * c
    → sum f s a t b c ≡ sum f s a' t b' L
unfolding sum
sum_same f s a t b c a' b' L C l p q =
    rw (
      round_same f s (a + b) c (a' + b') L C l (plus_scaled a b c a' b' L p q),
      round_same f t (b - a) c (b' - a') L C l (minus_scaled b a c b' a' L q p),
      round_same f (s && ltb b a) (a - b) c (a' - b') L C l (minus_scaled a b c a' b' L p q),
      ltb_scaled a b c a' b' L l C p q,
      ltb_scaled b a c b' a' L l C q p,
    )

-- ---- sums
cross : (M D E X L : ℕ) → M * L ≡ X * D → M * E * L ≡ X * (D * E)
cross M D E X L h = mul_right_comm M E L ∙ ap (λ (z : ℕ). z * E) h ∙ mul_assoc X D E

-- a sum of ±X / L and ±Y / L
pub add_units : (f : Format) (x y : Float) (s : Bool) (X : ℕ) (t : Bool) (Y L : ℕ) → 0 < L → HasValue x s X L → HasValue y t Y L
    → add f x y ≡ sum f s X t Y L
add_units f nan y s X t Y L l v w = absurd v
add_units f (inf _) y s X t Y L l v w = absurd v
add_units f (fin s' m e) nan s X t Y L l v w = absurd w
add_units f (fin s' m e) (inf _) s X t Y L l v w = absurd w
add_units f (fin s' m e) (fin t' n d) s X t Y L l v w =
    add_is f s' m e t' n d
    ∙ ap (λ (b : Bool). sum f b (m * up e * down d) t' (n * up d * down e) (down e * down d)) v.0
    ∙ ap (λ (b : Bool). sum f s (m * up e * down d) b (n * up d * down e) (down e * down d)) w.0
    ∙ sum_same f s (m * up e * down d) t (n * up d * down e) (down e * down d) X Y L (mul-pos (down_pos e) (down_pos d)) l
    (cross (m * up e) (down e) (down d) X L v.1)
    (cross (n * up d) (down d) (down e) Y L w.1 ∙ ap (λ (z : ℕ). Y * z) (mul_comm (down d) (down e)))

-- ---- differences of values with no minus sign
diff_units : (f : Format) (x y : Float) (X Y L : ℕ) → 0 < L → HasValue x false X L → HasValue y false Y L
    → sub f x y ≡ cond (ltb X Y) (round f true (Y - X) L) (round f false (X - Y) L)
diff_units f x y X Y L l v w = sub_is f x y ∙ add_units f x (neg y) false X true Y L l v (value_neg y false Y L w) ∙ opened
  where
    opened : sum f false X true Y L ≡ cond (ltb X Y) (round f true (Y - X) L) (round f false (X - Y) L)
    opened = unfold sum in refl

-- X / L less Y / L, for Y up to X
pub sub_units : (f : Format) (x y : Float) (X Y L : ℕ) → 0 < L → HasValue x false X L → HasValue y false Y L → Y ≤ X
    → sub f x y ≡ round f false (X - Y) L
sub_units f x y X Y L l v w h =
    diff_units f x y X Y L l v w
    ∙ cond_no (ltb X Y) (round f true (Y - X) L) (round f false (X - Y) L)
    (not_T (ltb X Y) (λ (u : T (ltb X Y)). not-le_of_lt (ltb→lt X Y u) h))

-- X / L less Y / L, for Y above X
pub sub_units_neg : (f : Format) (x y : Float) (X Y L : ℕ) → 0 < L → HasValue x false X L → HasValue y false Y L → X < Y
    → sub f x y ≡ round f true (Y - X) L
sub_units_neg f x y X Y L l v w h =
    diff_units f x y X Y L l v w
    ∙ ap (λ (b : Bool). cond b (round f true (Y - X) L) (round f false (X - Y) L)) (is_true (ltb X Y) (lt→ltb X Y h))

-- ---- products

-- a product of ±X / c and ±Y / d
pub mul_units : (f : Format) (x y : Float) (s : Bool) (X c : ℕ) (t : Bool) (Y d : ℕ) → 0 < c → 0 < d → HasValue x s X c → HasValue y t Y d
    → mul f x y ≡ round f (unlike s t) (X * Y) (c * d)
mul_units f nan y s X c t Y d C D v w = absurd v
mul_units f (inf _) y s X c t Y d C D v w = absurd v
mul_units f (fin s' m e) nan s X c t Y d C D v w = absurd w
mul_units f (fin s' m e) (inf _) s X c t Y d C D v w = absurd w
mul_units f (fin s' m e) (fin t' n g) s X c t Y d C D v w =
    mul_is f s' m e t' n g
    ∙ ap (λ (b : Bool). round f (unlike b t') (m * up e * (n * up g)) (down e * down g)) v.0
    ∙ ap (λ (b : Bool). round f (unlike s b) (m * up e * (n * up g)) (down e * down g)) w.0
    ∙ round_same f (unlike s t) (m * up e * (n * up g)) (down e * down g) (X * Y) (c * d) (mul-pos (down_pos e) (down_pos g)) (mul-pos C D)
    (mul-mul-mul_comm (m * up e) (n * up g) c d
    ∙ ap (λ (z : ℕ). z * (n * up g * d)) v.1
    ∙ ap (λ (z : ℕ). X * down e * z) w.1
    ∙ mul-mul-mul_comm X (down e) Y (down g))
