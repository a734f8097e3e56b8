-- k_sinf for sizes from 2 ^ -100 to the f64 nearest pi/4: of an x above zero it lies from half of x to twice x (`sinf_range`); of a -x it is the negative of
-- that (`sinf_odd`); of either zero it is +0 (`sinf_zero`).
-- What is narrowed is x + t + u, t from -x/4 to 0 and u from -x/16 to 0. In units of 2 ^ -1074 it is worked out with the errors of its two sums, each at most
-- a 64th of x, and narrowing moves it by a 128th. Assumes nothing.
use mathlib.Core.Path.{◌≡◌, refl, sym, ap, ◌∙◌, subst}
use mathlib.Core.List.{[], ◌∷◌}
use Prim.Native.Nat.{ℕ, suc, ◌+◌, ◌*◌, ◌^◌, ◌≤◌, ◌<◌}
use native.Mathlib.Nat.{mul_comm, mul_assoc, mul_right_comm, mul-one, zero-mul, mul-le-mul_right, mul-le-mul_left, mul-pos, le_of_mul-le-mul_right, le_of_eq}
use native.Mathlib.Nat.{le_trans as ≤_trans}
use native.Mathlib.Omega.{arith}
use mathlib.Core.Bool.{Bool, true, false, true≢false}
use lib.IntN.{ℤ, pos, negsuc}
use lib.Dec.{T, lit≤, ltb→lt}
use lib.Pow.{pow_pos, pow-add, pow_mono}
use lib.Ieee.{Float, nan, inf, fin, binary32, binary64, add, mul, neg, le, fits, up, down, low, of_bits, round}
use lib.Ieee.Exact.{HasValue}
use lib.Ieee.Fits.{mul-fits, down_pos, round-fits, fits_widens}
use lib.Ieee.Order.{le_of_values}
use lib.Ieee.Positive.{positive, positive_of_value, first_pos}
use lib.Ieee.Scale.{overflow, finite}
use Rattle.rounding.proofs.Signed.{P, N, finite_shape, signed_of_le}
use Rattle.rounding.proofs.Order.{le_refl, le_trans, between_finite}
use Rattle.rounding.proofs.Fraction.{mul_commutes}
use Rattle.rounding.proofs.Grid.{OnGrid, on_grid, spare}
use Rattle.rounding.proofs.Units.{mul_units}
use Rattle.rounding.proofs.Exact.{round_at_least}
use Rattle.rounding.proofs.Error.{Falls, fall_near, digits_above}
use Rattle.rounding.proofs.Relative.{zero+, one+, two+, power_below, part-, quarter-, part_exact, part_finite}
use Rattle.rounding.proofs.Odd.{mul_neg, mul_neg_right, mul_neg_both, add_odd}
use Rattle.rounding.proofs.Range.{Expr, var, con, plus, times, eval, ieval, In, range_test, range}
use Rattle.words.specs.F64.{◌⊕◌, ◌⊗◌}
use Rattle.narrow.specs.Narrow.{narrow_s}
use Rattle.narrow.proofs.NarrowLaws.{narrow_value, narrow_neg}
use Rattle.trig.specs.KSinf.{S1, S2, S3, S4, k_sinf_s}
use Rattle.trig.proofs.CosineRange.{pio4}
use Rattle.trig.proofs.SineRange.{mul_plus, square_range, times_under, product_range}
use Rattle.trig.proofs.Narrowing.{narrow_in, narrow_near}

-- ---- the two factors, in z
abbrev fac_e : Expr
fac_e = plus (con S1) (times (var 0) (con S2))

abbrev last_e : Expr
last_e = plus (con S3) (times (var 0) (con S4))

fac_test : T (range_test binary64 quarter- zero+ fac_e [] zero+ one+)
unfolding ieval mul add le of_bits
fac_test = tt

last_test : T (range_test binary64 (part- 3) zero+ last_e [] zero+ one+)
unfolding ieval mul add le of_bits
last_test = tt

fourth_test : T (range_test binary64 zero+ one+ (times (var 0) (var 0)) [] zero+ one+)
unfolding ieval mul le of_bits
fourth_test = tt

abbrev fac : Float → Float
fac z = eval binary64 (z ∷ []) fac_e

abbrev rest : Float → Float
rest z = eval binary64 (z ∷ []) last_e

abbrev term : Float → Float
term x = x ⊗ x ⊗ x ⊗ fac (x ⊗ x)

abbrev last : Float → Float
last x = x ⊗ x ⊗ x ⊗ (x ⊗ x ⊗ (x ⊗ x)) ⊗ rest (x ⊗ x)

-- what is narrowed
abbrev wide : Float → Float
wide x = x ⊕ term x ⊕ last x

sinf_is : (x : Float) → k_sinf_s x ≡ narrow_s (wide x)
unfolding eval k_sinf_s
sinf_is x = refl

-- the first lies from -x/4 to 0, the second from -x/16 to 0
terms_range : (m : ℕ) (e : ℤ) → T (fits binary64 (fin false m e)) → T (le (fin false m e) pio4)
    → In (fin false m e ⊗ quarter-) zero+ (term (fin false m e)) × In (fin false m e ⊗ part- 3) zero+ (last (fin false m e))
terms_range m e F hi =
    let x = fin false m e in
    let z = x ⊗ x in
    let zi = square_range m e hi in
    let wi : In zero+ one+ (z ⊗ z) = unfold eval in (range binary64 zero+ one+ (times (var 0) (var 0)) [] [] zero+ one+ z fourth_test tt zi) in
    let s = times_under m e z x (mul_plus m e m e) zi (F, refl, le_refl x tt) in
    let zs = finite_shape false z (mul_plus m e m e) (between_finite zero+ z one+ tt tt zi.0 zi.1) in
    let w = times_under m e (z ⊗ z) (z ⊗ x) (rw zs.2 (mul_plus zs.0 zs.1 zs.0 zs.1)) wi s in (
      product_range 1 m e (z ⊗ x) _ s (range binary64 quarter- zero+ fac_e [] [] zero+ one+ z fac_test tt zi),
      subst (λ (y : Float). In (x ⊗ part- 3) zero+ (y ⊗ rest z)) (mul_commutes binary64 (z ⊗ z) (z ⊗ x))
          (product_range 3 m e (z ⊗ z ⊗ (z ⊗ x)) _ w (range binary64 (part- 3) zero+ last_e [] [] zero+ one+ z last_test tt zi)),
    )

-- ---- in units
abbrev unit : ℕ
unit = 2 ^ low binary64

-- x is A units: what lies from -x/2 ^ (k + 1) to 0 is -b units, b at most that part of A
falls_units : (k m : ℕ) (e : ℤ) (j : ℕ) (t : Float) → OnGrid binary64 m e j → suc k ≤ j → T (fits binary64 t)
    → In (fin false m e ⊗ part- k) zero+ t
    → (s : Bool) × (B : ℕ) × (b : ℕ) × HasValue t s B unit × Falls s B b × (b * 2 ^ suc k ≤ m * 2 ^ j)
falls_units k m e j t g J F i =
    go t F i (between_finite (fin false m e ⊗ part- k) t zero+ (part_finite binary64 k m e j g J) tt i.0 i.1)
  where
    nothing : (s : Bool) (B L : ℕ) → P s B * 1 + 0 * L ≤ 0 * L + N s B * 1 → P s B ≡ 0
    nothing false B L h = omega arith
    nothing true B L h = refl

    small : (p n X D K A L : ℕ) → 0 < D → X * L ≡ A * D → p ≡ 0 → 0 * L + n * (D * K) ≤ p * (D * K) + X * L → n * K ≤ A
    small p n X D K A L d e z h =
        let a : n * (D * K) ≡ n * K * D = ap (λ (y : ℕ). n * y) (mul_comm D K) ∙ sym (mul_assoc n K D) in
        let c : p * (D * K) ≡ 0 = ap (λ (y : ℕ). y * (D * K)) z ∙ zero-mul (D * K) in
        le_of_mul-le-mul_right (omega arith) d

    go : (t : Float) → T (fits binary64 t) → In (fin false m e ⊗ part- k) zero+ t → T (finite t)
        → (s : Bool) × (B : ℕ) × (b : ℕ) × HasValue t s B unit × Falls s B b × (b * 2 ^ suc k ≤ m * 2 ^ j)
    go nan F i X = absurd X
    go (inf s) F i X = absurd X
    go (fin s n d) F i X =
        let h = on_grid binary64 s n d F in
        let B = n * 2 ^ h.0 in
        let v : HasValue (fin s n d) s B unit = (refl, h.1.0) in
        let D = down e * 2 ^ suc k in
        let lo = signed_of_le (fin false m e ⊗ part- k) (fin s n d) true (m * up e) D s B unit (part_exact binary64 k m e j g J) v i.0 in
        let z = nothing s B unit (signed_of_le (fin s n d) zero+ s B unit false 0 1 v (refl, refl) i.1) in
        (s, B, N s B, v, (z, refl), small (P s B) (N s B) (m * up e) (down e) (2 ^ suc k) (m * 2 ^ j) unit (down_pos e) g.0 z lo)

-- x + t and x + t + u, for an x of A units up to 1
sums : (x t u : Float) (A : ℕ) (s : Bool) (B b : ℕ) (r : Bool) (C c : ℕ) → HasValue x false A unit → HasValue t s B unit → HasValue u r C unit
    → Falls s B b → Falls r C c → b * 4 ≤ A → c * 16 ≤ A → 64 ≤ A → A ≤ unit
    → T (positive (x ⊕ t)) × ((G : ℕ) × HasValue (x ⊕ t ⊕ u) false G unit × (21 * A ≤ 32 * G) × (32 * G ≤ 33 * A))
sums x t u A s B b r C c v w y p q h k a l =
    let D = digits_above 53 (2 * A) 1 (lit≤ tt) (pow_pos 0) (twice A a) in
    let K = D.0 in
    let E = 2 ^ K in
    let i = first A b E (2 ^ (53 + K)) unit (overflow binary64) h a D.1 D.2 l (lit≤ tt) in
    let M = fall_near binary64 x t A s B b K v w p i.0 i.1 i.2 in
    let o = second A b c M.0 E (2 ^ (53 + K)) unit (overflow binary64) h k a D.1 D.2 l (lit≤ tt) M.2 M.3 in
    let R = fall_near binary64 (x ⊕ t) u M.0 r C c K M.1 y q o.0 o.1 o.2 in
    let e = third A b c M.0 R.0 E h k a D.2 M.2 M.3 R.2 R.3 in
    (positive_of_value (x ⊕ t) M.0 unit M.1 o.3, (R.0, R.1, e.0, e.1))
  where
    twice : (A : ℕ) → 64 ≤ A → 64 * 1 ≤ 2 * A
    twice A a = omega arith

    first : (A b E W L O : ℕ) → b * 4 ≤ A → 64 ≤ A → 2 * A < W * 1 → 64 * (1 * E) ≤ 2 * A → A ≤ L → 4 * L ≤ O
        → (2 * b + E < 2 * A) × (A + b < W) × (A + b + E < O)
    first A b E W L O h a d f l o = (omega arith, omega arith, omega arith)

    second : (A b c G E W L O : ℕ) → b * 4 ≤ A → c * 16 ≤ A → 64 ≤ A → 2 * A < W * 1 → 64 * (1 * E) ≤ 2 * A → A ≤ L → 4 * L ≤ O
        → 2 * (G + b) ≤ 2 * A + E → 2 * A ≤ 2 * (G + b) + E → (2 * c + E < 2 * G) × (G + c < W) × (G + c + E < O) × (0 < G)
    second A b c G E W L O h k a d f l o x y = (omega arith, omega arith, omega arith, omega arith)

    third : (A b c G H E : ℕ) → b * 4 ≤ A → c * 16 ≤ A → 64 ≤ A → 64 * (1 * E) ≤ 2 * A
        → 2 * (G + b) ≤ 2 * A + E → 2 * A ≤ 2 * (G + b) + E → 2 * (H + c) ≤ 2 * G + E → 2 * G ≤ 2 * (H + c) + E
        → (21 * A ≤ 32 * H) × (32 * H ≤ 33 * A)
    third A b c G H E h k a f x y z w = (omega arith, omega arith)

-- 2 ^ -100
abbrev pub tiny : Float
tiny = fin false 1 (negsuc 99)

-- x is A units, and 2 ^ 100 x is 1 at least
from_tiny : (m : ℕ) (e : ℤ) (j : ℕ) → OnGrid binary64 m e j → T (le tiny (fin false m e)) → unit ≤ m * 2 ^ j * 2 ^ 100
from_tiny m e j g h = tidy (2 ^ 100) (m * up e) (down e) (m * 2 ^ j) unit (down_pos e) g.0 (power_below 99 m e h)
  where
    tidy : (K X D A L : ℕ) → 0 < D → X * L ≡ A * D → D ≤ X * K → L ≤ A * K
    tidy K X D A L d e h =
        le_of_mul-le-mul_right
        (≤_trans (le_of_eq (mul_comm L D))
        (≤_trans (mul-le-mul_right L h) (le_of_eq (mul_right_comm X K L ∙ ap (λ (y : ℕ). y * K) e ∙ mul_right_comm A D K)))) d

-- ---- from half to twice

-- k lies from half of x to twice x, and above zero
abbrev pub HalfToTwice : Float → Float → Type 0
HalfToTwice x k = T (le x (k ⊗ two+)) × T (le k (x ⊗ two+)) × T (positive k)

-- y is A / L and w is G / M
under_twice : (y w : Float) (A L G M : ℕ) → T (fits binary64 y) → 0 < L → 0 < M → HasValue y false A L → HasValue w false G M
    → A * M ≤ 2 * (G * L) → T (le y (w ⊗ two+))
under_twice nan w A L G M F l p v u h = absurd v
under_twice (inf s) w A L G M F l p v u h = absurd v
under_twice (fin true m e) w A L G M F l p v u h = absurd (true≢false v.0)
under_twice (fin false m e) w A L G M F l p v u h =
    rw (mul_units binary64 w two+ false G M false 2 1 p (pow_pos 0) u (refl, refl))
    (round_at_least binary64 false (G * 2) (M * 1) false m e F (mul-pos p (pow_pos 0)) (tidy (m * up e) (down e) v.1))
  where
    tidy : (X D : ℕ) → X * L ≡ A * D → X * (M * 1) + 0 * D ≤ G * 2 * D + 0 * (M * 1)
    tidy X D e =
        let a : X * M * L ≡ A * M * D = mul_right_comm X M L ∙ ap (λ (z : ℕ). z * M) e ∙ mul_right_comm A D M in
        let b : 2 * (G * L) * D ≡ G * 2 * D * L =
        ap (λ (z : ℕ). z * D) (sym (mul_assoc 2 G L) ∙ ap (λ (z : ℕ). z * L) (mul_comm 2 G)) ∙ mul_right_comm (G * 2) L D in
        let c : X * M ≤ G * 2 * D = le_of_mul-le-mul_right (≤_trans (le_of_eq a) (≤_trans (mul-le-mul_right D h) (le_of_eq b))) l in
        let d : X * (M * 1) ≡ X * M = ap (λ (z : ℕ). X * z) (mul-one M) in
        omega arith

-- G units, 21/32 of A at least, are 64 smallest units of f32 at least
wide_enough : (A G : ℕ) → 21 * A ≤ 32 * G → unit ≤ A * 2 ^ 100 → 64 * unit ≤ G * 2 ^ 149
wide_enough A G h k =
    ≤_trans (mul-le-mul_left 64 k)
    (≤_trans (le_of_eq (sym (mul_assoc 64 A (2 ^ 100))))
    (≤_trans (mul-le-mul_right (2 ^ 100) (more A G h)) (le_of_eq (mul_assoc G (2 ^ 49) (2 ^ 100)))))
  where
    more : (A G : ℕ) → 21 * A ≤ 32 * G → 64 * A ≤ G * 2 ^ 49
    more A G h = omega arith

some_units : (A : ℕ) → unit ≤ A * 2 ^ 100 → 64 ≤ A
some_units A h = ≤_trans (pow_mono six) (le_of_mul-le-mul_right (≤_trans (le_of_eq (sym (pow-add 2 974 100))) h) (pow_pos 100))
  where
    six : 6 ≤ 974
    six = lit≤ tt

-- x is A units, up to 1, and k is G units, from 21/32 to 33/32 of that: k narrowed lies from half of x to twice x
half_to_twice : (x k : Float) (A G : ℕ) → T (fits binary64 x) → HasValue x false A unit → HasValue k false G unit → 0 < A → 21 * A ≤ 32 * G
    → 32 * G ≤ 33 * A → unit ≤ A * 2 ^ 100 → A ≤ unit → HalfToTwice x (narrow_s k)
half_to_twice x k A G F v w a lo hi far top =
    let L = pow_pos (low binary64) in
    let M = pow_pos 149 in
    let i =
    narrow_in k false 0 (pos 0) false 1 (pos 1) (unfold fits in tt) (unfold fits in tt) (
      le_of_values zero+ k 0 1 G unit (pow_pos 0) L (refl, refl) w (nought G unit),
      le_of_values k two+ G unit 2 1 L (pow_pos 0) w (refl, refl) (under-two A G unit hi top),
    ) in
    let n = narrow_near k G unit L w (wide_enough A G lo far) (between_finite zero+ (narrow_s k) two+ tt tt i.0 i.1) in
    let H = n.0 in
    let c = ends A G H unit (2 ^ 149) lo hi n.2 n.3 in
    let N : T (fits binary64 (narrow_s k)) = fits_widens (narrow_s k) (rw (narrow_value k false G unit L w) (round-fits binary32 false G unit)) in (
      under_twice x (narrow_s k) A unit H (2 ^ 149) F L M v n.1 c.0,
      under_twice (narrow_s k) x H (2 ^ 149) A unit N M L n.1 v c.1,
      positive_of_value (narrow_s k) H (2 ^ 149) n.1 (first_pos H unit (half-some (A * 2 ^ 149) (H * unit) (mul-pos a M) c.0)),
    )
  where
    nought : (G L : ℕ) → 0 * L ≤ G * 1
    nought G L = omega arith

    under-two : (A G L : ℕ) → 32 * G ≤ 33 * A → A ≤ L → G * 1 ≤ 2 * L
    under-two A G L h k = omega arith

    half-some : (U W : ℕ) → 0 < U → U ≤ 2 * W → 0 < W
    half-some U W u h = omega arith

    spread : (p A q G M : ℕ) → p * A ≤ q * G → p * (A * M) ≤ q * (G * M)
    spread p A q G M h = ≤_trans (le_of_eq (sym (mul_assoc p A M))) (≤_trans (mul-le-mul_right M h) (le_of_eq (mul_assoc q G M)))

    ends : (A G H L M : ℕ) → 21 * A ≤ 32 * G → 32 * G ≤ 33 * A → 128 * (H * L) ≤ 129 * (G * M) → 127 * (G * M) ≤ 128 * (H * L)
        → (A * M ≤ 2 * (H * L)) × (H * L ≤ 2 * (A * M))
    ends A G H L M h k a b =
        let h' : 21 * (A * M) ≤ 32 * (G * M) = spread 21 A 32 G M h in
        let k' : 32 * (G * M) ≤ 33 * (A * M) = spread 32 G 33 A M k in
        (omega arith, omega arith)

-- the two sums are above zero, and k_sinf lies from half to twice
sinf_plus : (m : ℕ) (e : ℤ) → T (fits binary64 (fin false m e)) → 0 < m → T (le tiny (fin false m e)) → T (le (fin false m e) pio4)
    → T (positive (fin false m e ⊕ term (fin false m e))) × T (positive (wide (fin false m e))) × HalfToTwice (fin false m e) (k_sinf_s (fin false m e))
sinf_plus m e F M lo hi =
    let x = fin false m e in
    let g = on_grid binary64 false m e F in
    let j = g.0 in
    let A = m * 2 ^ j in
    let a = mul-pos M (pow_pos j) in
    let v : HasValue x false A unit = (refl, g.1.0) in
    let far = from_tiny m e j g.1 lo in
    let J = plenty j (spare binary64 m e j 100 g.1 (power_below 99 m e lo)) in
    let r = terms_range m e F hi in
    let f = falls_units 1 m e j (term x) g.1 (≤_trans (lit≤ tt) J) (mul-fits binary64 (x ⊗ x ⊗ x) (fac (x ⊗ x))) r.0 in
    let l = falls_units 3 m e j (last x) g.1 J (mul-fits binary64 (x ⊗ x ⊗ x ⊗ (x ⊗ x ⊗ (x ⊗ x))) (rest (x ⊗ x))) r.1 in
    let top = at_most_one A unit (signed_of_le x one+ false A unit false 1 1 v (refl, refl) (le_trans x pio4 one+ hi (unfold of_bits le in tt))) in
    let S =
    sums x (term x) (last x) A f.0 f.1 f.2 l.0 l.1 l.2 v f.3 l.3 f.4 l.4 f.5 l.5 (some_units A far) top in
    let k = S.1 in (
      S.0,
      positive_of_value (wide x) k.0 unit k.1 (some A k.0 a k.2),
      rw (sinf_is x) (half_to_twice x (wide x) A k.0 F v k.1 a k.2 k.3 far top),
    )
  where
    plenty : (j : ℕ) → 1074 < 53 + j + 100 → 4 ≤ j
    plenty j h = omega arith

    at_most_one : (A L : ℕ) → A * 1 + 0 * L ≤ 1 * L + 0 * 1 → A ≤ L
    at_most_one A L h = omega arith

    some : (A G : ℕ) → 0 < A → 21 * A ≤ 32 * G → 0 < G
    some A G a h = omega arith

-- ---- the promises

-- above zero, from 2 ^ -100 to the f64 nearest pi/4
abbrev pub Angle : Float → Type 0
Angle x = T (fits binary64 x) × T (positive x) × T (le tiny x) × T (le x pio4)

plus_all : (x : Float) → Angle x → T (positive (x ⊕ term x)) × T (positive (wide x)) × HalfToTwice x (k_sinf_s x)
plus_all nan a = absurd a.1
plus_all (inf s) a = absurd a.1
plus_all (fin true m e) a = absurd a.1
plus_all (fin false m e) a = sinf_plus m e a.0 (ltb→lt 0 m a.1) a.2 a.3

-- from half of x to twice x
pub sinf_range : (x : Float) → Angle x → HalfToTwice x (k_sinf_s x)
sinf_range x a = (plus_all x a).2

-- k_sinf of -x is the negative of k_sinf of x
pub sinf_odd : (x : Float) → Angle x → k_sinf_s (neg x) ≡ neg (k_sinf_s x)
sinf_odd x a =
    let p = plus_all x a in
    let z = x ⊗ x in
    let s = z ⊗ x in
    sinf_is (neg x)
    ∙ ap (λ (u : Float). narrow_s (neg x ⊕ u ⊗ neg x ⊗ fac u ⊕ u ⊗ neg x ⊗ (u ⊗ u) ⊗ rest u)) (mul_neg_both binary64 x x)
    ∙ ap (λ (u : Float). narrow_s (neg x ⊕ u ⊗ fac z ⊕ u ⊗ (z ⊗ z) ⊗ rest z)) (mul_neg_right binary64 z x)
    ∙ ap (λ (u : Float). narrow_s (neg x ⊕ u ⊕ neg s ⊗ (z ⊗ z) ⊗ rest z)) (mul_neg binary64 s (fac z))
    ∙ ap (λ (u : Float). narrow_s (u ⊕ neg s ⊗ (z ⊗ z) ⊗ rest z)) (add_odd binary64 x (s ⊗ fac z) p.0)
    ∙ ap (λ (u : Float). narrow_s (neg (x ⊕ s ⊗ fac z) ⊕ u ⊗ rest z)) (mul_neg binary64 s (z ⊗ z))
    ∙ ap (λ (u : Float). narrow_s (neg (x ⊕ s ⊗ fac z) ⊕ u)) (mul_neg binary64 (s ⊗ (z ⊗ z)) (rest z))
    ∙ ap narrow_s (add_odd binary64 (x ⊕ s ⊗ fac z) (s ⊗ (z ⊗ z) ⊗ rest z) p.1)
    ∙ narrow_neg (wide x)
    ∙ ap neg (sym (sinf_is x))

-- of either zero it is +0
wide_zero : (s : Bool) → wide (fin s 0 (pos 0)) ≡ zero+
unfolding eval mul add of_bits
wide_zero true = refl
wide_zero false = refl

pub sinf_zero : (s : Bool) → k_sinf_s (fin s 0 (pos 0)) ≡ zero+
unfolding round
sinf_zero s = sinf_is (fin s 0 (pos 0)) ∙ ap narrow_s (wide_zero s) ∙ narrow_value zero+ false 0 1 (pow_pos 0) (refl, refl)
