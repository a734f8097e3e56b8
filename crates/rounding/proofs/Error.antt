-- How far one rounding lies from the exact result, in whole numbers of the format's smallest unit: half of 2 ^ K units at most,
-- for a result below 2 ^ (prec + K) units. `grid` is the kit's name for what a fraction is rounded to, in units.
--   `closest-near`: the nearest multiple of u to a whole number; `grid-near`: a fraction; `units-near`: a whole number of units;
--   `round-value`: a rounding has the value `grid`, with the sign that it is given; `add-near`: a sum, and how far it is off;
--   `fall-near`: the same of a sum above zero of a value above zero and one that is not;
--   `digits_above`: a K with which 2 ^ K is at most a 64th of a fraction; `round-near`: so the error is small in proportion.
-- Assumes nothing.
use mathlib.Core.Path.{◌≡◌, refl, sym, ap, ◌∙◌, subst}
use Prim.Native.Nat.{ℕ, ◌+◌, ◌-◌, ◌*◌, ◌/◌, ◌%◌, ◌^◌, ◌≤◌, ◌<◌, compare, Ordering}
use native.Mathlib.Nat.{le_of_eq, le_trans, lt_of_le_of_lt, lt_of_lt_of_le, mul_comm, mul_assoc, one-mul, mul-one, suc-mul, add-mul, mul-pos}
use native.Mathlib.Nat.{mul-le-mul_right, mul-le-mul_left, mul-lt-mul_of_pos_right, le_of_mul-le-mul_right}
use native.Mathlib.Nat.{div-add-mod', mod-lt, div-lt_iff_lt-mul, le-div_iff_mul-le}
use native.Mathlib.Omega.{arith}
use mathlib.Core.Bool.{Bool, true, false, not}
use lib.Dec.{T, lit≤, ltb, ltb→lt, nltb→le, is_le, compare_is_eq, leb→le, nleb→lt, eqb→eq}
use lib.Pow.{pow_pos, pow-add, pow_mono}
use lib.Ieee.{Float, Format, binary32, binary64, prec, low, nearest, round, add, size}
use lib.Ieee.Digits.{size-le, size-lt, size_reaches}
use lib.Ieee.Fits.{round_is}
use lib.Ieee.Exact.{HasValue, units_val}
use lib.Ieee.Nearest.{closest}
use lib.Ieee.Order.{drop, kept}
use lib.Ieee.Scale.{grid, overflow, finite, round_under}
use Rattle.rounding.proofs.Signed.{P, N}
use Rattle.rounding.proofs.Fraction.{sum_is}
use Rattle.rounding.proofs.Units.{add_units}

-- ---- one rounding
parity : (q u : ℕ) → q % 2 * u ≤ u
parity q u = le_trans (mul-le-mul_right u (one q)) (le_of_eq (one-mul u))
  where
    one : (q : ℕ) → q % 2 ≤ 1
    one q = omega arith

near_core : (q r u : ℕ) (o : Ordering) → (T (is_le o) → r * 2 ≤ u) → (T (not (is_le o)) → u < r * 2) → (T (compare_is_eq o) → r * 2 ≡ u) → r < u
    → (2 * (nearest q o * u) ≤ 2 * (q * u + r) + u) × (2 * (q * u + r) ≤ 2 * (nearest q o * u) + u)
near_core q r u Ordering.lt a b c h = let x = a tt in (omega arith, omega arith)
near_core q r u Ordering.eq a b c h =
    let x = c tt in
    let p = parity q u in
    let s = add-mul q (q % 2) u in
    (rw s (omega arith), rw s (omega arith))
near_core q r u Ordering.gt a b c h = let x = b tt in let s = suc-mul q u in (rw s (omega arith), rw s (omega arith))

-- the nearest multiple of u is half of u away at most
pub closest_near : (n u : ℕ) → 0 < u → (2 * (closest n u * u) ≤ 2 * n + u) × (2 * n ≤ 2 * (closest n u * u) + u)
closest_near n u U =
    let t = n % u * 2 in
    let k = near_core (n / u) (n % u) u (compare t u) (leb→le t u) (nleb→lt t u) (eqb→eq t u) (mod-lt n U) in
    subst (λ (z : ℕ). (2 * (closest n u * u) ≤ 2 * z + u) × (2 * z ≤ 2 * (closest n u * u) + u)) (div-add-mod' n u) k

-- a fraction below 2 ^ (prec + K) units is rounded by half of 2 ^ K units at most
pub grid_near : (f : Format) (a c K : ℕ) → 0 < c → a * 2 ^ low f < 2 ^ (prec f + K) * c
    → (2 * (grid f a c * c) ≤ 2 * (a * 2 ^ low f) + c * 2 ^ K) × (2 * (a * 2 ^ low f) ≤ 2 * (grid f a c * c) + c * 2 ^ K)
grid_near f a c K C h =
    let n = a * 2 ^ low f in
    let d = drop (prec f) n c in
    let D : d ≤ K = few (size (n / c)) (prec f) K (size-le (n / c) (prec f + K) ((div-lt_iff_lt-mul C).1 h)) in
    let e : closest n (c * 2 ^ d) * (c * 2 ^ d) ≡ grid f a c * c =
    ap (λ (z : ℕ). kept (prec f) n c * z) (mul_comm c (2 ^ d)) ∙ sym (mul_assoc (kept (prec f) n c) (2 ^ d) c) in
    let w : c * 2 ^ d ≤ c * 2 ^ K = mul-le-mul_left c (pow_mono D) in
    let k =
    subst (λ (z : ℕ). (2 * z ≤ 2 * n + c * 2 ^ d) × (2 * n ≤ 2 * z + c * 2 ^ d)) e (closest_near n (c * 2 ^ d) (mul-pos C (pow_pos d))) in (
      tidy (2 * (grid f a c * c)) (2 * n) (c * 2 ^ d) (c * 2 ^ K) k.0 w,
      tidy (2 * n) (2 * (grid f a c * c)) (c * 2 ^ d) (c * 2 ^ K) k.1 w,
    )
  where
    few : (z p K : ℕ) → z ≤ p + K → z - p ≤ K
    few z p K h = omega arith

    tidy : (x y u v : ℕ) → x ≤ y + u → u ≤ v → x ≤ y + v
    tidy x y u v h k = omega arith

-- a rounding that does not overflow has the value `grid`, with the sign that it is given
pub round_value : (f : Format) (s : Bool) (a c : ℕ) → grid f a c < overflow f → HasValue (round f s a c) s (grid f a c) (2 ^ low f)
round_value f s a c h =
    subst (λ (z : Float). HasValue z s (grid f a c) (2 ^ low f)) (sym (round_is f s a c))
    (units_val f s (kept (prec f) (a * 2 ^ low f) c) (drop (prec f) (a * 2 ^ low f) c) h)

-- q units below 2 ^ (prec + K) are rounded by half of 2 ^ K units at most
pub units_near : (f : Format) (q K : ℕ) → q < 2 ^ (prec f + K)
    → (2 * grid f q (2 ^ low f) ≤ 2 * q + 2 ^ K) × (2 * q ≤ 2 * grid f q (2 ^ low f) + 2 ^ K)
units_near f q K h =
    let L = 2 ^ low f in
    let G = grid f q L in
    let k = grid_near f q L K (pow_pos (low f)) (mul-lt-mul_of_pos_right h (pow_pos (low f))) in
    (cancel G q (2 ^ K) L (pow_pos (low f)) k.0, cancel q G (2 ^ K) L (pow_pos (low f)) k.1)
  where
    cancel : (a b k L : ℕ) → 0 < L → 2 * (a * L) ≤ 2 * (b * L) + L * k → 2 * a ≤ 2 * b + k
    cancel a b k L l h = le_of_mul-le-mul_right (rw (mul_assoc 2 a L, add-mul (2 * b) k L, mul_assoc 2 b L, mul_comm k L) h) l

-- ---- a sum

-- ±G lies within E / 2 of the sum of ±X and ±Y
abbrev pub NearSum : Bool → ℕ → Bool → ℕ → Bool → ℕ → ℕ → Type 0
NearSum u G s X t Y E =
    (2 * (P u G + (N s X + N t Y)) ≤ 2 * (N u G + (P s X + P t Y)) + E)
    × (2 * (N u G + (P s X + P t Y)) ≤ 2 * (P u G + (N s X + N t Y)) + E)

under_sum : (s : Bool) (X : ℕ) (t : Bool) (Y : ℕ) (u : Bool) (q : ℕ) → P u q + (N s X + N t Y) ≡ N u q + (P s X + P t Y) → q ≤ X + Y
under_sum false X false Y false q h = omega arith
under_sum false X false Y true q h = omega arith
under_sum false X true Y false q h = omega arith
under_sum false X true Y true q h = omega arith
under_sum true X false Y false q h = omega arith
under_sum true X false Y true q h = omega arith
under_sum true X true Y false q h = omega arith
under_sum true X true Y true q h = omega arith

carry : (s : Bool) (X : ℕ) (t : Bool) (Y : ℕ) (u : Bool) (q G E : ℕ) → P u q + (N s X + N t Y) ≡ N u q + (P s X + P t Y)
    → 2 * G ≤ 2 * q + E → 2 * q ≤ 2 * G + E → NearSum u G s X t Y E
carry s X t Y false q G E h a b = (omega arith, omega arith)
carry s X t Y true q G E h a b = (omega arith, omega arith)

-- a sum of values of X and Y units, X + Y below 2 ^ (prec + K), is off by half of 2 ^ K units at most
pub add_near : (f : Format) (x y : Float) (s : Bool) (X : ℕ) (t : Bool) (Y K : ℕ) → HasValue x s X (2 ^ low f) → HasValue y t Y (2 ^ low f)
    → X + Y < 2 ^ (prec f + K) → X + Y + 2 ^ K < overflow f
    → (u : Bool) × (G : ℕ) × HasValue (add f x y) u G (2 ^ low f) × NearSum u G s X t Y (2 ^ K)
add_near f x y s X t Y K v w h k =
    let L = 2 ^ low f in
    let S = sum_is f s X t Y L in
    let q = S.1 in
    let Q : q ≤ X + Y = under_sum s X t Y S.0 q S.3 in
    let n = units_near f q K (lt_of_le_of_lt Q h) in
    let G = grid f q L in (
      S.0,
      G,
      subst (λ (z : Float). HasValue z S.0 G L) (sym (add_units f x y s X t Y L (pow_pos (low f)) v w ∙ S.2))
          (round_value f S.0 q L (small G q (X + Y) (2 ^ K) (overflow f) n.0 Q k)),
      carry s X t Y S.0 q G (2 ^ K) S.3 n.0 n.1,
    )
  where
    small : (G q A E O : ℕ) → 2 * G ≤ 2 * q + E → q ≤ A → A + E < O → G < O
    small G q A E O a b c = omega arith

-- ---- a value above zero and one that is not

-- ±B is not above zero: it is -b
abbrev pub Falls : Bool → ℕ → ℕ → Type 0
Falls s B b = (P s B ≡ 0) × (N s B ≡ b)

one_side : (u : Bool) (G A : ℕ) (s : Bool) (B b E : ℕ) → Falls s B b → NearSum u G false A s B E → 2 * b + E < 2 * A
    → (u ≡ false) × (2 * (G + b) ≤ 2 * A + E) × (2 * A ≤ 2 * (G + b) + E)
one_side false G A s B b E w n h =
    let p = w.0 in
    let q = w.1 in
    let n0 = n.0 in
    let n1 = n.1 in
    (refl, omega arith, omega arith)
one_side true G A s B b E w n h =
    let p = w.0 in
    let q = w.1 in
    let n1 = n.1 in
    absurd (omega arith)

-- A units and -b units: A - b units but for half of 2 ^ K units at most
pub fall_near : (f : Format) (x t : Float) (A : ℕ) (s : Bool) (B b K : ℕ) → HasValue x false A (2 ^ low f) → HasValue t s B (2 ^ low f)
    → Falls s B b → 2 * b + 2 ^ K < 2 * A → A + b < 2 ^ (prec f + K) → A + b + 2 ^ K < overflow f
    → (G : ℕ) × HasValue (add f x t) false G (2 ^ low f) × (2 * (G + b) ≤ 2 * A + 2 ^ K) × (2 * A ≤ 2 * (G + b) + 2 ^ K)
fall_near f x t A s B b K v w z h k o =
    let B-is : B ≡ b = all s B b z in
    let S =
    add_near f x t false A s B K v w (subst (λ (y : ℕ). A + y < 2 ^ (prec f + K)) (sym B-is) k)
    (subst (λ (y : ℕ). A + y + 2 ^ K < overflow f) (sym B-is) o) in
    let R = one_side S.0 S.1 A s B b (2 ^ K) z S.3 h in
    (S.1, subst (λ (u : Bool). HasValue (add f x t) u S.1 (2 ^ low f)) R.0 S.2, R.1, R.2)
  where
    all : (s : Bool) (B b : ℕ) → Falls s B b → B ≡ b
    all false B b z = let p = z.0 in let q = z.1 in omega arith
    all true B b z = z.1

-- ---- errors in proportion

-- the digits of n / c above the first p, for a fraction of 64 or more: 2 ^ K is at most a 64th of it
pub digits_above : (p n c : ℕ) → 7 ≤ p → 0 < c → 64 * c ≤ n → (K : ℕ) × (n < 2 ^ (p + K) * c) × (64 * (c * 2 ^ K) ≤ n)
digits_above p n c P C h =
    let z = size (n / c) in (
      z - p,
      lt_of_lt_of_le ((div-lt_iff_lt-mul C).0 (size-lt (n / c))) (mul-le-mul_right c (pow_mono (enough z p))),
      part (size (n / c)) (ltb p (size (n / c))) (ltb→lt p (size (n / c))) (nltb→le p (size (n / c))) (size_reaches (n / c)),
    )
  where
    enough : (z p : ℕ) → z ≤ p + (z - p)
    enough z p = omega arith

    none : (z p : ℕ) → z ≤ p → z - p ≡ 0
    none z p h = omega arith

    fewer : (z p : ℕ) → p < z → 7 ≤ p → 6 + (z - p) ≤ z - 1
    fewer z p h k = omega arith

    before : (z p : ℕ) → p < z → z - 1 < z
    before z p h = omega arith

    regroup : (c K : ℕ) → 64 * (c * K) ≡ 64 * K * c
    regroup c K = ap (λ (y : ℕ). 64 * y) (mul_comm c K) ∙ sym (mul_assoc 64 K c)

    part : (z : ℕ) (b : Bool) → (T b → p < z) → (T (not b) → z ≤ p) → ((j : ℕ) → j < z → 2 ^ j ≤ n / c) → 64 * (c * 2 ^ (z - p)) ≤ n
    part z false k l r = subst (λ (K : ℕ). 64 * (c * 2 ^ K) ≤ n) (sym (none z p (l tt))) (le_trans (le_of_eq (ap (λ (y : ℕ). 64 * y) (mul-one c))) h)
    part z true k l r =
        le_trans (le_of_eq (regroup c (2 ^ (z - p))))
        (le_trans (mul-le-mul_right c (le_trans (le_of_eq (sym (pow-add 2 6 (z - p)))) (pow_mono (fewer z p (k tt) P))))
        ((le-div_iff_mul-le C).0 (r (z - 1) (before z p (k tt)))))

-- a rounding of 64 units or more, with no overflow, is off by a 128th at most
pub round_near : (f : Format) (a c : ℕ) → 0 < c → 64 * c ≤ a * 2 ^ low f → T (finite (round f false a c))
    → (G : ℕ) × HasValue (round f false a c) false G (2 ^ low f) × (128 * (G * c) ≤ 129 * (a * 2 ^ low f)) × (127 * (a * 2 ^ low f) ≤ 128 * (G * c))
round_near f a c C h F =
    let n = a * 2 ^ low f in
    let G = grid f a c in
    let D = digits_above (prec f) n c (seven f) C h in
    let k = grid_near f a c D.0 C D.1 in
    let b = bounds (G * c) n (c * 2 ^ D.0) k.0 k.1 D.2 in
    (G, round_value f false a c (round_under f a c F), b.0, b.1)
  where
    seven : (f : Format) → 7 ≤ prec f
    seven binary32 = lit≤ tt
    seven binary64 = lit≤ tt

    bounds : (W n E : ℕ) → 2 * W ≤ 2 * n + E → 2 * n ≤ 2 * W + E → 64 * E ≤ n → (128 * W ≤ 129 * n) × (127 * n ≤ 128 * W)
    bounds W n E h k l = (omega arith, omega arith)
