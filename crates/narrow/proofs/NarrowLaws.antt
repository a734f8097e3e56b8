-- Narrowing on the bits: the pattern of the f32 nearest to an f64, from the pattern of the f64.
-- Without the sign: from 2 ^ 128 on the infinity's; down to 2 ^ -126 one that keeps 24 digits; down to 2 ^ -150 a number of units; then 0.
-- Assumes nothing.
use mathlib.Core.Path.{◌≡◌, refl, sym, ap, ◌∙◌, subst}
use mathlib.Core.Logic.{inl, inr}
use mathlib.Core.Bool.{Bool, true, false, not, cond}
use Prim.Native.Nat.{ℕ, zero, suc, ◌+◌, ◌-◌, ◌*◌, ◌/◌, ◌%◌, ◌^◌, ◌<◌, ◌≤◌, zero-le, compare, Ordering}
use native.Mathlib.Nat.{le_refl, le_trans, le_of_eq, eq-or-lt_of_le, eq-zero-or-pos, lt_of_le_of_lt, lt_of_lt_of_le, mod-lt, mod-eq_of_lt, mul-one, mul_comm, mul_assoc, mul_right_comm, mul-le-mul_right, mul-lt-mul_of_pos_right, mul-pos, mul-add-div_right, mul-add-mod_self_right, div-lt_iff_lt-mul, le-div_iff_mul-le, pow-succ', div-eq_of_lt, add-sub_of_le, add_comm, one-mul}
use native.Mathlib.Omega.{arith}
use lib.Arith.{lt_of_le-ne, le-zero}
use lib.Dec.{T, is_le, compare_is_eq, leb→le, nleb→lt, eqb→eq, eqb, eqb_refl, lit≤, lit<}
use lib.Pow.{pow_pos, pow_mono, pow-add, shl_exact}
use lib.Ieee.{Float, nan, inf, fin, Format, binary32, binary64, prec, low, up, down, size, top, of_bits, nearest, odd, units, round, neg, le, lt, eq}
use lib.Ieee.Digits.{size-le, size-lt}
use lib.Ieee.Fits.{round-fits, round_is, down_pos}
use lib.Ieee.Bits.{of_bits-fits}
use lib.Ieee.Nearest.{closest, closest_mono, closest_same, div_same}
use lib.Ieee.Exact.{HasValue}
use lib.Ieee.Order.{drop, kept, round_mono}
use lib.Ieee.Scale.{grid, overflow, round_same, round_val}
use borrow.Author.Tests.{le-ltb}
use Rattle.rounding.proofs.BitOrder.{scaled, bit_val, val_lt, val_le, endless, bits_val, bits_neg}
use Rattle.rounding.proofs.Grid.{pow_cancel_lt}
use Rattle.rounding.proofs.Signed.{round_not}
use Rattle.words.proofs.PatternLaws.{carried, same_value}
use Rattle.narrow.specs.Narrow.{narrow_s}

-- ---- the nearest whole number, by how twice the remainder compares with the divisor
abbrev Is : Ordering → ℕ → ℕ → Type 0
Is Ordering.lt a b = a < b
Is Ordering.eq a b = a ≡ b
Is Ordering.gt a b = b < a

compared : (a b : ℕ) → Is (compare a b) a b
compared a b = go (compare a b) (leb→le a b) (nleb→lt a b) (eqb→eq a b) (λ (e : a ≡ b). subst (λ (z : ℕ). T (eqb a z)) e (eqb_refl a))
  where
    go : (o : Ordering) → (T (is_le o) → a ≤ b) → (T (not (is_le o)) → b < a) → (T (compare_is_eq o) → a ≡ b) → (a ≡ b → T (compare_is_eq o)) → Is o a b
    go Ordering.lt h k e n = lt_of_le-ne (h tt) n
    go Ordering.eq h k e n = e tt
    go Ordering.gt h k e n = k tt

one_order : (a b : ℕ) (o p : Ordering) → Is o a b → Is p a b → o ≡ p
one_order a b Ordering.lt Ordering.lt x y = refl
one_order a b Ordering.eq Ordering.eq x y = refl
one_order a b Ordering.gt Ordering.gt x y = refl
one_order a b Ordering.lt Ordering.eq x y = absurd (omega arith)
one_order a b Ordering.lt Ordering.gt x y = absurd (omega arith)
one_order a b Ordering.eq Ordering.lt x y = absurd (omega arith)
one_order a b Ordering.eq Ordering.gt x y = absurd (omega arith)
one_order a b Ordering.gt Ordering.lt x y = absurd (omega arith)
one_order a b Ordering.gt Ordering.eq x y = absurd (omega arith)

closest_by : (d u : ℕ) (o : Ordering) → Is o (d % u * 2) u → nearest (d / u) o ≡ closest d u
closest_by d u o h = ap (nearest (d / u)) (one_order (d % u * 2) u o (compare (d % u * 2) u) h (compared (d % u * 2) u))

-- ---- the code's unit, and its answer at a tie, with u for 2 ^ w
pub shifted : (w : ℕ) → w < 64 → 1 * 2 ^ w % 2 ^ 64 ≡ 2 ^ w
shifted w h = shl_exact 1 w 64 (lit< tt) (omega arith) ∙ one-mul (2 ^ w)

pub to_even : (d u w : ℕ) → u ≡ 2 ^ w → 0 < w → u / 2 ≤ d % u → d % u ≤ u / 2 → d / u + d / u % 2 ≡ closest d (2 ^ w)
to_even d u zero e p h k = absurd (omega arith)
to_even d u (suc v) e p h k = closest_by d u Ordering.eq (tie (2 ^ v) (e ∙ pow-succ' 2 v)) ∙ ap (closest d) e
  where
    tie : (H : ℕ) → u ≡ 2 * H → d % u * 2 ≡ u
    tie H e = omega arith

-- the quotient leaves room for one more
pub quotient_lt : (d u w : ℕ) → u ≡ 2 ^ w → 0 < w → d < 2 ^ 64 → d / u < 2 ^ 63
quotient_lt d u w e p h = subst (λ (z : ℕ). d / z < 2 ^ 63) (sym e) ((div-lt_iff_lt-mul (pow_pos w)).1 (under (2 ^ w) (pow_mono p)))
  where
    under : (A : ℕ) → 2 ^ 1 ≤ A → d < 2 ^ 63 * A
    under A l = omega arith

-- ---- d and an even number of u more: the nearest is by as much more
nearest_shift : (j q : ℕ) (o : Ordering) → nearest (2 * j + q) o ≡ 2 * j + nearest q o
nearest_shift j q Ordering.lt = refl
nearest_shift j q Ordering.eq = omega arith
nearest_shift j q Ordering.gt = omega arith

closest_shift : (j a b : ℕ) → 0 < b → closest (2 * j * b + a) b ≡ 2 * j + closest a b
closest_shift j a b p =
    ap (λ (z : ℕ). nearest z (compare ((2 * j * b + a) % b * 2) b)) (mul-add-div_right p (2 * j) a)
    ∙ ap (λ (z : ℕ). nearest (2 * j + a / b) (compare (z * 2) b)) (mul-add-mod_self_right (2 * j) b a)
    ∙ nearest_shift j (a / b) (compare (a % b * 2) b)

-- ---- a number of units as a pattern
-- q units are the pattern q, up to the carry into the field
small : (H q : ℕ) → 0 < H → q ≤ H → scaled (q / H) (q % H) H ≡ q
small H q p h =
    elim (eq-or-lt_of_le h) [
      | inl e ↦
          subst (λ (z : ℕ). scaled (z / H) (z % H) H ≡ z) (sym e)
          (ap (λ (z : ℕ). scaled (z / H) (z % H) H) (one H) ∙ carried H 0 0 p zero-le ∙ bare H)
      | inr l ↦ ap (λ (z : ℕ). scaled z (q % H) H) (div-eq_of_lt l) ∙ mod-eq_of_lt l
    ]
  where
    one : (H : ℕ) → H ≡ 1 * H + 0
    one H = omega arith

    bare : (H : ℕ) → (H + 0) * 1 ≡ H
    bare H = omega arith

-- ---- what `round` gives
-- a rounded size that reaches the format's end is the infinity
beyond : (f : Format) (a c : ℕ) → overflow f ≤ grid f a c → round f false a c ≡ inf false
unfolding units
beyond f a c h =
    let p = prec f in
    let n = a * 2 ^ low f in
    round_is f false a c
    ∙ ap (λ (b : Bool). cond b (odd (suc p) false (kept p n c) (drop p n c) (low f)) (inf false)) (le-ltb (grid f a c) (overflow f) h)

-- a pattern that has the rounded size is the rounding's
pub round_pattern : (f : Format) (a c n : ℕ) → n ≤ endless f → bit_val f n ≡ grid f a c → of_bits f n ≡ round f false a c
round_pattern f a c n h e =
    elim (eq-or-lt_of_le h) [
      | inl g ↦ ap (of_bits f) g ∙ last f ∙ sym (beyond f a c (le_of_eq (sym (full f) ∙ ap (bit_val f) (sym g) ∙ e)))
      | inr l ↦
          same_value f (of_bits f n) (round f false a c) false (grid f a c) (2 ^ low f) (pow_pos (low f))
          (of_bits-fits f n) (round-fits f false a c)
          (subst (λ (z : ℕ). HasValue (of_bits f n) false z (2 ^ low f)) e (bits_val f n l))
          (round_val f a c (subst (λ (z : ℕ). z < overflow f) e (under (val_lt f n (endless f) l))))
    ]
  where
    full : (f : Format) → bit_val f (endless f) ≡ overflow f
    full binary32 = refl
    full binary64 = refl

    under : bit_val f n < bit_val f (endless f) → bit_val f n < overflow f
    under h = subst (λ (z : ℕ). bit_val f n < z) (full f) h

    last : (f : Format) → of_bits f (endless f) ≡ inf false
    last binary32 = unfold of_bits in refl
    last binary64 = unfold of_bits in refl

-- the rounded size of a / c, which is D / v units, where k digits are dropped
grid_is : (f : Format) (a c D v k : ℕ) → 0 < c → 0 < v → a * 2 ^ low f * v ≡ D * c → size (D / v) - prec f ≡ k
    → grid f a c ≡ closest D (v * 2 ^ k) * 2 ^ k
grid_is f a c D v k p q e d =
    let n = a * 2 ^ low f in
    ap (λ (z : ℕ). closest n (c * 2 ^ z) * 2 ^ z) (ap (λ (z : ℕ). size z - prec f) (div_same n c D v p q e) ∙ d)
    ∙ ap (λ (z : ℕ). z * 2 ^ k) (closest_same n (c * 2 ^ k) D (v * 2 ^ k) (mul-pos p (pow_pos k)) (mul-pos q (pow_pos k))
    (sym (mul_assoc n v (2 ^ k)) ∙ ap (λ (z : ℕ). z * 2 ^ k) e ∙ mul_assoc D c (2 ^ k)))

-- the same of N units of f64, of which 2 ^ 925 are one unit of f32
grid_of : (N D v k : ℕ) → 0 < v → N * v ≡ D * 2 ^ 925 → size (D / v) - 24 ≡ k
    → grid binary32 N (2 ^ 1074) ≡ closest D (v * 2 ^ k) * 2 ^ k
grid_of N D v k p e =
    grid_is binary32 N (2 ^ 1074) D v k (pow_pos 1074) p
    (mul_right_comm N (2 ^ 149) v ∙ ap (λ (z : ℕ). z * 2 ^ 149) e ∙ mul_assoc D (2 ^ 925) (2 ^ 149))

-- ---- from 2 ^ 128 on: the infinity
-- what is no less than the infinity is the infinity
over_all : (x : Float) → T (le (inf false) x) → x ≡ inf false
unfolding le lt eq
over_all nan h = absurd h
over_all (inf true) h = absurd h
over_all (inf false) h = refl
over_all (fin s m e) h = absurd h

from_2^128 : (b : ℕ) → 0x47f0000000000000 ≤ b → round binary32 false (bit_val binary64 b) (2 ^ 1074) ≡ inf false
unfolding round
from_2^128 b h =
    over_all (round binary32 false (bit_val binary64 b) (2 ^ 1074))
    (round_mono binary32 (2 ^ 128) 1 (bit_val binary64 b) (2 ^ 1074) (pow_pos 0) (pow_pos 1074)
    (le_trans (val_le binary64 0x47f0000000000000 b h) (le_of_eq (sym (mul-one (bit_val binary64 b))))))

-- ---- below 2 ^ -150: less than half a unit
-- up to 24 digits none is dropped
few : (n : ℕ) → n < 2 ^ 24 → size n - 24 ≡ 0
few n h = omega (arith, size-le n 24 h)

below_2^-150 : (b : ℕ) → b < 0x3690000000000000 → grid binary32 (bit_val binary64 b) (2 ^ 1074) ≡ 0
below_2^-150 b h =
    let N = bit_val binary64 b in
    let l : N < 2 ^ 924 = val_lt binary64 b 0x3690000000000000 h in
    let z : N / 2 ^ 925 ≡ 0 = div-eq_of_lt (lt_of_lt_of_le l (double (2 ^ 924))) in
    grid_of N N (2 ^ 925) 0 (pow_pos 925) refl (few (N / 2 ^ 925) (lt_of_le_of_lt (le_of_eq z) (pow_pos 24)))
    ∙ ap (λ (z : ℕ). z * 2 ^ 0) (le-zero (closest_mono N (2 ^ 925) 1 2 (pow_pos 925) (pow_pos 1) (half N (2 ^ 924) l)))
  where
    double : (A : ℕ) → A ≤ 2 * A
    double A = omega arith

    half : (N A : ℕ) → N < A → N * 2 ≤ 1 * (2 * A)
    half N A l = omega arith

-- ---- from 2 ^ -150 to 2 ^ -126, the subnormal f32: the nearest number of units
few_units : (w t : ℕ) → 30 ≤ w → t < 2 ^ 52 → closest (2 ^ 52 + t) (2 ^ w) ≤ 2 ^ 23
few_units w t h l = closest_mono (2 ^ 52 + t) (2 ^ w) (2 ^ 23) 1 (pow_pos w) (pow_pos 0) (under (2 ^ w) (pow_mono h))
  where
    under : (A : ℕ) → 2 ^ 30 ≤ A → (2 ^ 52 + t) * 1 ≤ 2 ^ 23 * A
    under A h = omega arith

subnormal : (x w t : ℕ) → x + w ≡ 925 → 30 ≤ w → t < 2 ^ 52
    → bit_val binary32 (closest (2 ^ 52 + t) (2 ^ w)) ≡ grid binary32 ((2 ^ 52 + t) * 2 ^ x) (2 ^ 1074)
subnormal x w t e h l =
    let D = 2 ^ 52 + t in
    small (2 ^ 23) (closest D (2 ^ w)) (pow_pos 23) (few_units w t h l)
    ∙ sym (grid_of (D * 2 ^ x) D (2 ^ w) 0 (pow_pos w)
    (mul_assoc D (2 ^ x) (2 ^ w) ∙ ap (λ (z : ℕ). D * z) (sym (pow-add 2 x w) ∙ ap (λ (z : ℕ). 2 ^ z) e))
    (few (D / 2 ^ w) ((div-lt_iff_lt-mul (pow_pos w)).1 (short (2 ^ w) (pow_mono h))))
    ∙ mul-one (closest D (2 ^ w * 1)) ∙ ap (closest D) (mul-one (2 ^ w)))
  where
    short : (A : ℕ) → 2 ^ 30 ≤ A → 2 ^ 52 + t < 2 ^ 24 * A
    short A h = omega arith

-- ---- from 2 ^ -126 to 2 ^ 128, the normal f32: of the 53 digits 24 stay
-- D * 2 ^ k / 2 ^ 29 units have 24 + k digits
digits : (D k : ℕ) → 2 ^ 52 ≤ D → D < 2 ^ 53 → size (D * 2 ^ k / 2 ^ 29) - 24 ≡ k
digits D k l h =
    let n = D * 2 ^ k / 2 ^ 29 in
    let lo : 2 ^ 23 * 2 ^ k ≤ n = (le-div_iff_mul-le (pow_pos 29)).1 (least (2 ^ k)) in
    let hi : n < 2 ^ 24 * 2 ^ k = (div-lt_iff_lt-mul (pow_pos 29)).1 (most (2 ^ k) (pow_pos k)) in
    between (size n) (pow_cancel_lt (23 + k) (size n) (lt_of_le_of_lt (subst (λ (z : ℕ). z ≤ n) (sym (pow-add 2 23 k)) lo) (size-lt n)))
    (size-le n (24 + k) (subst (λ (z : ℕ). n < z) (sym (pow-add 2 24 k)) hi))
  where
    least : (K : ℕ) → 2 ^ 23 * K * 2 ^ 29 ≤ D * K
    least K = le_trans (le_of_eq (mul_right_comm (2 ^ 23) K (2 ^ 29))) (mul-le-mul_right K l)

    most : (K : ℕ) → 0 < K → D * K < 2 ^ 24 * K * 2 ^ 29
    most K p = lt_of_lt_of_le (mul-lt-mul_of_pos_right h p) (le_of_eq (mul_right_comm (2 ^ 24) (2 ^ 29) K))

    between : (n : ℕ) → 23 + k < n → n ≤ 24 + k → n - 24 ≡ k
    between n a b = omega arith

-- The exponent's field falls by 896 and 29 digits go, all in one division: a carry out of the digits goes into the field.
normal : (k t : ℕ) → t < 2 ^ 52
    → bit_val binary32 (closest (suc k * 2 ^ 52 + t) (2 ^ 29)) ≡ grid binary32 ((2 ^ 52 + t) * 2 ^ (896 + k)) (2 ^ 1074)
normal k t l =
    let D = 2 ^ 52 + t in
    let q = closest D (2 ^ 29) in
    let lo : 2 ^ 23 ≤ q = closest_mono (2 ^ 23) 1 D (2 ^ 29) (pow_pos 0) (pow_pos 29) (omega arith) in
    let hi : q ≤ 2 ^ 24 = closest_mono D (2 ^ 29) (2 ^ 24) 1 (pow_pos 29) (pow_pos 0) (omega arith) in
    ap (λ (z : ℕ). bit_val binary32 (closest z (2 ^ 29))) (parted k t)
    ∙ ap (bit_val binary32) (closest_shift (k * 2 ^ 22) D (2 ^ 29) (pow_pos 29) ∙ fields q lo)
    ∙ carried (2 ^ 23) k (q - 2 ^ 23) (pow_pos 23) (room q hi)
    ∙ ap (λ (z : ℕ). z * 2 ^ k) (add-sub_of_le lo)
    ∙ sym (grid_of (D * 2 ^ (896 + k)) (D * 2 ^ k) (2 ^ 29) k (pow_pos 29)
    (ap (λ (z : ℕ). D * z * 2 ^ 29) (pow-add 2 896 k) ∙ regroup D (2 ^ 896) (2 ^ k) (2 ^ 29)) (digits D k (omega arith) (omega arith))
    ∙ ap (λ (z : ℕ). z * 2 ^ k) (closest_same (D * 2 ^ k) (2 ^ 29 * 2 ^ k) D (2 ^ 29) (mul-pos (pow_pos 29) (pow_pos k)) (pow_pos 29)
    (mul_right_comm D (2 ^ k) (2 ^ 29) ∙ mul_assoc D (2 ^ 29) (2 ^ k))))
  where
    parted : (k t : ℕ) → suc k * 2 ^ 52 + t ≡ 2 * (k * 2 ^ 22) * 2 ^ 29 + (2 ^ 52 + t)
    parted k t = omega arith

    fields : (q : ℕ) → 2 ^ 23 ≤ q → 2 * (k * 2 ^ 22) + q ≡ suc k * 2 ^ 23 + (q - 2 ^ 23)
    fields q h = omega arith

    room : (q : ℕ) → q ≤ 2 ^ 24 → q - 2 ^ 23 ≤ 2 ^ 23
    room q h = omega arith

    regroup : (D P K R : ℕ) → D * (P * K) * R ≡ D * K * (P * R)
    regroup D P K R =
        ap (λ (z : ℕ). D * z * R) (mul_comm P K) ∙ ap (λ (z : ℕ). z * R) (sym (mul_assoc D K P)) ∙ mul_assoc (D * K) P R

-- ---- narrowing sees only the value, and leaves the sign
pub narrow_value : (x : Float) (s : Bool) (a c : ℕ) → 0 < c → HasValue x s a c → narrow_s x ≡ round binary32 s a c
unfolding narrow_s
narrow_value nan s a c p v = absurd v
narrow_value (inf t) s a c p v = absurd v
narrow_value (fin t m e) s a c p v =
    round_same binary32 t (m * up e) (down e) a c (down_pos e) p v.1 ∙ ap (λ (z : Bool). round binary32 z a c) v.0

narrow_pattern : (b : ℕ) → b < endless binary64 → narrow_s (of_bits binary64 b) ≡ round binary32 false (bit_val binary64 b) (2 ^ 1074)
narrow_pattern b h = narrow_value (of_bits binary64 b) false (bit_val binary64 b) (2 ^ 1074) (pow_pos 1074) (bits_val binary64 b h)

pub narrow_neg : (x : Float) → narrow_s (neg x) ≡ neg (narrow_s x)
unfolding narrow_s neg
narrow_neg nan = refl
narrow_neg (inf s) = refl
narrow_neg (fin s m e) = round_not binary32 s (m * up e) (down e)

-- ---- n is the pattern of the narrowed value, both without their signs
abbrev pub Narrowed : ℕ → ℕ → Type 0
Narrowed b n = (of_bits binary32 n ≡ narrow_s (of_bits binary64 b)) × (n ≤ endless binary32)

-- from 2 ^ 128 on
pub narrowed_large : (b : ℕ) → 0x47f0000000000000 ≤ b → b ≤ endless binary64 → Narrowed b (endless binary32)
unfolding of_bits narrow_s
narrowed_large b h k = (
  elim (eq-or-lt_of_le k) [
    | inl e ↦ ap (λ (z : ℕ). narrow_s (of_bits binary64 z)) (sym e)
    | inr l ↦ sym (narrow_pattern b l ∙ from_2^128 b h)
  ],
  le_refl (endless binary32),
)

by_value : (b n : ℕ) → b < 0x47f0000000000000 → n ≤ endless binary32
    → bit_val binary32 n ≡ grid binary32 (bit_val binary64 b) (2 ^ 1074) → Narrowed b n
by_value b n h k e = (round_pattern binary32 (bit_val binary64 b) (2 ^ 1074) n k e ∙ sym (narrow_pattern b (lt_of_lt_of_le h (lit≤ tt))), k)

-- the rounded size, where the exponent's field is suc x
field_value : (b x : ℕ) → b / 2 ^ 52 ≡ suc x
    → grid binary32 ((2 ^ 52 + b % 2 ^ 52) * 2 ^ x) (2 ^ 1074) ≡ grid binary32 (bit_val binary64 b) (2 ^ 1074)
field_value b x e = ap (λ (z : ℕ). grid binary32 (scaled z (b % 2 ^ 52) (2 ^ 52)) (2 ^ 1074)) (sym e)

-- from 2 ^ -126 to 2 ^ 128
pub narrowed_normal : (b : ℕ) → 0x3810000000000000 ≤ b → b < 0x47f0000000000000
    → Narrowed b (closest (b - 0x3800000000000000) (2 ^ 29))
narrowed_normal b l h =
    let k = b / 2 ^ 52 - 897 in
    let e : b - 0x3800000000000000 ≡ suc k * 2 ^ 52 + b % 2 ^ 52 = omega arith in
    by_value b (closest (b - 0x3800000000000000) (2 ^ 29)) h
    (closest_mono (b - 0x3800000000000000) (2 ^ 29) (endless binary32) 1 (pow_pos 29) (pow_pos 0) (omega arith))
    (ap (λ (z : ℕ). bit_val binary32 (closest z (2 ^ 29))) e
    ∙ normal k (b % 2 ^ 52) (mod-lt b (pow_pos 52)) ∙ field_value b (896 + k) (omega arith))

-- from 2 ^ -150 to 2 ^ -126
pub narrowed_subnormal : (b : ℕ) → 873 ≤ b / 2 ^ 52 → b < 0x3810000000000000
    → Narrowed b (closest (b % 2 ^ 52 + 2 ^ 52) (2 ^ (926 - b / 2 ^ 52)))
narrowed_subnormal b l h =
    let w = 926 - b / 2 ^ 52 in
    let x = b / 2 ^ 52 - 1 in
    let t = b % 2 ^ 52 in
    let l' : t < 2 ^ 52 = mod-lt b (pow_pos 52) in
    subst (λ (D : ℕ). Narrowed b (closest D (2 ^ w))) (add_comm (2 ^ 52) t)
    (by_value b (closest (2 ^ 52 + t) (2 ^ w)) (omega arith) (le_trans (few_units w t (omega arith) l') (lit≤ tt))
    (subnormal x w t (omega arith) (omega arith) l' ∙ field_value b x (omega arith)))

-- below 2 ^ -150
pub narrowed_tiny : (b : ℕ) → b / 2 ^ 52 < 873 → Narrowed b 0
narrowed_tiny b h = by_value b 0 (omega arith) zero-le (sym (below_2^-150 b (omega arith)))

-- ---- the sign of the pattern is that of the result
pub narrowed_plus : (b n : ℕ) → b < top binary64 → Narrowed (b % top binary64) n → of_bits binary32 n ≡ narrow_s (of_bits binary64 b)
narrowed_plus b n h r = r.0 ∙ ap (λ (z : ℕ). narrow_s (of_bits binary64 z)) (mod-eq_of_lt h)

pub narrowed_minus : (b n : ℕ) → top binary64 ≤ b → b < 2 * top binary64 → Narrowed (b % top binary64) n
    → of_bits binary32 (n + top binary32) ≡ narrow_s (of_bits binary64 b)
narrowed_minus b n h k r =
    let t = b % top binary64 in
    let e : top binary64 + t ≡ b = omega arith in
    ap (of_bits binary32) (add_comm n (top binary32))
    ∙ bits_neg binary32 n (lt_of_le_of_lt r.1 (lit< tt))
    ∙ ap neg r.0
    ∙ sym (narrow_neg (of_bits binary64 t))
    ∙ ap narrow_s (sym (bits_neg binary64 t (mod-lt b (lit< tt))) ∙ ap (of_bits binary64) e)

-- either sign: b / top is the sign bit
pub narrowed_either : (b n : ℕ) → b < 2 * top binary64 → Narrowed (b % top binary64) n
    → of_bits binary32 (n + b / top binary64 * top binary32) ≡ narrow_s (of_bits binary64 b)
narrowed_either b n k r =
    elim (eq-zero-or-pos (b / top binary64)) [
      | inl h ↦ ap (of_bits binary32) (plus h) ∙ narrowed_plus b n (omega arith) r
      | inr h ↦ ap (of_bits binary32) (minus h) ∙ narrowed_minus b n (omega arith) k r
    ]
  where
    plus : b / top binary64 ≡ 0 → n + b / top binary64 * top binary32 ≡ n
    plus h = omega arith

    minus : 0 < b / top binary64 → n + b / top binary64 * top binary32 ≡ n + top binary32
    minus h = omega arith
