-- Bounds in proportion to an operand, down to the subnormals:
--   `mul-le-self`, `self-le-mul`: z * x is at most x for a z up to 1, and at least x for a z from 1 on, where x has no minus sign;
--   `mul-part`: v * c lies from x * p to 0, for v from 0 to x and c from p to 0, p a negative power of two below zero (`part-exact`: x * p is exact);
--   `add-quarter`: x + t lies from half of x to x and is above zero, for t from -x/4 to 0; `add_nothing`: the same for a t that is a zero;
--   `zero-le`: what has no minus sign is at least zero; `power_below`: a value from a negative power of two on, in whole numbers.
-- Assumes nothing.
use mathlib.Core.Path.{◌≡◌, ap, ◌∙◌, subst}
use Prim.Native.Nat.{ℕ, suc, ◌+◌, ◌*◌, ◌^◌, ◌≤◌, ◌<◌}
use native.Mathlib.Nat.{zero-mul, one-mul, mul-one, mul_comm, mul_assoc, mul_left_comm, mul_right_comm, mul-add, add-mul, mul-pos}
use native.Mathlib.Omega.{arith}
use mathlib.Core.Bool.{true, false, true≢false, false≢true}
use lib.IntN.{ℤ, pos, negsuc}
use lib.Dec.{T, lt→ltb}
use lib.Pow.{pow_pos}
use lib.Ieee.{Float, nan, inf, fin, Format, up, down, round, add, mul, le, fits}
use lib.Ieee.Fits.{up_pos, down_pos}
use lib.Ieee.Exact.{HasValue}
use lib.Ieee.Scale.{finite}
use lib.Ieee.Positive.{positive, between, positive_of_value}
use Rattle.rounding.proofs.Signed.{P, N, Le-refl, Le→le, le→Le, round-Le, Signed, value_finite}
use Rattle.rounding.proofs.Order.{le_refl, le_trans, between_finite}
use Rattle.rounding.proofs.Fraction.{add_fraction, mul_is, mul_commutes}
use Rattle.rounding.proofs.Monotone.{add_mono, mul_mono_plus, mul_anti_minus}
use Rattle.rounding.proofs.Grid.{OnGrid}
use Rattle.rounding.proofs.Exact.{round_at_most, round_at_least, add_zero, shrink_exact}

-- ---- the constants

-- +0
abbrev pub zero+ : Float
zero+ = fin false 0 (pos 0)

-- 1
abbrev pub one+ : Float
one+ = fin false 1 (pos 0)

-- 2
abbrev pub two+ : Float
two+ = fin false 1 (pos 1)

-- -1/2 ^ (k + 1)
abbrev pub part- : ℕ → Float
part- k = fin true 1 (negsuc k)

-- -1/4
abbrev pub quarter- : Float
quarter- = part- 1

-- what has no minus sign is at least zero
pub zero_le : (x : Float) → Signed false x → T (le zero+ x)
zero_le nan p = absurd p
zero_le (inf s) p = rw p (unfold le in tt)
zero_le (fin s m e) p = rw p (Le→le false 0 (pos 0) false m e (omega arith))

-- 2 ^ -(n + 1) ≤ m * 2 ^ e, in whole numbers
pub power_below : (n m : ℕ) (e : ℤ) → T (le (fin false 1 (negsuc n)) (fin false m e)) → down e ≤ m * up e * 2 ^ suc n
power_below n m e h = tidy (2 ^ suc n) (m * up e) (down e) (le→Le false 1 (negsuc n) false m e h)
  where
    tidy : (K a D : ℕ) → 1 * D + 0 * K ≤ a * K + 0 * D → D ≤ a * K
    tidy K a D h = omega arith

-- ---- products
one_is : (f : Format) (m : ℕ) (e : ℤ) → mul f one+ (fin false m e) ≡ round f false (m * up e) (down e)
one_is f m e =
    mul_is f false 1 (pos 0) false m e
    ∙ ap (λ (a : ℕ). round f false a (1 * down e)) (one-mul (m * up e))
    ∙ ap (λ (a : ℕ). round f false (m * up e) a) (one-mul (down e))

-- z * x is at most x, for a z up to 1
pub mul_le_self : (f : Format) (z : Float) (m : ℕ) (e : ℤ) → T (fits f (fin false m e)) → T (finite z) → T (le z one+)
    → T (le (mul f z (fin false m e)) (fin false m e))
mul_le_self f z m e t Z h =
    le_trans (mul f z (fin false m e)) (mul f one+ (fin false m e)) (fin false m e) (mul_mono_plus f z one+ m e Z tt h)
    (rw (one_is f m e) (round_at_most f false (m * up e) (down e) false m e t (down_pos e) (Le-refl false (m * up e) (down e))))

-- z * x is at least x, for a z from 1 on
pub self_le_mul : (f : Format) (z : Float) (m : ℕ) (e : ℤ) → T (fits f (fin false m e)) → T (finite z) → T (le one+ z)
    → T (le (fin false m e) (mul f z (fin false m e)))
self_le_mul f z m e t Z h =
    le_trans (fin false m e) (mul f one+ (fin false m e)) (mul f z (fin false m e))
    (rw (one_is f m e) (round_at_least f false (m * up e) (down e) false m e t (down_pos e) (Le-refl false (m * up e) (down e))))
    (mul_mono_plus f one+ z m e tt Z h)

zero_times : (f : Format) (n : ℕ) (d : ℤ) → T (fits f zero+) → T (le (mul f zero+ (fin false n d)) zero+)
zero_times f n d z =
    rw (mul_is f false 0 (pos 0) false n d)
    (round_at_most f false (0 * (n * up d)) (1 * down d) false 0 (pos 0) z (mul-pos (pow_pos 0) (down_pos d))
    (let p = zero-mul (n * up d) in omega arith))

-- v * c lies from x * p to 0, for v from 0 to x and c from p to 0, where p is -1/2 ^ (k + 1)
pub mul_part : (f : Format) (k m : ℕ) (e : ℤ) (n : ℕ) (d : ℤ) (c : Float) → T (fits f zero+) → T (finite c)
    → T (le (fin false n d) (fin false m e)) → T (le (part- k) c) → T (le c zero+)
    → T (le (mul f (fin false m e) (part- k)) (mul f (fin false n d) c)) × T (le (mul f (fin false n d) c) zero+)
mul_part f k m e n d c z C h lo hi =
    let v = fin false n d in (
      le_trans (mul f (fin false m e) (part- k)) (mul f v (part- k)) (mul f v c)
          (mul_anti_minus f v (fin false m e) 1 (negsuc k) tt tt h)
          (rw (mul_commutes f v (part- k), mul_commutes f v c) (mul_mono_plus f (part- k) c n d tt C lo)),
      rw (mul_commutes f v c) (le_trans (mul f c v) (mul f zero+ v) zero+ (mul_mono_plus f c zero+ n d C tt hi) (zero_times f n d z)),
    )

-- ---- x * -(1/2 ^ (k + 1)), for an x with k + 1 digits to spare
part_is : (f : Format) (k m : ℕ) (e : ℤ) → mul f (fin false m e) (part- k) ≡ round f true (m * up e) (down e * 2 ^ suc k)
part_is f k m e = mul_is f false m e true 1 (negsuc k) ∙ ap (λ (a : ℕ). round f true a (down e * 2 ^ suc k)) (mul-one (m * up e))

-- it is exact
pub part_exact : (f : Format) (k m : ℕ) (e : ℤ) (j : ℕ) → OnGrid f m e j → suc k ≤ j
    → HasValue (mul f (fin false m e) (part- k)) true (m * up e) (down e * 2 ^ suc k)
part_exact f k m e j g J = rw (part_is f k m e) (shrink_exact f true m e j (suc k) g J)

-- so it is finite
pub part_finite : (f : Format) (k m : ℕ) (e : ℤ) (j : ℕ) → OnGrid f m e j → suc k ≤ j → T (finite (mul f (fin false m e) (part- k)))
part_finite f k m e j g J = value_finite (mul f (fin false m e) (part- k)) true (m * up e) (down e * 2 ^ suc k) (part_exact f k m e j g J)

-- ---- a sum from half of its first operand to all of it

-- k lies from half of x to x, and above zero
abbrev pub FromHalf : Format → Float → Float → Type 0
FromHalf f x k = T (le x (mul f k two+)) × T (le k x) × T (positive k)

-- X / D - W / E is X / (2 D) at least, where W / E is X / (4 D)
fall_core : (u v X D W E : ℕ) → u + (0 * E + W * D) ≡ v + (X * E + 0 * D) → W * (D * 4) ≡ X * E
    → X * (D * E) + v * (D * 2) ≤ u * (D * 2) + 0 * (D * E)
fall_core u v X D W E h k =
    let h' : (u + W * D) * (D * 2) ≡ (v + X * E) * (D * 2) = ap (λ (z : ℕ). z * (D * 2)) (omega arith) in
    let h'' = simp (mul_assoc, mul_comm, mul_left_comm, mul-add, add-mul) at h' in
    let k' = simp (mul_assoc, mul_comm, mul_left_comm, mul-add, add-mul) at (ap (λ (z : ℕ). z * D) k) in
    simp (mul_assoc, mul_comm, mul_left_comm, mul-add, add-mul) (omega arith)

-- w has the value -X / (4 D): x + w is the rounded half of x at least
fall : (f : Format) (m : ℕ) (e : ℤ) (w : Float) → HasValue w true (m * up e) (down e * 4)
    → T (le (round f false (m * up e) (down e * 2)) (add f (fin false m e) w))
fall f m e nan v = absurd v
fall f m e (inf s) v = absurd v
fall f m e (fin true n d) v =
    let S = add_fraction f false m e true n d in
    rw S.2
    (round-Le f false (m * up e) (down e * 2) S.0 S.1 (down e * down d)
    (mul-pos (down_pos e) (pow_pos 1)) (mul-pos (down_pos e) (down_pos d))
    (fall_core (P S.0 S.1) (N S.0 S.1) (m * up e) (down e) (n * up d) (down d) S.3 v.1))
fall f m e (fin false n d) v = absurd (false≢true v.0)

twice_core : (a b X D : ℕ) → a * (D * 2) ≡ X * b → X * (b * 1) + 0 * D ≤ a * 2 * D + 0 * (b * 1)
twice_core a b X D h = let p = mul-one b in let q = mul_assoc a D 2 in let r = mul_right_comm a 2 D in rw (p) (omega arith)

-- h has the value X / (2 D): twice h is x at least
twice : (f : Format) (m : ℕ) (e : ℤ) (h : Float) → T (fits f (fin false m e)) → HasValue h false (m * up e) (down e * 2)
    → T (le (fin false m e) (mul f h two+))
twice f m e nan t v = absurd v
twice f m e (inf s) t v = absurd v
twice f m e (fin true n d) t v = absurd (true≢false v.0)
twice f m e (fin false n d) t v =
    rw (mul_is f false n d false 1 (pos 1))
    (round_at_least f false (n * up d * 2) (down d * 1) false m e t (mul-pos (down_pos d) (pow_pos 0))
    (twice_core (n * up d) (down d) (m * up e) (down e) v.1))

-- x + t is at most x, for a t up to 0
add_le_self : (f : Format) (m : ℕ) (e : ℤ) (t : Float) → T (fits f (fin false m e)) → T (finite t) → T (le t zero+)
    → T (le (add f (fin false m e) t) (fin false m e))
add_le_self f m e t F X hi =
    let x = fin false m e in
    le_trans (add f x t) (add f x zero+) x (add_mono f x x t zero+ tt tt X tt (le_refl x tt) hi) (add_zero f false m e F).0

-- x + t lies from half of x to x and is above zero, for t from -x/4 to 0 and an x above zero
pub add_quarter : (f : Format) (m : ℕ) (e : ℤ) (t : Float) (j : ℕ) → T (fits f (fin false m e)) → OnGrid f m e j → 2 ≤ j → T (finite t)
    → T (le (mul f (fin false m e) quarter-) t) → T (le t zero+) → 0 < m → FromHalf f (fin false m e) (add f (fin false m e) t)
add_quarter f m e t j F g J X lo hi M =
    let x = fin false m e in
    let w = mul f x quarter- in
    let k = add f x t in
    let h = round f false (m * up e) (down e * 2 ^ 1) in
    let W = part_exact f 1 m e j g J in
    let H : HasValue h false (m * up e) (down e * 2 ^ 1) = shrink_exact f false m e j 1 g (omega arith) in
    let h-fin = value_finite h false (m * up e) (down e * 2) H in
    let h-k : T (le h k) =
    le_trans h (add f x w) k (fall f m e w W) (add_mono f x x w t tt tt (part_finite f 1 m e j g J) X (le_refl x tt) lo) in
    let k-x = add_le_self f m e t F X hi in (
      le_trans x (mul f h two+) (mul f k two+) (twice f m e h F H)
          (mul_mono_plus f h k 1 (pos 1) h-fin (between_finite h k x h-fin tt h-k k-x) h-k),
      k-x,
      between h k x (positive_of_value h (m * up e) (down e * 2) H (mul-pos M (up_pos e))) (lt→ltb 0 m M) h-k k-x,
    )

-- x + t lies from half of x to x and is above zero, for a t that is a zero of either sign and an x above zero
pub add_nothing : (f : Format) (m : ℕ) (e : ℤ) (t : Float) → T (fits f (fin false m e)) → T (finite t)
    → T (le zero+ t) → T (le t zero+) → 0 < m → FromHalf f (fin false m e) (add f (fin false m e) t)
add_nothing f m e t F X lo hi M =
    let x = fin false m e in
    let k = add f x t in
    let x-k : T (le x k) =
    le_trans x (add f x zero+) k (add_zero f false m e F).1 (add_mono f x x zero+ t tt tt tt X (le_refl x tt) lo) in
    let k-x = add_le_self f m e t F X hi in (
      le_trans x (mul f x two+) (mul f k two+)
          (subst (λ (y : Float). T (le x y)) (mul_commutes f two+ x) (self_le_mul f two+ m e F tt (unfold le in tt)))
          (mul_mono_plus f x k 1 (pos 1) tt (between_finite x k x tt tt x-k k-x) x-k),
      k-x,
      between x k x (lt→ltb 0 m M) (lt→ltb 0 m M) x-k k-x,
    )
