-- Numbers are in the order of their places. A pattern b that is no NaN's stands for a value with a sign, b's, and a size of so many steps from
-- zero, b without the sign; a rank is the place, counted from below. Assumes nothing.
use mathlib.Core.Path.{◌≡◌, refl, sym, ap, ◌∙◌, subst}
use mathlib.Core.Logic.{inl, inr}
use mathlib.Core.Bool.{Bool, true, false, not}
use Prim.Native.Nat.{ℕ, ◌+◌, ◌-◌, ◌*◌, ◌/◌, ◌%◌, ◌^◌, ◌≤◌, ◌<◌}
use native.Mathlib.Nat.{eq-or-lt_of_le, eq-zero-or-pos, le_of_lt, lt_of_lt_of_le, mod-lt, mul-lt-mul_of_pos_right, mul-div_cancel, mul-mod_left, eq_of_mul-eq-mul_right, zero-mul}
use native.Mathlib.Omega.{arith}
use borrow.Author.Tests.{ltb-true, ltb-false, eq-eqb}
use lib.Dec.{T, leb, ltb, lit<, lit≤}
use lib.IntN.{ℤ, pos, ◌+ℤ◌}
use lib.Pow.{pow_pos}
use lib.Ieee.{Float, nan, inf, fin, Format, binary32, binary64, low, hid, ones, top, up, down, level, lt, eq, le, of_fields, of_bits}
use lib.Ieee.Bits.{is_true, nan_bits_above}
use lib.Ieee.Exact.{HasValue}
use Rattle.rounding.proofs.Signed.{P, N, Le, signed_of_le, value_finite}
use Rattle.rounding.proofs.Order.{lt_le, le_of_not_lt, not_lt_of_le, eq_values, eq_le, eq_turned}
use Rattle.rounding.proofs.BitOrder.{bit_val, hid_pos, val_lt, val_zero, val_pos, endless, bits_open}
use Rattle.words.specs.Pick.{pick}
use Rattle.words.proofs.PatternLaws.{pattern_value, digits_rest}
use Rattle.distance.specs.Distance.{place_s}
use Rattle.distance.specs.Line.{Number}
use Rattle.distance.proofs.Shift.{shift}
use Rattle.distance.proofs.PlaceCode.{place_is}

-- ---- what a pattern stands for

-- a finite value that is so many steps from zero, or an infinity
data Stands (f : Format) (x : Float) (s : Bool) (n : ℕ) : Type 0 where
  within : n < endless f → HasValue x s (bit_val f n) (2 ^ low f) → Stands f x s n
  beyond : n ≡ endless f → x ≡ inf s → Stands f x s n

infinity : (f : Format) (s : Bool) → of_fields f s (ones f) 0 ≡ inf s
unfolding of_fields
infinity binary32 s = refl
infinity binary64 s = refl

pub of_infinity : (f : Format) (b : ℕ) → b % top f ≡ endless f → of_bits f b ≡ inf (leb (top f) b)
of_infinity f b e =
    bits_open f b
    ∙ ap (of_fields f (leb (top f) b) (b % top f / hid f)) (sym (digits_rest f b))
    ∙ ap (λ (n : ℕ). of_fields f (leb (top f) b) (n / hid f) (n % hid f)) e
    ∙ ap (λ (n : ℕ). of_fields f (leb (top f) b) n (endless f % hid f)) (mul-div_cancel (ones f) (hid_pos f))
    ∙ ap (of_fields f (leb (top f) b) (ones f)) (mul-mod_left (ones f) (hid f))
    ∙ infinity f (leb (top f) b)

-- no NaN: at most the infinity's size
pub number_size : (f : Format) (b : ℕ) → Number f b → b % top f ≤ endless f
number_size f b h = ltb-false (endless f) (b % top f) (sym (nan_bits_above f b) ∙ h)

stands : (f : Format) (b : ℕ) → Number f b → Stands f (of_bits f b) (leb (top f) b) (b % top f)
stands f b h =
    elim (eq-or-lt_of_le (number_size f b h)) [ inl e ↦ beyond e (of_infinity f b e) | inr l ↦ within l (pattern_value f b l) ]

-- ---- order by signed sizes
endless_pos : (f : Format) → 0 < endless f
endless_pos binary32 = omega arith
endless_pos binary64 = omega arith

-- where the sizes are in order, the values are not in the other order
strict : (f : Format) (s : Bool) (n : ℕ) (t : Bool) (m : ℕ) → P s n + N t m < P t m + N s n
    → Le t (bit_val f m) (2 ^ low f) s (bit_val f n) (2 ^ low f) → ⊥
strict f false n false m h k =
    let a = mul-lt-mul_of_pos_right (val_lt f n m (omega arith)) (pow_pos (low f)) in omega (arith, k)
strict f false n true m h k = omega (arith, h)
strict f true n true m h k =
    let a = mul-lt-mul_of_pos_right (val_lt f m n (omega arith)) (pow_pos (low f)) in omega (arith, k)
strict f true n false m h k =
    elim (eq-zero-or-pos n) [
      | inl e ↦ let a = mul-lt-mul_of_pos_right (val_pos f m (omega arith)) (pow_pos (low f)) in omega (arith, k)
      | inr l ↦ let a = mul-lt-mul_of_pos_right (val_pos f n l) (pow_pos (low f)) in omega (arith, k)
    ]

not_false : (b : Bool) → (T (not b) → ⊥) → T b
not_false true h = tt
not_false false h = absurd (h tt)

fin_below_inf : (x : Float) (s : Bool) (a c : ℕ) → HasValue x s a c → T (lt x (inf false))
unfolding lt
fin_below_inf nan s a c v = absurd v
fin_below_inf (inf t) s a c v = absurd v
fin_below_inf (fin t m e) s a c v = tt

inf_below_fin : (y : Float) (s : Bool) (a c : ℕ) → HasValue y s a c → T (lt (inf true) y)
unfolding lt
inf_below_fin nan s a c v = absurd v
inf_below_fin (inf t) s a c v = absurd v
inf_below_fin (fin t m e) s a c v = tt

inf_below_inf : T (lt (inf true) (inf false))
unfolding lt
inf_below_inf = tt

below_by_size : (f : Format) (x y : Float) (s t : Bool) (n m : ℕ) → Stands f x s n → Stands f y t m → P s n + N t m < P t m + N s n → T (lt x y)
below_by_size f x y s t n m (within k v) (within l w) h =
    not_false (lt x y) (λ u. strict f s n t m h
    (signed_of_le y x t (bit_val f m) (2 ^ low f) s (bit_val f n) (2 ^ low f) w v
    (le_of_not_lt x y (value_finite x s _ _ v) (value_finite y t _ _ w) u)))
below_by_size f x y s false n m (within k v) (beyond l w) h = rw w (fin_below_inf x s _ _ v)
below_by_size f x y false true n m (within k v) (beyond l w) h = absurd (omega (arith, h))
below_by_size f x y true true n m (within k v) (beyond l w) h = absurd (omega (arith, h))
below_by_size f x y true t n m (beyond k v) (within l w) h = rw v (inf_below_fin y t _ _ w)
below_by_size f x y false false n m (beyond k v) (within l w) h = absurd (omega (arith, h))
below_by_size f x y false true n m (beyond k v) (within l w) h = absurd (omega (arith, h))
below_by_size f x y true false n m (beyond k v) (beyond l w) h = rw (v, w) inf_below_inf
below_by_size f x y false false n m (beyond k v) (beyond l w) h = absurd (omega (arith, h))
below_by_size f x y false true n m (beyond k v) (beyond l w) h = absurd (omega (arith, h))
below_by_size f x y true true n m (beyond k v) (beyond l w) h = absurd (omega (arith, h))

-- ---- one place, one number
no_size : (M c d : ℕ) → 0 < c → M * c ≡ 0 * d → M ≡ 0
no_size M c d C h = eq_of_mul-eq-mul_right c C M 0 (h ∙ zero-mul d ∙ sym (zero-mul c))

zeros : (s t : Bool) → T (level s 0 t 0)
zeros false false = tt
zeros false true = tt
zeros true false = tt
zeros true true = tt

zeros_eq : (x y : Float) (s t : Bool) (c d : ℕ) → 0 < c → 0 < d → HasValue x s 0 c → HasValue y t 0 d → T (eq x y)
unfolding eq
zeros_eq nan y s t c d C D v w = absurd v
zeros_eq (inf u) y s t c d C D v w = absurd v
zeros_eq (fin u m e) nan s t c d C D v w = absurd w
zeros_eq (fin u m e) (inf u') s t c d C D v w = absurd w
zeros_eq (fin u m e) (fin u' n g) s t c d C D v w =
    rw (no_size (m * up e) c (down e) C v.1, no_size (n * up g) d (down g) D w.1, zero-mul (down e), zero-mul (down g)) (zeros u u')

infs_eq : (s : Bool) → T (eq (inf s) (inf s))
unfolding eq
infs_eq true = tt
infs_eq false = tt

same_sign : (f : Format) (x y : Float) (s : Bool) (n m : ℕ) → Stands f x s n → Stands f y s m → n ≡ m → T (eq x y)
same_sign f x y s n m (within k v) (within l w) h =
    let L = 2 ^ low f in
    subst T (sym (eq_values x y s (bit_val f n) L (bit_val f m) L (pow_pos (low f)) (pow_pos (low f)) v w
    ∙ eq-eqb (bit_val f n * L) (bit_val f m * L) (ap (λ (z : ℕ). bit_val f z * L) h))) tt
same_sign f x y s n m (within k v) (beyond l w) h = absurd (omega arith)
same_sign f x y s n m (beyond k v) (within l w) h = absurd (omega arith)
same_sign f x y s n m (beyond k v) (beyond l w) h = rw (v, w) (infs_eq s)

both_zero : (f : Format) (x y : Float) (s t : Bool) (n m : ℕ) → Stands f x s n → Stands f y t m → n ≡ 0 → m ≡ 0 → T (eq x y)
both_zero f x y s t n m (within k v) (within l w) h i =
    let value : (z : Float) (u : Bool) (j : ℕ) → HasValue z u (bit_val f j) (2 ^ low f) → j ≡ 0 → HasValue z u 0 (2 ^ low f) =
    λ z u j c e. subst (λ (q : ℕ). HasValue z u q (2 ^ low f)) (ap (bit_val f) e ∙ val_zero f) c in
    zeros_eq x y s t (2 ^ low f) (2 ^ low f) (pow_pos (low f)) (pow_pos (low f)) (value x s n v h) (value y t m w i)
both_zero f x y s t n m (within k v) (beyond l w) h i = let e = endless_pos f in absurd (omega arith)
both_zero f x y s t n m (beyond k v) b h i = let e = endless_pos f in absurd (omega arith)

eq_by_size : (f : Format) (x y : Float) (s t : Bool) (n m : ℕ) → Stands f x s n → Stands f y t m → P s n + N t m ≡ P t m + N s n → T (eq x y)
eq_by_size f x y false false n m a b h = same_sign f x y false n m a b (omega arith)
eq_by_size f x y true true n m a b h = same_sign f x y true n m a b (omega arith)
eq_by_size f x y false true n m a b h = both_zero f x y false true n m a b (omega arith) (omega arith)
eq_by_size f x y true false n m a b h = both_zero f x y true false n m a b (omega arith) (omega arith)

-- ---- ranks

-- the rank of zero, in the code and here
abbrev pub middle : ℕ
middle = 0x8000000000000000

-- the place, counted from so far below zero
abbrev pub rank : Format → ℕ → ℕ
rank f b = pick (leb (top f) b) (middle - b % top f) (middle + b % top f)

small : (f : Format) (b : ℕ) → b % top f ≤ middle
small binary32 b = le_of_lt (lt_of_lt_of_le (mod-lt b (lit< tt)) (lit≤ tt))
small binary64 b = le_of_lt (mod-lt b (lit< tt))

pub rank_is : (f : Format) (b : ℕ) → pos (rank f b) ≡ place_s f b +ℤ pos middle
rank_is f b = shift middle (b % top f) (leb (top f) b) (small f b) ∙ ap (λ (z : ℤ). z +ℤ pos middle) (sym (place_is f b))

module _ (K n m : ℕ) (h : n ≤ K) (k : m ≤ K) where
  less_sizes : (s t : Bool) → pick s (K - n) (K + n) < pick t (K - m) (K + m) → P s n + N t m < P t m + N s n
  less_sizes false false l = omega arith
  less_sizes false true l = omega arith
  less_sizes true false l = omega arith
  less_sizes true true l = omega arith

  same_sizes : (s t : Bool) → pick s (K - n) (K + n) ≡ pick t (K - m) (K + m) → P s n + N t m ≡ P t m + N s n
  same_sizes false false l = omega arith
  same_sizes false true l = omega arith
  same_sizes true false l = omega arith
  same_sizes true true l = omega arith

module _ (f : Format) where
  below_by_rank : (a b : ℕ) → Number f a → Number f b → rank f a < rank f b → T (lt (of_bits f a) (of_bits f b))
  below_by_rank a b A B h =
      below_by_size f _ _ _ _ _ _ (stands f a A) (stands f b B)
      (less_sizes middle (a % top f) (b % top f) (small f a) (small f b) (leb (top f) a) (leb (top f) b) h)

  eq_by_rank : (a b : ℕ) → Number f a → Number f b → rank f a ≡ rank f b → T (eq (of_bits f a) (of_bits f b))
  eq_by_rank a b A B h =
      eq_by_size f _ _ _ _ _ _ (stands f a A) (stands f b B)
      (same_sizes middle (a % top f) (b % top f) (small f a) (small f b) (leb (top f) a) (leb (top f) b) h)

  -- what has at most a number's rank is at most that number
  pub rank_le : (a b : ℕ) → Number f a → Number f b → rank f a ≤ rank f b → T (le (of_bits f a) (of_bits f b))
  rank_le a b A B l =
      elim (eq-or-lt_of_le l) [ inl e ↦ eq_le _ _ (eq_by_rank a b A B e) | inr k ↦ lt_le _ _ (below_by_rank a b A B k) ]

  -- ranks are in the order of the numbers
  pub lt_rank : (a b : ℕ) → Number f a → Number f b → lt (of_bits f a) (of_bits f b) ≡ ltb (rank f a) (rank f b)
  lt_rank a b A B = go (ltb (rank f a) (rank f b)) refl
    where
      x : Float
      x = of_bits f a

      y : Float
      y = of_bits f b

      go : (t : Bool) → ltb (rank f a) (rank f b) ≡ t → lt x y ≡ t
      go true h = is_true (lt x y) (below_by_rank a b A B (ltb-true (rank f a) (rank f b) h))
      go false h = not_lt_of_le x y (rank_le b a B A (ltb-false (rank f a) (rank f b) h))

  pub rank_eq : (a b : ℕ) → Number f a → Number f b → rank f a ≡ rank f b → eq (of_bits f a) (of_bits f b) ≡ true
  rank_eq a b A B h = is_true (eq (of_bits f a) (of_bits f b)) (eq_by_rank a b A B h)

  -- and the other way
  le_rank : (a b : ℕ) → Number f a → Number f b → T (le (of_bits f a) (of_bits f b)) → rank f a ≤ rank f b
  le_rank a b A B h = ltb-false (rank f b) (rank f a) (sym (lt_rank b a B A) ∙ not_lt_of_le (of_bits f b) (of_bits f a) h)

  pub eq_rank : (a b : ℕ) → Number f a → Number f b → eq (of_bits f a) (of_bits f b) ≡ true → rank f a ≡ rank f b
  eq_rank a b A B h =
      let e : T (eq (of_bits f a) (of_bits f b)) = subst T (sym h) tt in
      let l = le_rank a b A B (eq_le _ _ e) in
      let k = le_rank b a B A (eq_le _ _ (eq_turned _ _ e)) in
      omega arith
