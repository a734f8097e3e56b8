-- Interval arithmetic by the rounded operations themselves: an interval has finite floats as ends, and an operation on intervals (its name
-- ends in I) is the rounded operation at the ends. No wider ends are needed, since rounding keeps the order.
--   `addI-holds`, `subI-holds`, `negI-holds`, `mulI-holds`, `divI-holds`, `cutI-holds`, `pointI-holds`:
--   where each operand lies in its interval, the rounded result lies in the resulting interval.
-- Tests are written by `elim`, which works out only the branch that it takes. Assumes nothing.
use mathlib.Core.Path.{◌≡◌, sym, ap, ◌∙◌, subst}
use Prim.Native.Nat.{ℕ, ◌-◌}
use mathlib.Core.Bool.{Bool, true, false, not, ◌&&◌, cond}
use lib.Dec.{T, leb, leb→le}
use lib.Ieee.{Float, nan, inf, fin, Format, prec, neg, add, mul, sub, div, le, fits}
use lib.Ieee.Fits.{and_l, and_r}
use lib.Ieee.Scale.{finite}
use lib.Ieee.Positive.{positive, between}
use Rattle.rounding.proofs.Signed.{le_neg}
use Rattle.rounding.proofs.Order.{le_refl, le_trans, le_total, between_finite, neg_finite, Between, between_bounds}
use Rattle.rounding.proofs.Fraction.{sub_is, mul_commutes}
use Rattle.rounding.proofs.Monotone.{add_mono, mul_between, div_between_left, div_between_right}
use Rattle.rounding.proofs.Odd.{neg_neg, div_neg_right}
use Rattle.rounding.proofs.Cut.{cut, cut_mono}

-- ---- intervals

-- `some l h` is the interval from l to h, and `none` knows nothing
pub data Interval : Type 0 where
  none : Interval
  some : Float → Float → Interval

-- what an interval says of a value: its ends are finite, and the value lies between them
abbrev pub Holds : Interval → Float → Type 0
Holds none x = Unit {0}
Holds (some l h) x = T (finite l) × T (finite h) × T (le l x) × T (le x h)

-- a value in an interval is finite
pub holds_finite : (l h x : Float) → Holds (some l h) x → T (finite x)
holds_finite l h x i = between_finite l x h i.0 i.1 i.2 i.3

-- an interval under a test holds where it does so once the test has passed
pub when_holds : (b : Bool) (i : Interval) (x : Float) → (T b → Holds i x) → Holds (elim b [ true ↦ i | false ↦ none ]) x
when_holds true i x h = h tt
when_holds false i x h = tt

-- ---- intervals of given values

-- the interval from l to h, where these are finite
abbrev pub interval : Float → Float → Interval
interval l h = elim (finite l && finite h) [ true ↦ some l h | false ↦ none ]

interval_holds : (l h x : Float) → T (le l x) → T (le x h) → Holds (interval l h) x
interval_holds l h x p q =
    when_holds (finite l && finite h) (some l h) x
    (λ (t : T (finite l && finite h)). (and_l (finite l) (finite h) t, and_r (finite l) (finite h) t, p, q))

-- the interval of one value
abbrev pub point_i : Float → Interval
point_i c = interval c c

-- a finite value lies in its own interval
pub point_i_holds : (c : Float) → Holds (point_i c) c
point_i_holds nan = tt
point_i_holds (inf s) = tt
point_i_holds (fin s m e) = (tt, tt, le_refl (fin s m e) tt, le_refl (fin s m e) tt)

-- ---- corners

-- the lesser of two finite values
abbrev pub lesser : Float → Float → Float
lesser x y = cond (le x y) x y

-- the greater of two finite values
abbrev pub greater : Float → Float → Float
greater x y = cond (le x y) y x

-- the least interval with four finite values in it: the results of an operation at the corners of two intervals
abbrev pub corners : Float → Float → Float → Float → Interval
corners p q r s =
    elim (finite p && finite q && (finite r && finite s)) [
      | true ↦ some (lesser (lesser p q) (lesser r s)) (greater (greater p q) (greater r s))
      | false ↦ none
    ]

pick_finite : (b : Bool) (x y : Float) → T (finite x) → T (finite y) → T (finite (cond b x y))
pick_finite true x y p q = p
pick_finite false x y p q = q

lesser_le : (x y : Float) → T (finite x) → T (finite y) → T (le (lesser x y) x) × T (le (lesser x y) y)
lesser_le x y p q = go (le x y) (λ (t : T (le x y)). t) (le_total x y p q)
  where
    go : (b : Bool) → (T b → T (le x y)) → (T (not b) → T (le y x)) → T (le (cond b x y) x) × T (le (cond b x y) y)
    go true h k = (le_refl x p, h tt)
    go false h k = (k tt, le_refl y q)

le_greater : (x y : Float) → T (finite x) → T (finite y) → T (le x (greater x y)) × T (le y (greater x y))
le_greater x y p q = go (le x y) (λ (t : T (le x y)). t) (le_total x y p q)
  where
    go : (b : Bool) → (T b → T (le x y)) → (T (not b) → T (le y x)) → T (le x (cond b y x)) × T (le y (cond b y x))
    go true h k = (h tt, le_refl y q)
    go false h k = (le_refl x p, k tt)

-- u lies between p and q, v between r and s, and w between u and v
corners_hold : (p q r s u v w : Float) → Between p q u → Between r s v → Between u v w → Holds (corners p q r s) w
corners_hold p q r s u v w B C D =
    when_holds (finite p && finite q && (finite r && finite s)) (some lo hi) w
    (λ (t : T (finite p && finite q && (finite r && finite s))).
    let a = and_l (finite p && finite q) (finite r && finite s) t in
    let b = and_r (finite p && finite q) (finite r && finite s) t in
    inside (and_l (finite p) (finite q) a) (and_r (finite p) (finite q) a) (and_l (finite r) (finite s) b) (and_r (finite r) (finite s) b))
  where
    lo : Float
    lo = lesser (lesser p q) (lesser r s)

    hi : Float
    hi = greater (greater p q) (greater r s)

    inside : T (finite p) → T (finite q) → T (finite r) → T (finite s) → Holds (some lo hi) w
    inside P Q R S =
        let l1 = lesser p q in
        let l2 = lesser r s in
        let h1 = greater p q in
        let h2 = greater r s in
        let L1 = pick_finite (le p q) p q P Q in
        let L2 = pick_finite (le r s) r s R S in
        let H1 = pick_finite (le p q) q p Q P in
        let H2 = pick_finite (le r s) s r S R in
        let a = lesser_le l1 l2 L1 L2 in
        let b = le_greater h1 h2 H1 H2 in
        let a1 = lesser_le p q P Q in
        let a2 = lesser_le r s R S in
        let b1 = le_greater p q P Q in
        let b2 = le_greater r s R S in
        let x =
        between_bounds lo hi p q u (le_trans lo l1 p a.0 a1.0) (le_trans lo l1 q a.0 a1.1)
        (le_trans p h1 hi b1.0 b.0) (le_trans q h1 hi b1.1 b.0) B in
        let y =
        between_bounds lo hi r s v (le_trans lo l2 r a.1 a2.0) (le_trans lo l2 s a.1 a2.1)
        (le_trans r h2 hi b2.0 b.1) (le_trans s h2 hi b2.1 b.1) C in
        let z = between_bounds lo hi u v w x.0 y.0 x.1 y.1 D in
        (pick_finite (le l1 l2) l1 l2 L1 L2, pick_finite (le h1 h2) h2 h1 H2 H1, z.0, z.1)

-- ---- the negative

-- the negatives of an interval's values
abbrev pub neg_i : Interval → Interval
neg_i none = none
neg_i (some a b) = some (neg b) (neg a)

-- the negative lies in the negative interval
pub neg_i_holds : (i : Interval) (x : Float) → Holds i x → Holds (neg_i i) (neg x)
neg_i_holds none x p = tt
neg_i_holds (some a b) x p = (neg_finite b p.1, neg_finite a p.0, le_neg x b p.3, le_neg a x p.2)

-- ---- sums and differences

-- the rounded sums
abbrev pub add_i : Format → Interval → Interval → Interval
add_i f none j = none
add_i f (some a b) none = none
add_i f (some a b) (some c d) = interval (add f a c) (add f b d)

-- a rounded sum lies in the sum of the intervals
pub add_i_holds : (f : Format) (i j : Interval) (x y : Float) → Holds i x → Holds j y → Holds (add_i f i j) (add f x y)
add_i_holds f none j x y p q = tt
add_i_holds f (some a b) none x y p q = tt
add_i_holds f (some a b) (some c d) x y p q =
    let X = holds_finite a b x p in
    let Y = holds_finite c d y q in
    interval_holds (add f a c) (add f b d) (add f x y)
    (add_mono f a x c y p.0 X q.0 Y p.2 q.2) (add_mono f x b y d X p.1 Y q.1 p.3 q.3)

-- the rounded differences
abbrev pub sub_i : Format → Interval → Interval → Interval
sub_i f none j = none
sub_i f (some a b) none = none
sub_i f (some a b) (some c d) = interval (sub f a d) (sub f b c)

-- a rounded difference lies in the difference of the intervals
pub sub_i_holds : (f : Format) (i j : Interval) (x y : Float) → Holds i x → Holds j y → Holds (sub_i f i j) (sub f x y)
sub_i_holds f none j x y p q = tt
sub_i_holds f (some a b) none x y p q = tt
sub_i_holds f (some a b) (some c d) x y p q =
    rw (sub_is f a d, sub_is f b c, sub_is f x y)
    (add_i_holds f (some a b) (some (neg d) (neg c)) x (neg y) p (neg_i_holds (some c d) y q))

-- ---- products

-- the rounded products
abbrev pub mul_i : Format → Interval → Interval → Interval
mul_i f none j = none
mul_i f (some a b) none = none
mul_i f (some a b) (some c d) = corners (mul f a c) (mul f a d) (mul f b c) (mul f b d)

-- a rounded product lies in the product of the intervals
pub mul_i_holds : (f : Format) (i j : Interval) (x y : Float) → Holds i x → Holds j y → Holds (mul_i f i j) (mul f x y)
mul_i_holds f none j x y p q = tt
mul_i_holds f (some a b) none x y p q = tt
mul_i_holds f (some a b) (some c d) x y p q =
    let X = holds_finite a b x p in
    let Y = holds_finite c d y q in
    corners_hold (mul f a c) (mul f a d) (mul f b c) (mul f b d) (mul f a y) (mul f b y) (mul f x y)
    (side a p.0 Y) (side b p.1 Y) (mul_between f a x b y p.0 X p.1 Y p.2 p.3)
  where
    side : (a : Float) → T (finite a) → T (finite y) → Between (mul f a c) (mul f a d) (mul f a y)
    side a A Y =
        rw (mul_commutes f a c, mul_commutes f a d, mul_commutes f a y) (mul_between f c y d a q.0 Y q.1 A q.2 q.3)

-- ---- quotients

-- the rounded quotients by a divisor above zero
abbrev pub div_pos_i : Format → Interval → Interval → Interval
div_pos_i f none j = none
div_pos_i f (some a b) none = none
div_pos_i f (some a b) (some c d) =
    elim (positive c && positive d) [ true ↦ corners (div f a c) (div f a d) (div f b c) (div f b d) | false ↦ none ]

div_pos_i_holds : (f : Format) (i j : Interval) (x y : Float) → Holds i x → Holds j y → Holds (div_pos_i f i j) (div f x y)
div_pos_i_holds f none j x y p q = tt
div_pos_i_holds f (some a b) none x y p q = tt
div_pos_i_holds f (some a b) (some c d) x y p q =
    when_holds (positive c && positive d) (corners (div f a c) (div f a d) (div f b c) (div f b d)) (div f x y)
    (λ (t : T (positive c && positive d)).
    let C = and_l (positive c) (positive d) t in
    let D = and_r (positive c) (positive d) t in
    let Y = between c y d C D q.2 q.3 in
    corners_hold (div f a c) (div f a d) (div f b c) (div f b d) (div f a y) (div f b y) (div f x y)
    (div_between_right f a c y d p.0 C Y D q.2 q.3) (div_between_right f b c y d p.1 C Y D q.2 q.3)
    (div_between_left f a x b y p.0 (holds_finite a b x p) p.1 Y p.2 p.3))

-- all of an interval lies below zero
abbrev pub below_zero : Interval → Bool
below_zero none = false
below_zero (some c d) = positive (neg d)

-- the rounded quotients by a divisor above zero, or below it
abbrev pub div_i : Format → Interval → Interval → Interval
div_i f i j = elim (below_zero j) [ true ↦ neg_i (div_pos_i f i (neg_i j)) | false ↦ div_pos_i f i j ]

-- a rounded quotient lies in the quotient of the intervals
pub div_i_holds : (f : Format) (i j : Interval) (x y : Float) → Holds i x → Holds j y → Holds (div_i f i j) (div f x y)
div_i_holds f i j x y p q = go (below_zero j)
  where
    turned : div f x y ≡ neg (div f x (neg y))
    turned = sym (ap (div f x) (neg_neg y)) ∙ div_neg_right f x (neg y)

    go : (b : Bool) → Holds (elim b [ true ↦ neg_i (div_pos_i f i (neg_i j)) | false ↦ div_pos_i f i j ]) (div f x y)
    go false = div_pos_i_holds f i j x y p q
    go true =
        subst (λ (z : Float). Holds (neg_i (div_pos_i f i (neg_i j))) z) (sym turned)
        (neg_i_holds (div_pos_i f i (neg_i j)) (div f x (neg y)) (div_pos_i_holds f i (neg_i j) x (neg y) p (neg_i_holds j y q)))

-- ---- low bits cleared

-- the values of an interval with the low k bits of their patterns cleared, where the ends fit
abbrev pub cut_i : Format → ℕ → Interval → Interval
cut_i f k none = none
cut_i f k (some l h) = elim (fits f l && fits f h && leb k (prec f - 1)) [ true ↦ interval (cut f k l) (cut f k h) | false ↦ none ]

-- a value that fits, its low bits cleared, lies in the interval so cleared
pub cut_i_holds : (f : Format) (k : ℕ) (i : Interval) (x : Float) → T (fits f x) → Holds i x → Holds (cut_i f k i) (cut f k x)
cut_i_holds f k none x F p = tt
cut_i_holds f k (some l h) x F p =
    when_holds (fits f l && fits f h && leb k (prec f - 1)) (interval (cut f k l) (cut f k h)) (cut f k x)
    (λ (t : T (fits f l && fits f h && leb k (prec f - 1))).
    let K = leb→le k (prec f - 1) (and_r (fits f l && fits f h) (leb k (prec f - 1)) t) in
    let u = and_l (fits f l && fits f h) (leb k (prec f - 1)) t in
    let X = holds_finite l h x p in
    interval_holds (cut f k l) (cut f k h) (cut f k x)
    (cut_mono f k l x K (and_l (fits f l) (fits f h) u) F p.0 X p.2)
    (cut_mono f k x h K F (and_r (fits f l) (fits f h) u) X p.1 p.3))
