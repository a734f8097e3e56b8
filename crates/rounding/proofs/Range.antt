-- Bounds on float functions by one computed test. A function is written as data, an `Expr`; `eval` gives its value, rounded at each step,
-- and `ieval` runs it on intervals.
--   `sound`: what `eval` gives at any point of the intervals lies in what `ieval` gives;
--   `range`: where `rangeTest` passes on [a, b], the function stays in [lo, hi] there;
--   `halved`: the same where `halvedTest` passes, which halves [a, b] by itself, up to n times over, until `rangeTest` passes on each part.
-- To use one: show that `eval` of the expression is the function (`refl`), and prove the test by `tt`, under an `unfolding` of `ieval`
-- (and `halvedTest`) and of `le` and the operations that occur.
-- Assumes nothing.
use mathlib.Core.Logic.{◌⊎◌, inl, inr}
use mathlib.Core.List.{List, [], ◌∷◌}
use Prim.Native.Nat.{ℕ, zero, suc}
use mathlib.Core.Bool.{Bool, true, false, not, ◌&&◌}
use lib.IntN.{negsuc}
use lib.Dec.{T}
use lib.Ieee.{Float, nan, fin, Format, neg, add, mul, sub, div, le, fits}
use lib.Ieee.Fits.{and_l, and_r, add-fits, sub-fits, mul-fits, div-fits}
use lib.Ieee.Scale.{finite}
use Rattle.rounding.proofs.Order.{le_trans, le_total}
use Rattle.rounding.proofs.Cut.{cut}
use Rattle.rounding.proofs.Interval.{Interval, none, some, Holds, when_holds, point_i, add_i, sub_i, mul_i, div_i, neg_i, cut_i}
use Rattle.rounding.proofs.Interval.{point_i_holds, add_i_holds, sub_i_holds, mul_i_holds, div_i_holds, neg_i_holds, cut_i_holds}

-- ---- expressions

-- `share e b` is b with one more variable, number 0, that stands for e: e is worked out once.
-- `clear k e` clears the low k bits of e's pattern.
pub data Expr : Type 0 where
  var : ℕ → Expr
  con : Float → Expr
  plus minus times over : Expr → Expr → Expr
  flip : Expr → Expr
  share : Expr → Expr → Expr
  clear : ℕ → Expr → Expr

-- element number n of a list, and d past its end
abbrev pub lookup : {A : Type 0} → A → List A → ℕ → A
lookup d [] n = d
lookup d (x ∷ ρ) zero = x
lookup d (x ∷ ρ) (suc n) = lookup d ρ n

-- the value of an expression, rounded at each step; ρ has the values of the variables
unfoldable pub eval : Format → List Float → Expr → Float
eval f ρ (var n) = lookup nan ρ n
eval f ρ (con c) = c
eval f ρ (plus a b) = add f (eval f ρ a) (eval f ρ b)
eval f ρ (minus a b) = sub f (eval f ρ a) (eval f ρ b)
eval f ρ (times a b) = mul f (eval f ρ a) (eval f ρ b)
eval f ρ (over a b) = div f (eval f ρ a) (eval f ρ b)
eval f ρ (flip a) = neg (eval f ρ a)
eval f ρ (share a b) = eval f (eval f ρ a ∷ ρ) b
eval f ρ (clear k a) = cut f k (eval f ρ a)

-- the last step is a rounded operation, so that the value fits
abbrev pub is_rounded : Expr → Bool
is_rounded (var n) = false
is_rounded (con c) = false
is_rounded (plus a b) = true
is_rounded (minus a b) = true
is_rounded (times a b) = true
is_rounded (over a b) = true
is_rounded (flip a) = false
is_rounded (share a b) = false
is_rounded (clear k a) = false

-- an expression run on intervals; σ has the intervals of the variables. `clear` is taken only of a rounded operation
unfoldable pub ieval : Format → List Interval → Expr → Interval
ieval f σ (var n) = lookup none σ n
ieval f σ (con c) = point_i c
ieval f σ (plus a b) = add_i f (ieval f σ a) (ieval f σ b)
ieval f σ (minus a b) = sub_i f (ieval f σ a) (ieval f σ b)
ieval f σ (times a b) = mul_i f (ieval f σ a) (ieval f σ b)
ieval f σ (over a b) = div_i f (ieval f σ a) (ieval f σ b)
ieval f σ (flip a) = neg_i (ieval f σ a)
ieval f σ (share a b) = ieval f (ieval f σ a ∷ σ) b
ieval f σ (clear k a) = elim (is_rounded a) [ true ↦ cut_i f k (ieval f σ a) | false ↦ none ]

-- ---- soundness

-- each variable with an interval in σ has its value in it
abbrev pub Env : List Interval → List Float → Type 0
Env [] ρ = Unit {0}
Env (i ∷ σ) [] = ⊥
Env (i ∷ σ) (x ∷ ρ) = Holds i x × Env σ ρ

lookup_holds : (σ : List Interval) (ρ : List Float) → Env σ ρ → (n : ℕ) → Holds (lookup none σ n) (lookup nan ρ n)
lookup_holds [] ρ h n = tt
lookup_holds (i ∷ σ) [] h n = absurd h
lookup_holds (i ∷ σ) (x ∷ ρ) h zero = h.0
lookup_holds (i ∷ σ) (x ∷ ρ) h (suc n) = lookup_holds σ ρ h.1 n

rounded_fits : (f : Format) (ρ : List Float) (a : Expr) → T (is_rounded a) → T (fits f (eval f ρ a))
unfolding eval
rounded_fits f ρ (var n) t = absurd t
rounded_fits f ρ (con c) t = absurd t
rounded_fits f ρ (plus a b) t = add-fits f (eval f ρ a) (eval f ρ b)
rounded_fits f ρ (minus a b) t = sub-fits f (eval f ρ a) (eval f ρ b)
rounded_fits f ρ (times a b) t = mul-fits f (eval f ρ a) (eval f ρ b)
rounded_fits f ρ (over a b) t = div-fits f (eval f ρ a) (eval f ρ b)
rounded_fits f ρ (flip a) t = absurd t
rounded_fits f ρ (share a b) t = absurd t
rounded_fits f ρ (clear k a) t = absurd t

-- the value of an expression lies in its interval
pub sound : (f : Format) (e : Expr) (σ : List Interval) (ρ : List Float) → Env σ ρ → Holds (ieval f σ e) (eval f ρ e)
unfolding eval ieval
sound f (var n) σ ρ h = lookup_holds σ ρ h n
sound f (con c) σ ρ h = point_i_holds c
sound f (plus a b) σ ρ h = add_i_holds f (ieval f σ a) (ieval f σ b) (eval f ρ a) (eval f ρ b) (sound f a σ ρ h) (sound f b σ ρ h)
sound f (minus a b) σ ρ h = sub_i_holds f (ieval f σ a) (ieval f σ b) (eval f ρ a) (eval f ρ b) (sound f a σ ρ h) (sound f b σ ρ h)
sound f (times a b) σ ρ h = mul_i_holds f (ieval f σ a) (ieval f σ b) (eval f ρ a) (eval f ρ b) (sound f a σ ρ h) (sound f b σ ρ h)
sound f (over a b) σ ρ h = div_i_holds f (ieval f σ a) (ieval f σ b) (eval f ρ a) (eval f ρ b) (sound f a σ ρ h) (sound f b σ ρ h)
sound f (flip a) σ ρ h = neg_i_holds (ieval f σ a) (eval f ρ a) (sound f a σ ρ h)
sound f (share a b) σ ρ h = sound f b (ieval f σ a ∷ σ) (eval f ρ a ∷ ρ) (sound f a σ ρ h, h)
sound f (clear k a) σ ρ h =
    when_holds (is_rounded a) (cut_i f k (ieval f σ a)) (cut f k (eval f ρ a))
    (λ (t : T (is_rounded a)). cut_i_holds f k (ieval f σ a) (eval f ρ a) (rounded_fits f ρ a t) (sound f a σ ρ h))

-- ---- a test that proves a bound

-- x lies in [lo, hi]
abbrev pub In : Float → Float → Float → Type 0
In lo hi x = T (le lo x) × T (le x hi)

-- the interval lies within [lo, hi]
abbrev pub within : Float → Float → Interval → Bool
within lo hi none = false
within lo hi (some l h) = le lo l && le h hi

within_in : (lo hi : Float) (i : Interval) (x : Float) → T (within lo hi i) → Holds i x → In lo hi x
within_in lo hi none x t p = absurd t
within_in lo hi (some l h) x t p =
    (le_trans lo l x (and_l (le lo l) (le h hi) t) p.2, le_trans x h hi p.3 (and_r (le lo l) (le h hi) t))

-- e stays in [lo, hi] for its variable 0 in [a, b] and the others in σ, by one run on intervals
abbrev pub range_test : Format → Float → Float → Expr → List Interval → Float → Float → Bool
range_test f lo hi e σ a b = finite a && finite b && within lo hi (ieval f (some a b ∷ σ) e)

-- where the test passes, the expression stays in [lo, hi]
pub range : (f : Format) (lo hi : Float) (e : Expr) (σ : List Interval) (ρ : List Float) (a b x : Float)
    → T (range_test f lo hi e σ a b) → Env σ ρ → In a b x → In lo hi (eval f (x ∷ ρ) e)
range f lo hi e σ ρ a b x t s i =
    let ends = and_l (finite a && finite b) (within lo hi (ieval f (some a b ∷ σ) e)) t in
    within_in lo hi (ieval f (some a b ∷ σ) e) (eval f (x ∷ ρ) e) (and_r (finite a && finite b) (within lo hi (ieval f (some a b ∷ σ) e)) t)
    (sound f e (some a b ∷ σ) (x ∷ ρ) ((and_l (finite a) (finite b) ends, and_r (finite a) (finite b) ends, i.0, i.1), s))

-- ---- the same by halving

-- the middle of a and b
abbrev pub middle : Format → Float → Float → Float
middle f a b = mul f (add f a b) (fin false 1 (negsuc 0))

-- the interval is cut in half, up to n times over, where the test does not pass at once
unfoldable pub halved_test : ℕ → Format → Float → Float → Expr → List Interval → Float → Float → Bool
halved_test zero f lo hi e σ a b = range_test f lo hi e σ a b
halved_test (suc n) f lo hi e σ a b =
    elim (range_test f lo hi e σ a b) [
      | true ↦ true
      | false ↦ finite (middle f a b) && (halved_test n f lo hi e σ a (middle f a b) && halved_test n f lo hi e σ (middle f a b) b)
    ]

either : (b c : Bool) → T (elim b [ true ↦ true | false ↦ c ]) → T b ⊎ T c
either true c t = inl tt
either false c t = inr t

-- a value in [a, b] lies on one side of m or on the other
pub in_split : (a x b m : Float) → T (finite x) → T (finite m) → In a b x → In a m x ⊎ In m b x
in_split a x b m X M i = go (le x m) (λ (t : T (le x m)). t) (le_total x m X M)
  where
    go : (t : Bool) → (T t → T (le x m)) → (T (not t) → T (le m x)) → In a m x ⊎ In m b x
    go true h k = inl (i.0, h tt)
    go false h k = inr (k tt, i.1)

-- where the test passes on all parts, the expression stays in [lo, hi]
pub halved : (n : ℕ) (f : Format) (lo hi : Float) (e : Expr) (σ : List Interval) (ρ : List Float) (a b x : Float)
    → T (finite x) → T (halved_test n f lo hi e σ a b) → Env σ ρ → In a b x → In lo hi (eval f (x ∷ ρ) e)
unfolding halved_test
halved zero f lo hi e σ ρ a b x X t s i = range f lo hi e σ ρ a b x t s i
halved (suc n) f lo hi e σ ρ a b x X t s i =
    let m = middle f a b in
    let u = halved_test n f lo hi e σ a m in
    let v = halved_test n f lo hi e σ m b in
    elim (either (range_test f lo hi e σ a b) (finite m && (u && v)) t) [
      | inl q ↦ range f lo hi e σ ρ a b x q s i
      | inr q ↦
          elim (in_split a x b m X (and_l (finite m) (u && v) q) i) [
            | inl j ↦ halved n f lo hi e σ ρ a m x X (and_l u v (and_r (finite m) (u && v) q)) s j
            | inr j ↦ halved n f lo hi e σ ρ m b x X (and_r u v (and_r (finite m) (u && v) q)) s j
          ]
    ]
