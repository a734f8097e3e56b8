-- What each return of `floor` gives, over the format, by the tests that lead to it. Assumes nothing.
use Rattle.std.proofs.Common.{◌≡◌, ℕ, zero, suc, ◌+◌, ◌-◌, ◌*◌, ◌/◌, ◌%◌, ◌^◌, ◌<◌, ◌≤◌, min, Bool, true, false, cond, not, T, ℤ, pos, neg_ℤ, sym, refl, ap, ◌∙◌, subst, inl, inr, true≢false, le_of_lt, lt_irrefl, mod-eq_of_lt, div-lt_iff_lt-mul, eq-zero-or-pos, lt_of_not-le, div-add-mod', le-div_iff_mul-le, not-le_of_lt, add-one, arith, le→leb, lt→ltb, pow_pos, w64, to_z, of_z}
use native.Mathlib.Nat.{div-eq_of_lt, zero-mod}
use mathlib.Core.Bool.{false≢true}
use lib.Signed.{mag}
use lib.Ieee.{Float, nan, inf, fin, Format, binary32, binary64, prec, emax, hid, top, up, down, of_bits, lt, le, neg, sub, sum, of_int, to_signed, in_float, fits}
use lib.Ieee.Back.{round_whole, whole_unique}
use lib.Ieee.Bits.{of_bits-fits}
use lib.Ieee.Casts.{to_signed_in}
use lib.Ieee.Exact.{HasValue}
use lib.Ieee.Fits.{down_pos, sub-fits, of_int-fits}
use lib.Ieee.Nearest.{div_same}
use lib.Ieee.Scale.{finite}
use mir.ValLaws.{to_z-of_z}
use Rattle.rounding.proofs.Signed.{Le, le_of_signed, signed_of_le, value_finite, value_neg}
use Rattle.rounding.proofs.Order.{le_trans, le_of_not_lt, not_lt_of_le}
use Rattle.rounding.proofs.Fraction.{sub_is}
use Rattle.rounding.proofs.Units.{add_units}
use Rattle.words.specs.Fabs.{fabs_s}
use Rattle.words.proofs.PatternLaws.{fabs_fin}
use Rattle.floor.specs.Floor.{floor_s}
use Rattle.floor.specs.Cut.{cut_s}
use Rattle.std.proofs.lemmas.Float.{lt_irrefl as float_lt_irrefl}
use Rattle.floor.proofs.FloorValues.{size_below, stays, falls, whole_value, floor_inf, part_small}
use Rattle.floor.proofs.FloorLaws.{whole_from}

-- ---- the numbers of the code, by their patterns: 1, -1, and 2 ^ (prec - 1), from which on every number is whole
abbrev one : Format → ℕ
one f = emax f * hid f

abbrev pub minus_one : Format → ℕ
minus_one f = top f + one f

abbrev all_whole : Format → ℕ
all_whole f = whole_from f * hid f

pub zero_is : (f : Format) → HasValue (of_bits f 0) false 0 1
unfolding of_bits
zero_is binary32 = (refl, refl)
zero_is binary64 = (refl, refl)

one_is : (f : Format) → HasValue (of_bits f (one f)) false 1 1
unfolding of_bits
one_is binary32 = (refl, refl)
one_is binary64 = (refl, refl)

pub minus_one_is : (f : Format) → HasValue (of_bits f (minus_one f)) true 1 1
unfolding of_bits
minus_one_is binary32 = (refl, refl)
minus_one_is binary64 = (refl, refl)

all_whole_is : (f : Format) → HasValue (of_bits f (all_whole f)) false (hid f) 1
unfolding of_bits
all_whole_is binary32 = (refl, refl)
all_whole_is binary64 = (refl, refl)

-- ---- x is ±d / w
record Ratio (x : Float) : Type 0 where
  s : Bool
  d : ℕ
  w : ℕ
  W : 0 < w
  v : HasValue x s d w

abbrev whole : (x : Float) (s : Bool) (n : ℕ) → HasValue x s n 1 → Ratio x
whole x s n v = record { s = s; d = n; w = 1; W = pow_pos 0; v = v }

abbrev its_own : (s : Bool) (m : ℕ) (e : ℤ) → Ratio (fin s m e)
its_own s m e = record { s = s; d = m * up e; w = down e; W = down_pos e; v = (refl, refl) }

abbrev zero_at : (f : Format) → Ratio (of_bits f 0)
zero_at f = whole (of_bits f 0) false 0 (zero_is f)

-- y ≤ x
abbrev AtMost : {y x : Float} → Ratio y → Ratio x → Type 0
AtMost q p = Le q.s q.d q.w p.s p.d p.w

module _ {x y : Float} (p : Ratio x) (q : Ratio y) where
  lt_means : lt x y ≡ true → AtMost q p → ⊥
  lt_means h k = true≢false (sym h ∙ not_lt_of_le x y (le_of_signed y x q.s q.d q.w p.s p.d p.w q.W p.W q.v p.v k))

  not_lt_means : lt x y ≡ false → AtMost q p
  not_lt_means h =
      signed_of_le y x q.s q.d q.w p.s p.d p.w q.v p.v
      (le_of_not_lt x y (value_finite x p.s p.d p.w p.v) (value_finite y q.s q.d q.w q.v) (subst (λ (b : Bool). T (not b)) (sym h) tt))

  lt_by : (AtMost q p → ⊥) → T (lt x y)
  lt_by n = go (lt x y) not_lt_means
    where
      go : (b : Bool) → (b ≡ false → AtMost q p) → T b
      go true k = tt
      go false k = absurd (n (k refl))

-- ---- the size of x beside a whole number n: below n, or not
under : (x c : Float) (n : ℕ) → HasValue c false n 1 → lt (fabs_s x) c ≡ true → (p : Ratio x) × (p.d < n * p.w)
unfolding lt fabs_s
under nan c n v h = absurd (false≢true h)
under (inf s) nan n v h = absurd v
under (inf s) (inf t) n v h = absurd v
under (inf s) (fin t k e) n v h = absurd (false≢true h)
under (fin s m e) c n v h =
    let l : n * down e ≤ m * up e → ⊥ = λ k. lt_means (its_own false m e) (whole c false n v) h (omega arith) in (its_own s m e, lt_of_not-le l)

from : (x : Float) (p : Ratio x) (c : Float) (n : ℕ) → HasValue c false n 1 → lt (fabs_s x) c ≡ false → n * p.w ≤ p.d
unfolding fabs_s
from nan p c n v h = absurd p.v
from (inf t) p c n v h = absurd p.v
from (fin t m e) p c n v h =
    let size : Ratio (fin false m e) = record { s = false; d = p.d; w = p.w; W = p.W; v = (refl, p.v.1) } in
    let k = not_lt_means size (whole c false n v) h in omega arith

-- ---- whole numbers: ±q
abbrev signed : Bool → ℕ → ℤ
signed s q = cond s (neg_ℤ (pos q)) (pos q)

toward_zero : (x : Float) (p : Ratio x) → p.d / p.w < 2 ^ 63 → to_signed 63 x ≡ signed p.s (p.d / p.w)
unfolding to_signed
toward_zero nan p l = absurd p.v
toward_zero (inf t) p l = absurd p.v
toward_zero (fin t m e) p l =
    let a : min (p.d / p.w) (2 ^ 63) ≡ p.d / p.w = omega arith in
    let b : min (p.d / p.w) (2 ^ 63 - 1) ≡ p.d / p.w = omega arith in
    rw (p.v.0, div_same (m * up e) (down e) p.d p.w (down_pos e) p.W p.v.1, a, b)

-- an i64 that is read back from its bits
pub held : (x : Float) (n : ℤ) → n ≡ to_signed 63 x → to_z w64 (of_z w64 n) ≡ to_signed 63 x
held x n e = to_z-of_z w64 n (record { sfits = subst (λ (z : ℤ). mag z < 2 ^ 63) (sym e) (to_signed_in 63 x) }) ∙ e

as_float : (f : Format) (s : Bool) (q : ℕ) → 0 < q → q ≤ 2 ^ prec f → HasValue (of_int f (signed s q)) s q 1
unfolding of_int
as_float f false q p l = round_whole f false q l
as_float f true zero p l = absurd (lt_irrefl 0 p)
as_float f true (suc k) p l = round_whole f true (suc k) l

may_be_float : (f : Format) (s : Bool) (q : ℕ) → q ≤ 2 ^ prec f → T (in_float f (signed s q))
unfolding in_float
may_be_float f false q l = le→leb q (2 ^ prec f) l
may_be_float f true zero l = le→leb 0 (2 ^ prec f) l
may_be_float f true (suc k) l = lt→ltb k (2 ^ prec f) l

-- -q - 1
next_down : (f : Format) (y : Float) (q : ℕ) → HasValue y true q 1 → q < 2 ^ prec f → HasValue (sub f y (of_bits f (one f))) true (suc q) 1
next_down f y q v l =
    rw (
      sub_is f y (of_bits f (one f)),
      add_units f y (neg (of_bits f (one f))) true q true 1 1 (pow_pos 0) v (value_neg (of_bits f (one f)) false 1 1 (one_is f)),
    )
    (unfold sum in rw (add-one q) (round_whole f true (suc q) l))

-- ---- an x that is whole stays, and any other falls
ratio_stays : (f : Format) {x : Float} (p : Ratio x) → p.d % p.w ≡ 0 → x ≡ floor_s f x
ratio_stays f {x} p = stays f x p.s p.d p.w p.W p.v

ratio_falls : (f : Format) {x : Float} (p : Ratio x) → 0 < p.d % p.w → p.d / p.w < 2 ^ prec f → (y : Float) → T (fits f y)
    → HasValue y p.s (size_below p.s (p.d / p.w)) 1 → y ≡ floor_s f x
ratio_falls f {x} p r = falls f x p.s p.d p.w p.W p.v (λ e. lt_irrefl 0 (subst (λ (n : ℕ). 0 < n) e r))

-- ---- the returns, by the tests that lead to them
module _ (f : Format) (x size : Float) (fit : fits f x ≡ true) (is : size ≡ fabs_s x) where
  F : T (fits f x)
  F = subst T (sym fit) tt

  test : (b : ℕ) (r : Bool) → lt size (of_bits f b) ≡ r → lt (fabs_s x) (of_bits f b) ≡ r
  test b r h = ap (λ (z : Float). lt z (of_bits f b)) (sym is) ∙ h

  -- size below one
  module _ (small : lt size (of_bits f (one f)) ≡ true) where
    known : (p : Ratio x) × (p.d < 1 * p.w)
    known = under x (of_bits f (one f)) 1 (one_is f) (test (one f) true small)

    abbrev t : Ratio x
    t = known.0

    tiny : t.d < t.w
    tiny = omega (arith, known.1)

    goes_to : (b : ℕ) → 0 < t.d → HasValue (of_bits f b) t.s (size_below t.s 0) 1 → of_bits f b ≡ floor_s f x
    goes_to b p v =
        let none : t.d / t.w ≡ 0 = div-eq_of_lt tiny in
        ratio_falls f t (rw (mod-eq_of_lt tiny) p) (rw none (pow_pos (prec f))) (of_bits f b) (of_bits-fits f b) (rw none v)

    pub below_zero : lt x (of_bits f 0) ≡ true → of_bits f (minus_one f) ≡ floor_s f x
    below_zero h = let z = go t.s (lt_means t (zero_at f) h) in goes_to (minus_one f) z.1 (rw z.0 (minus_one_is f))
      where
        go : (s : Bool) → (Le false 0 1 s t.d t.w → ⊥) → (s ≡ true) × (0 < t.d)
        go false n = absurd (n (omega arith))
        go true n = (refl, lt_of_not-le (λ (k : t.d ≤ 0). n (omega arith)))

    pub above_zero : lt (of_bits f 0) x ≡ true → of_bits f 0 ≡ floor_s f x
    above_zero h = let z = go t.s (lt_means (zero_at f) t h) in goes_to 0 z.1 (rw z.0 (zero_is f))
      where
        go : (s : Bool) → (Le s t.d t.w false 0 1 → ⊥) → (s ≡ false) × (0 < t.d)
        go true n = absurd (n (omega arith))
        go false n = (refl, lt_of_not-le (λ (k : t.d ≤ 0). n (omega arith)))

    pub at_zero : lt x (of_bits f 0) ≡ false → lt (of_bits f 0) x ≡ false → x ≡ floor_s f x
    at_zero h k =
        ratio_stays f t
        (rw (go t.s (not_lt_means t (zero_at f) h) (not_lt_means (zero_at f) t k)) (zero-mod t.w))
      where
        go : (s : Bool) → Le false 0 1 s t.d t.w → Le s t.d t.w false 0 1 → t.d ≡ 0
        go false a b = omega arith
        go true a b = omega arith

  -- a fraction still present, or room for one: the whole part q of the size fits
  module _ (room : lt size (of_bits f (all_whole f)) ≡ true) where
    bounded : (p : Ratio x) × (p.d < hid f * p.w)
    bounded = under x (of_bits f (all_whole f)) (hid f) (all_whole_is f) (test (all_whole f) true room)

    abbrev u : Ratio x
    u = bounded.0

    abbrev q : ℕ
    q = u.d / u.w

    q_under : (q < 2 ^ prec f) × (q < 2 ^ 63)
    q_under = go f q ((div-lt_iff_lt-mul u.W).1 bounded.1)
      where
        go : (f : Format) (q : ℕ) → q < hid f → (q < 2 ^ prec f) × (q < 2 ^ 63)
        go binary32 q h = (omega arith, omega arith)
        go binary64 q h = (omega arith, omega arith)

    pub in_range : T (le (fin true 1 (pos 63)) x) × T (lt x (fin false 1 (pos 63)))
    in_range =
        let k = go f u.s bounded.1 in (
          le_of_signed (fin true 1 (pos 63)) x true (2 ^ 63) 1 u.s u.d u.w (pow_pos 0) u.W (refl, refl) u.v k.0,
          lt_by u (its_own false 1 (pos 63)) k.1,
        )
      where
        go : (f : Format) (s : Bool) → u.d < hid f * u.w
            → Le true (2 ^ 63) 1 s u.d u.w × (Le false (2 ^ 63) 1 s u.d u.w → ⊥)
        go binary32 false h = (omega arith, λ k. omega arith)
        go binary32 true h = (omega arith, λ k. omega arith)
        go binary64 false h = (omega arith, λ k. omega arith)
        go binary64 true h = (omega arith, λ k. omega arith)

    -- n is x without its fraction, and y the float that it makes
    module _ (n : ℤ) (cut : n ≡ to_signed 63 x) where
      n_is : n ≡ signed u.s q
      n_is = cut ∙ toward_zero x u q_under.1

      pub cut_casts : T (in_float f n)
      cut_casts = rw n_is (may_be_float f u.s q (le_of_lt q_under.0))

      module _ (large : lt size (of_bits f (one f)) ≡ false) where
        y_is : HasValue (of_int f n) u.s q 1
        y_is =
            let o = from x u (of_bits f (one f)) 1 (one_is f) (test (one f) false large) in
            rw n_is (as_float f u.s q ((le-div_iff_mul-le u.W).1 o) (le_of_lt q_under.0))

        abbrev y : Ratio (of_int f n)
        y = whole (of_int f n) u.s q y_is

        -- y lies above x only below zero, and where something was cut off
        above : (Le u.s q 1 u.s u.d u.w → ⊥) → (u.s ≡ true) × (0 < u.d % u.w)
        above = go u.s
          where
            go : (s : Bool) → (Le s q 1 s u.d u.w → ⊥) → (s ≡ true) × (0 < u.d % u.w)
            go false k = absurd (k (omega (arith, div-add-mod' u.d u.w)))
            go true k = (refl, lt_of_not-le (λ (z : u.d % u.w ≤ 0). k (omega (arith, div-add-mod' u.d u.w))))

        pub one_less : lt x (of_int f n) ≡ true → sub f (of_int f n) (of_bits f (one f)) ≡ floor_s f x
        one_less h =
            let z = above (lt_means u y h) in
            ratio_falls f u z.1 q_under.0 (sub f (of_int f n) (of_bits f (one f))) (sub-fits f (of_int f n) (of_bits f (one f)))
            (rw z.0 (next_down f (of_int f n) q (rw z.0 at y_is) q_under.0))

        pub cut_off : lt x (of_int f n) ≡ false → of_int f n ≡ floor_s f x
        cut_off h =
            elim (eq-zero-or-pos (u.d % u.w)) [
              | inl z ↦ all z
              | inr r ↦ ratio_falls f u r q_under.0 (of_int f n) (of_int-fits f n) (go u.s y_is r (not_lt_means u y h))
            ]
          where
            -- nothing was cut off
            all : u.d % u.w ≡ 0 → of_int f n ≡ floor_s f x
            all z =
                whole_unique f (of_int f n) x u.s q (of_int-fits f n) F y_is (whole_value x u.s u.d u.w u.W u.v z) ∙ ratio_stays f u z

            go : (s : Bool) → HasValue (of_int f n) s q 1 → 0 < u.d % u.w → Le s q 1 s u.d u.w → HasValue (of_int f n) s (size_below s q) 1
            go true v r k = absurd (lt_irrefl 0 (omega (arith, div-add-mod' u.d u.w)))
            go false v r k = v

  -- no fraction possible: from any bound on that is at least 2 ^ (prec - 1)
  pub no_fraction : (c : Float) → T (finite c) → T (le (of_bits f (all_whole f)) c) → lt size c ≡ false → x ≡ floor_s f x
  no_fraction c C b h = go x F (ap (λ (z : Float). lt z c) (sym is) ∙ h)
    where
      go : (x : Float) → T (fits f x) → lt (fabs_s x) c ≡ false → x ≡ floor_s f x
      go nan F h = unfold floor_s in refl
      go (inf s) F h = sym (floor_inf f s)
      go (fin s m e) F h =
          let far = of_bits f (all_whole f) in
          let own = fin false m e in
          let above = le_of_not_lt own c tt C (subst (λ (q : Bool). T (not q)) (sym h ∙ ap (λ (z : Float). lt z c) (fabs_fin s m e)) tt) in
          let k =
          from (fin s m e) (its_own s m e) far (hid f) (all_whole_is f)
          (ap (λ (z : Float). lt z far) (fabs_fin s m e) ∙ not_lt_of_le own far (le_trans far c own b above)) in
          elim (eq-zero-or-pos (m * up e % down e)) [
            | inl z ↦ ratio_stays f (its_own s m e) z
            | inr r ↦
                absurd (not-le_of_lt (part_small f s m e F (λ z. lt_irrefl 0 (subst (λ (n : ℕ). 0 < n) z r))) ((le-div_iff_mul-le (down_pos e)).1 k))
          ]

all_finite : (f : Format) → T (finite (of_bits f (all_whole f)))
unfolding of_bits
all_finite binary32 = tt
all_finite binary64 = tt

all_at : (f : Format) → T (le (of_bits f (all_whole f)) (of_bits f (all_whole f)))
unfolding of_bits le
all_at binary32 = tt
all_at binary64 = tt

-- -1, as the code has it
minus_one_by : (f : Format) → neg (of_bits f (one f)) ≡ of_bits f (minus_one f)
unfolding of_bits neg
minus_one_by binary32 = refl
minus_one_by binary64 = refl

-- the same by the code's numbers: o is its 1, z its 0
module _ (f : Format) (x size o z : Float) (fit : fits f x ≡ true) (is : size ≡ fabs_s x) (O : o ≡ of_bits f (one f)) (Z : z ≡ of_bits f 0) where
  below_one : lt size o ≡ true → lt size (of_bits f (one f)) ≡ true
  below_one h = subst (λ (v : Float). lt size v ≡ true) O h

  from_one : lt size o ≡ false → lt size (of_bits f (one f)) ≡ false
  from_one h = subst (λ (v : Float). lt size v ≡ false) O h

  pub minus : (r p : Float) → lt size o ≡ true → lt x z ≡ true → p ≡ of_bits f (one f) → r ≡ neg p → r ≡ floor_s f x
  minus r p h k i e =
      e ∙ ap neg i ∙ minus_one_by f ∙ below_zero f x size fit is (below_one h) (subst (λ (v : Float). lt x v ≡ true) Z k)

  pub plus : (y r : Float) → lt size o ≡ true → y ≡ of_bits f 0 → lt y x ≡ true → r ≡ of_bits f 0 → r ≡ floor_s f x
  plus y r h i k e = e ∙ above_zero f x size fit is (below_one h) (subst (λ (v : Float). lt v x ≡ true) i k)

  pub stay : (y : Float) → lt size o ≡ true → lt x z ≡ false → y ≡ of_bits f 0 → lt y x ≡ false → x ≡ floor_s f x
  stay y h k i l =
      at_zero f x size fit is (below_one h) (subst (λ (v : Float). lt x v ≡ false) Z k) (subst (λ (v : Float). lt v x ≡ false) i l)

  -- y is x without its fraction
  module _ (y : Float) (cut : y ≡ cut_s f x) (large : lt size o ≡ false) where
    abbrev n : ℤ
    n = to_signed 63 x

    room : (b : Bool) → lt (fabs_s x) (of_bits f (all_whole f)) ≡ b → lt size (of_bits f (all_whole f)) ≡ b
    room b h = ap (λ (v : Float). lt v (of_bits f (all_whole f))) is ∙ h

    here : (b : Bool) → lt (fabs_s x) (of_bits f (all_whole f)) ≡ b → y ≡ cond b (of_int f n) x
    here b h = cut ∙ ap (λ (t : Bool). cond t (of_int f n) x) h

    pub less : (r p : Float) → lt x y ≡ true → p ≡ of_bits f (one f) → r ≡ sub f y p → r ≡ floor_s f x
    less r p h i e = go (lt (fabs_s x) (of_bits f (all_whole f))) refl
      where
        go : (b : Bool) → lt (fabs_s x) (of_bits f (all_whole f)) ≡ b → r ≡ floor_s f x
        go true k =
            e ∙ ap (sub f y) i ∙ ap (λ (v : Float). sub f v (of_bits f (one f))) (here true k)
            ∙ one_less f x size fit is (room true k) n refl (from_one large) (subst (λ (v : Float). lt x v ≡ true) (here true k) h)
        go false k = absurd (float_lt_irrefl x (subst T (sym (subst (λ (v : Float). lt x v ≡ true) (here false k) h)) tt))

    pub stays_cut : lt x y ≡ false → y ≡ floor_s f x
    stays_cut h = go (lt (fabs_s x) (of_bits f (all_whole f))) refl
      where
        go : (b : Bool) → lt (fabs_s x) (of_bits f (all_whole f)) ≡ b → y ≡ floor_s f x
        go true k =
            here true k
            ∙ cut_off f x size fit is (room true k) n refl (from_one large) (subst (λ (v : Float). lt x v ≡ false) (here true k) h)
        go false k = here false k ∙ no_fraction f x size fit is (of_bits f (all_whole f)) (all_finite f) (all_at f) (room false k)

-- ---- the casts of `cut`
module _ (f : Format) (x size c : Float) (fit : fits f x ≡ true) (is : size ≡ fabs_s x) (C : c ≡ of_bits f (all_whole f)) where
  pub casts : lt size c ≡ true → T (le (fin true 1 (pos 63)) x) × T (lt x (fin false 1 (pos 63)))
  casts h = in_range f x size fit is (subst (λ (v : Float). lt size v ≡ true) C h)

  pub cast_back : lt size c ≡ true → (n : ℤ) → n ≡ to_signed 63 x → T (in_float f n)
  cast_back h n e = cut_casts f x size fit is (subst (λ (v : Float). lt size v ≡ true) C h) n e

  whether : (b : Bool) → lt size c ≡ b → lt (fabs_s x) (of_bits f (all_whole f)) ≡ b
  whether b h = ap (λ (v : Float). lt v (of_bits f (all_whole f))) (sym is) ∙ subst (λ (v : Float). lt size v ≡ b) C h

  pub cut_is : lt size c ≡ true → (n : ℤ) → n ≡ to_signed 63 x → of_int f n ≡ cut_s f x
  cut_is h n e = ap (of_int f) e ∙ sym (ap (λ (t : Bool). cond t (of_int f (to_signed 63 x)) x) (whether true h))

  pub kept_is : lt size c ≡ false → x ≡ cut_s f x
  kept_is h = sym (ap (λ (t : Bool). cond t (of_int f (to_signed 63 x)) x) (whether false h))
