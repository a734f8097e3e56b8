-- erf and erfc at -x, over the plan:
--   `erf_odd`: erf(-x) is -erf(x), for every x;
--   `erfc_mirror`: erfc(-x) is 2 - erfc(x), for an x from 0.84375 on, the infinity included.
-- Both ask that the plan is `Regular`. From 0.84375 on the formulas look at the size of x alone. Below that, erf is a sum that turns with
-- its terms: below 2 ^ -28 these have the sign of x, and from there on the sum is above zero with x, so that they never cancel.
-- Assumes nothing.
use mathlib.Core.Path.{◌≡◌, refl, sym, ap, ◌∙◌}
use Prim.Native.Nat.{ℕ, ◌+◌, ◌*◌, ◌≤◌}
use mathlib.Core.Bool.{Bool, true, false, not, true≢false}
use lib.IntN.{ℤ}
use lib.Dec.{T, ltb, ltb→lt, nltb→le}
use lib.Ieee.{Float, nan, inf, fin, Format, up, down, add, sub, mul, div, neg, sum, le, fits}
use lib.Ieee.Positive.{positive, above, above_of_le}
use borrow.Author.Tests.{lt-leb, le-ltb}
use Rattle.rounding.proofs.Signed.{Signed, round_neg, round_signed}
use Rattle.rounding.proofs.Odd.{neg_neg, mul_neg, mul_neg_right, mul_neg_both, add_odd}
use Rattle.words.specs.Pick.{pick}
use Rattle.words.specs.Bits.{sign_s}
use Rattle.words.proofs.PatternLaws.{fits_any_sign, fabs_neg}
use Rattle.words.proofs.CutLaws.{sign_of_is}
use Rattle.poly.specs.Horner.{horner_s}
use Rattle.erf.specs.Plan.{Plan}
use Rattle.erf.specs.Plan as Plan
use Rattle.erf.proofs.AnnexF.{annex_f}
use Rattle.erf.proofs.Regular.{Regular, value_at, ix_neg, ix_finite, from_cut, small_plus}

-- ---- a sum of two values with no minus sign turns with both
add_odd_plus : (f : Format) (x y : Float) → Signed false x → Signed false y → add f (neg x) (neg y) ≡ neg (add f x y)
unfolding add neg sum
add_odd_plus f nan y p q = absurd p
add_odd_plus f (inf true) y p q = absurd (true≢false p)
add_odd_plus f (fin true m e) y p q = absurd (true≢false p)
add_odd_plus f (inf false) nan p q = absurd q
add_odd_plus f (inf false) (inf true) p q = absurd (true≢false q)
add_odd_plus f (inf false) (inf false) p q = refl
add_odd_plus f (inf false) (fin t n d) p q = refl
add_odd_plus f (fin false m e) nan p q = absurd q
add_odd_plus f (fin false m e) (inf true) p q = absurd (true≢false q)
add_odd_plus f (fin false m e) (inf false) p q = refl
add_odd_plus f (fin false m e) (fin true n d) p q = absurd (true≢false q)
add_odd_plus f (fin false m e) (fin false n d) p q =
    round_neg f (m * up e * down d + n * up d * down e) (down e * down d)

-- a constant above zero times an x with no minus sign has none
times_plus : (f : Format) (c : Float) (m : ℕ) (e : ℤ) → T (positive c) → Signed false (mul f c (fin false m e))
unfolding mul
times_plus f nan m e p = absurd p
times_plus f (inf s) m e p = absurd p
times_plus f (fin true n d) m e p = absurd p
times_plus f (fin false n d) m e p = round_signed f false (n * up d * (m * up e)) (down d * down e)

-- a function goes through a choice where it goes through both sides
pick_through : (g : Float → Float) (b : Bool) (x' x y' y : Float) → (T b → x' ≡ g x) → (T (not b) → y' ≡ g y) → pick b x' y' ≡ g (pick b x y)
pick_through g true x' x y' y h k = h tt
pick_through g false x' x y' y h k = k tt

module _ (p : Plan) where
  abbrev f : Format
  f = p.format

  -- ---- the formulas at -x
  small_even : (x : Float) → Plan.small_s p (neg x) ≡ Plan.small_s p x
  unfolding Plan.small_s
  small_even x = ap (λ (z : Float). div f (horner_s f p.PP z) (horner_s f p.QQ z)) (mul_neg_both f x x)

  erfc1_even : (x : Float) → Plan.erfc1_s p (neg x) ≡ Plan.erfc1_s p x
  unfolding Plan.erfc1_s
  erfc1_even x = rw (fabs_neg x) refl

  erfc2_even : (w : ℕ) (x : Float) → Plan.erfc2_s p w (neg x) ≡ Plan.erfc2_s p w x
  unfolding Plan.erfc2_s
  erfc2_even w x = rw (fabs_neg x, erfc1_even x) refl

  -- 0.125 * (8 * x + EFX8 * x)
  tiny_odd : (r : Regular p) (m : ℕ) (e : ℤ)
      → mul f p.0·125 (add f (mul f p.8·0 (neg (fin false m e))) (mul f p.EFX8 (neg (fin false m e))))
      ≡ neg (mul f p.0·125 (add f (mul f p.8·0 (fin false m e)) (mul f p.EFX8 (fin false m e))))
  tiny_odd r m e =
      let x = fin false m e in
      let a = mul f p.8·0 x in
      let b = mul f p.EFX8 x in
      rw (mul_neg_right f p.8·0 x, mul_neg_right f p.EFX8 x)
      (ap (mul f p.0·125) (add_odd_plus f a b (times_plus f p.8·0 m e r.eight_plus) (times_plus f p.EFX8 m e r.EFX8_plus))
      ∙ mul_neg_right f p.0·125 (add f a b))

  -- x + x * y, where it is above zero
  sum_odd : (x : Float) → T (positive (add f x (mul f x (Plan.small_s p x))))
      → add f (neg x) (mul f (neg x) (Plan.small_s p (neg x))) ≡ neg (add f x (mul f x (Plan.small_s p x)))
  sum_odd x h =
      let y = Plan.small_s p x in
      rw (small_even x, mul_neg f x y) (add_odd f x (mul f x y) h)

  -- the sign bit of -x
  minus : (m : ℕ) (e : ℤ) → T (fits f (fin false m e)) → sign_s f (neg (fin false m e)) ≡ 1
  unfolding neg
  minus m e F = sign_of_is f true m e (fits_any_sign f false true m e F)

  -- ---- erf
  plus_odd : (r : Regular p) (m : ℕ) (e : ℤ) → T (fits f (fin false m e))
      → Plan.erf_s p (neg (fin false m e)) ≡ neg (Plan.erf_s p (fin false m e))
  unfolding Plan.erf_s
  plus_odd r m e F =
      let x = fin false m e in
      let w = p.ix x in
      rw (ix_neg p r x, sign_of_is f false m e F, minus m e F, lt-leb p.not_finite w (ix_finite p r m e F))
      (pick_through neg (ltb w p.at0·84375) _ _ _ _
      (λ (h : T (ltb w p.at0·84375)).
      pick_through neg (ltb w p.at2^-28) _ _ _ _
      (λ (k : T (ltb w p.at2^-28)). tiny_odd r m e)
      (λ (k : T (not (ltb w p.at2^-28))). sum_odd x (small_plus p r m e F (nltb→le w p.at2^-28 k) (ltb→lt w p.at0·84375 h))))
      (λ (h : T (not (ltb w p.at0·84375))). rw (erfc2_even w x) refl))

  -- where x is -y, y is -x
  turn : (x y : Float) → x ≡ neg y → y ≡ neg x
  turn x y h = sym (ap neg h ∙ neg_neg y)

  inf_odd : Regular p → Plan.erf_s p (inf true) ≡ neg (Plan.erf_s p (inf false))
  inf_odd r = let a = annex_f p r in a.erf_minus_inf ∙ sym (ap neg a.erf_inf)

  -- erf(-x) is -erf(x)
  pub erf_odd : Regular p → (x : Float) → T (fits f x) → Plan.erf_s p (neg x) ≡ neg (Plan.erf_s p x)
  unfolding neg
  erf_odd r nan F = let a = annex_f p r in a.erf_nan ∙ sym (ap neg a.erf_nan)
  erf_odd r (inf false) F = inf_odd r
  erf_odd r (inf true) F = turn (Plan.erf_s p (inf true)) (Plan.erf_s p (inf false)) (inf_odd r)
  erf_odd r (fin false m e) F = plus_odd r m e F
  erf_odd r (fin true m e) F =
      turn (Plan.erf_s p (fin true m e)) (Plan.erf_s p (fin false m e)) (plus_odd r m e (fits_any_sign f true false m e F))

  -- ---- erfc
  plus_mirror : (r : Regular p) (m : ℕ) (e : ℤ) → T (fits f (fin false m e)) → p.at0·84375 ≤ p.ix (fin false m e)
      → Plan.erfc_s p (neg (fin false m e)) ≡ sub f p.2·0 (Plan.erfc_s p (fin false m e))
  unfolding Plan.erfc_s
  plus_mirror r m e F h =
      let x = fin false m e in
      let w = p.ix x in
      rw (ix_neg p r x, sign_of_is f false m e F, minus m e F, lt-leb p.not_finite w (ix_finite p r m e F), le-ltb w p.at0·84375 h)
      (pick_through (sub f p.2·0) (ltb w p.at28) _ _ _ _
      (λ (k : T (ltb w p.at28)). rw (erfc2_even w x) refl)
      (λ (k : T (not (ltb w p.at28))). r.far))

  -- erfc(-x) is 2 - erfc(x), for an x from 0.84375 on
  pub erfc_mirror : (r : Regular p) (x : Float) → T (fits f x) → T (le (value_at p r.without p.at0·84375) x)
      → Plan.erfc_s p (neg x) ≡ sub f p.2·0 (Plan.erfc_s p x)
  unfolding neg
  erfc_mirror r x F h = go x F h (above_of_le (value_at p r.without p.at0·84375) x r.cut_plus h)
    where
      go : (x : Float) → T (fits f x) → T (le (value_at p r.without p.at0·84375) x) → T (above x)
          → Plan.erfc_s p (neg x) ≡ sub f p.2·0 (Plan.erfc_s p x)
      go nan F h a = absurd a
      go (inf true) F h a = absurd a
      go (inf false) F h a = let v = annex_f p r in v.erfc_minus_inf ∙ sym (ap (sub f p.2·0) v.erfc_inf ∙ r.two_less_zero)
      go (fin true m e) F h a = absurd a
      go (fin false m e) F h a = plus_mirror r m e F (from_cut p r m e F h)
