-- The sign that log-gamma reports, over the plan: `plus`, `at_pole`, `minus_even` and `minus_odd` for every finite argument but zero, by its whole part,
-- and `sign_is` for every argument: the sign depends on nothing but the value (`sign_of`). All ask that the plan is `Regular`. Assumes nothing.
use mathlib.Core.Path.{◌≡◌, refl, sym, ap, ◌∙◌, subst}
use Prim.Native.Nat.{ℕ, suc, ◌+◌, ◌*◌, ◌/◌, ◌%◌, ◌^◌, ◌<◌, ◌≤◌}
use native.Mathlib.Nat.{mul-pos, mul-le-mul_left, mod-eq_of_lt, div-eq_of_lt, lt_irrefl}
use native.Mathlib.Omega.{arith}
use mathlib.Core.Bool.{Bool, true, false, cond}
use lib.Dec.{T, ltb, eqb, ltb→lt}
use lib.IntN.{ℤ, pos, negsuc}
use lib.Pow.{pow_mono}
use lib.Ieee.{Float, nan, inf, fin, Format, neg, le, fits, up, down}
use lib.Ieee.Fits.{up_pos}
use lib.Ieee.Positive.{above_of_le}
use borrow.Author.Tests.{lt-leb, le-leb, ltb-true, ltb-false, eqb-true, eqb-false}
use Rattle.rounding.proofs.Signed.{le→Le}
use Rattle.words.proofs.CutLaws.{sign_of_is}
use Rattle.words.proofs.PatternLaws.{fits_any_sign}
use Rattle.lgamma.specs.Plan as Plan
use Rattle.lgamma.specs.Plan.{Plan, Answer, reflected_s}
use Rattle.lgamma.proofs.Poles.{Regular, pole, sign_even, sign_odd}

-- a size up to 2 ^ -(n + 1) is below 1
below_one_holds : (n m : ℕ) (e : ℤ) → 0 < m → T (le (fin false m e) (fin false 1 (negsuc n))) → m * up e < down e
below_one_holds n m e M h =
    less (m * up e) (2 ^ suc n) (down e) (mul-pos M (up_pos e)) (mul-le-mul_left (m * up e) (pow_mono (some n))) (le→Le false m e false 1 (negsuc n) h)
  where
    some : (n : ℕ) → 1 ≤ suc n
    some n = omega arith

    less : (a K d : ℕ) → 0 < a → a * 2 ≤ a * K → a * K + 0 * d ≤ 1 * d + 0 * K → a < d
    less a K d A k h = omega arith

-- the sign of the gamma function, +1 or -1, as log-gamma reports it: -1 at -0, and where the argument carries a minus sign, is no whole number, and the
-- whole part of its size is even
unfoldable pub sign_of : Float → ℤ
sign_of nan = pos 1
sign_of (inf s) = pos 1
sign_of (fin false m e) = pos 1
sign_of (fin true m e) =
    cond (eqb m 0) (negsuc 0)
    (cond (eqb (m * up e % down e) 0) (pos 1)
    (cond (eqb (m * up e / down e % 2) 0) (negsuc 0) (pos 1)))

module _ (p : Plan) (r : Regular p) where
  abbrev f : Format
  f = p.format

  -- ---- no minus sign: +1
  plus_by : (m : ℕ) (e : ℤ) (b : Bool) → T (fits f (fin false m e)) → ltb (p.ix (fin false m e)) p.tiny ≡ b → (Plan.lgamma_s p (fin false m e)).sign ≡ pos 1
  unfolding Plan.lgamma_s
  plus_by m e true F t = rw (lt-leb p.not_finite _ (r.ix_finite false m e F), sign_of_is f false m e F, t) refl
  plus_by m e false F t = rw (lt-leb p.not_finite _ (r.ix_finite false m e F), sign_of_is f false m e F, t) refl

  pub plus : (m : ℕ) (e : ℤ) → T (fits f (fin false m e)) → (Plan.lgamma_s p (fin false m e)).sign ≡ pos 1
  plus m e F = plus_by m e _ F refl

  -- ---- what is not finite: +1
  pub nan_plus : (Plan.lgamma_s p nan).sign ≡ pos 1
  unfolding Plan.lgamma_s
  nan_plus = rw (le-leb p.not_finite (p.ix nan) r.ix_nan) refl

  pub inf_plus : (s : Bool) → (Plan.lgamma_s p (inf s)).sign ≡ pos 1
  unfolding Plan.lgamma_s
  inf_plus s = rw (le-leb p.not_finite (p.ix (inf s)) (r.ix_inf s)) refl

  -- ---- a minus sign
  module _ (m : ℕ) (e : ℤ) (F : T (fits f (fin true m e))) where
    abbrev x : Float
    x = fin true m e

    -- below the tiny cut: no whole number, and a whole part of 0
    tiny_sign : ltb (p.ix x) p.tiny ≡ true → (Plan.lgamma_s p x).sign ≡ negsuc 0
    unfolding Plan.lgamma_s
    tiny_sign t = rw (lt-leb p.not_finite _ (r.ix_finite true m e F), sign_of_is f true m e F, t) refl

    tiny_below : 0 < m → ltb (p.ix x) p.tiny ≡ true → m * up e < down e
    tiny_below M t = below_one_holds r.n m e M (r.upto_tiny m e F (ltb-true (p.ix x) p.tiny t))

    -- from it on: the reflection
    reflected_is : ltb (p.ix x) p.tiny ≡ false → Plan.lgamma_s p x ≡ reflected_s p (p.ix x) (fin false m e) (p.sin_pi (fin false m e))
    unfolding Plan.lgamma_s neg
    reflected_is t = rw (lt-leb p.not_finite _ (r.ix_finite true m e F), sign_of_is f true m e F, t) refl

    from_least : ltb (p.ix x) p.tiny ≡ false → T (le (fin false 1 (negsuc r.n)) (fin false m e))
    from_least t = r.from_tiny m e F (ltb-false (p.ix x) p.tiny t)

    F' : T (fits f (fin false m e))
    F' = fits_any_sign f true false m e F

    -- a negative whole number is a pole: +inf, and the sign +1
    pub at_pole : 0 < m → m * up e % down e ≡ 0 → Plan.lgamma_s p x ≡ record { value = inf false; sign = pos 1 }
    at_pole M w = go (ltb (p.ix x) p.tiny) refl
      where
        go : (b : Bool) → ltb (p.ix x) p.tiny ≡ b → Plan.lgamma_s p x ≡ record { value = inf false; sign = pos 1 }
        go true t = absurd (lt_irrefl 0 (subst (λ (n : ℕ). 0 < n) (sym (mod-eq_of_lt (tiny_below M t)) ∙ w) (mul-pos M (up_pos e))))
        go false t = reflected_is t ∙ pole p r (p.ix x) m e F' (from_least t) w

    -- elsewhere -1 where the whole part of the size is even
    pub minus_even : (m * up e % down e ≡ 0 → ⊥) → m * up e / down e % 2 ≡ 0 → (Plan.lgamma_s p x).sign ≡ negsuc 0
    minus_even w d = go (ltb (p.ix x) p.tiny) refl
      where
        go : (b : Bool) → ltb (p.ix x) p.tiny ≡ b → (Plan.lgamma_s p x).sign ≡ negsuc 0
        go true t = tiny_sign t
        go false t = ap (λ (a : Answer). a.sign) (reflected_is t) ∙ sign_even p r (p.ix x) m e F' (from_least t) w d

    -- and +1 where it is odd
    pub minus_odd : 0 < m → (m * up e % down e ≡ 0 → ⊥) → m * up e / down e % 2 ≡ 1 → (Plan.lgamma_s p x).sign ≡ pos 1
    minus_odd M w d = go (ltb (p.ix x) p.tiny) refl
      where
        go : (b : Bool) → ltb (p.ix x) p.tiny ≡ b → (Plan.lgamma_s p x).sign ≡ pos 1
        go true t = absurd (clash (m * up e / down e) (div-eq_of_lt (tiny_below M t)) d)
          where
            clash : (q : ℕ) → q ≡ 0 → q % 2 ≡ 1 → ⊥
            clash q z d = omega arith
        go false t = ap (λ (a : Answer). a.sign) (reflected_is t) ∙ sign_odd p r (p.ix x) m e F' (from_least t) w d

    -- -1 at -0
    pub minus_zero : m ≡ 0 → (Plan.lgamma_s p x).sign ≡ negsuc 0
    minus_zero z = go (ltb (p.ix x) p.tiny) refl
      where
        go : (b : Bool) → ltb (p.ix x) p.tiny ≡ b → (Plan.lgamma_s p x).sign ≡ negsuc 0
        go true t = tiny_sign t
        go false t =
            absurd (lt_irrefl 0 (subst (λ (n : ℕ). 0 < n) z (ltb→lt 0 m (above_of_le (fin false 1 (negsuc r.n)) (fin false m e) tt (from_least t)))))

    minus_is : (Plan.lgamma_s p x).sign ≡ sign_of x
    unfolding sign_of
    minus_is = go (eqb m 0) (eqb (m * up e % down e) 0) (eqb (m * up e / down e % 2) 0) refl refl refl
      where
        some : (m : ℕ) → (m ≡ 0 → ⊥) → 0 < m
        some m h = omega arith

        odd : (q : ℕ) → (q % 2 ≡ 0 → ⊥) → q % 2 ≡ 1
        odd q h = omega arith

        go : (z w d : Bool) → eqb m 0 ≡ z → eqb (m * up e % down e) 0 ≡ w → eqb (m * up e / down e % 2) 0 ≡ d
            → (Plan.lgamma_s p x).sign ≡ cond z (negsuc 0) (cond w (pos 1) (cond d (negsuc 0) (pos 1)))
        go true w d a b c = minus_zero (eqb-true m 0 a)
        go false true d a b c = ap (λ (a : Answer). a.sign) (at_pole (some m (eqb-false m 0 a)) (eqb-true (m * up e % down e) 0 b))
        go false false true a b c = minus_even (eqb-false (m * up e % down e) 0 b) (eqb-true (m * up e / down e % 2) 0 c)
        go false false false a b c =
            minus_odd (some m (eqb-false m 0 a)) (eqb-false (m * up e % down e) 0 b) (odd (m * up e / down e) (eqb-false (m * up e / down e % 2) 0 c))

  -- ---- every argument
  pub sign_is : (x : Float) → T (fits f x) → (Plan.lgamma_s p x).sign ≡ sign_of x
  unfolding sign_of
  sign_is nan F = nan_plus
  sign_is (inf s) F = inf_plus s
  sign_is (fin false m e) F = plus m e F
  sign_is (fin true m e) F = minus_is m e F
