-- What each return of erf and erfc, and of the functions that they are made of, gives, over their plan. Assumes nothing.
use Prim.Native.Nat.{ℕ, ◌<◌, ◌≤◌}
use mathlib.Core.Path.{◌≡◌, refl}
use mathlib.Core.Logic.{◌⊎◌, inl, inr}
use mathlib.Core.Bool.{true, false, not, ◌||◌}
use lib.IntN.{pos}
use lib.Dec.{ltb, eqb}
use lib.Ieee.{Float, nan, inf, fin, Format, neg, of_int, add, sub, mul, div}
use borrow.Author.Tests.{le-leb, lt-leb, lt-ltb, le-ltb, eq-eqb, ne_eqb}
use Rattle.words.specs.Pick.{pick}
use Rattle.words.specs.Bits.{sign_s}
use Rattle.words.specs.Fabs.{fabs_s}
use Rattle.poly.specs.Horner.{horner_s}
use Rattle.erf.specs.Plan.{Plan, erfc1_s, short_s, ratio_s, erfc2_s, small_s, erf_s, erfc_s}

module _ (p : Plan) where
  abbrev f : Format
  f = p.format

  -- ---- ratio: R and S are the values of its two polynomials
  module _ {ix : ℕ} (s : Float) {R S : Float} where
    pub ratio_near : ix < p.at1/0·35 → R ≡ horner_s f p.RA s → S ≡ horner_s f p.SA s → div f R S ≡ ratio_s p ix s
    unfolding ratio_s
    ratio_near h r q = simp (lt-ltb ix p.at1/0·35 h, r, q)

    pub ratio_far : p.at1/0·35 ≤ ix → R ≡ horner_s f p.RB s → S ≡ horner_s f p.SB s → div f R S ≡ ratio_s p ix s
    unfolding ratio_s
    ratio_far h r q = simp (le-ltb ix p.at1/0·35 h, r, q)

  -- ---- erfc2: A is the value of the first exp, B of the second
  module _ {ix : ℕ} (x : Float) where
    pub erfc2_near : ix < p.at1·25 → erfc1_s p x ≡ erfc2_s p ix x
    unfolding erfc2_s
    erfc2_near h = simp (lt-ltb ix p.at1·25 h)

    pub erfc2_far : {a z q A B : Float} → p.at1·25 ≤ ix → a ≡ fabs_s x → z ≡ short_s p a
        → A ≡ p.exp (sub f (mul f (neg z) z) p.0·5625)
        → q ≡ ratio_s p ix (div f p.1·0 (mul f a a))
        → B ≡ p.exp (add f (mul f (sub f z a) (add f z a)) q)
        → div f (mul f A B) a ≡ erfc2_s p ix x
    unfolding erfc2_s
    erfc2_far h ea ez eA eq eB = simp (le-ltb ix p.at1·25 h) (rw (eB, eq, eA, ez, ea))

  -- past erfc1 a NaN is kept, by the last quotient
  over_nan : (a : Float) → div f a nan ≡ nan
  unfolding div
  over_nan nan = refl
  over_nan (inf s) = refl
  over_nan (fin s m e) = refl

  pub erfc2_nan : {ix : ℕ} → p.at1·25 ≤ ix → erfc2_s p ix nan ≡ nan
  unfolding erfc2_s fabs_s
  erfc2_nan {ix} h = simp (le-ltb ix p.at1·25 h, over_nan)

  -- ---- erf and erfc
  -- erfc's test at 1/4, where the sign counts
  abbrev BelowQuarter : ℕ → ℕ → Type 0
  BelowQuarter ix sign = (sign ≡ 0 → ⊥) ⊎ ((sign ≡ 0) × (ltb ix p.at1/4 ≡ true))

  below_quarter : (ix sign : ℕ) → BelowQuarter ix sign → (not (eqb sign 0) || ltb ix p.at1/4) ≡ true
  below_quarter ix sign (inl m) = simp (ne_eqb sign 0 m)
  below_quarter ix sign (inr q) = simp (eq-eqb sign 0 q.0, q.1)

  -- y with the sign of x
  abbrev signed : ℕ → Float → Float
  signed sign y = pick (not (eqb sign 0)) (neg y) y

  module _ {x : Float} {ix sign : ℕ} (i : ix ≡ p.ix x) (s : sign ≡ sign_s f x) where
    pub erf_not_finite : p.not_finite ≤ ix
        → add f (sub f p.1·0 (mul f p.2·0 (of_int f (pos sign)))) (div f p.1·0 x) ≡ erf_s p x
    unfolding erf_s
    erf_not_finite n = rw (← i, ← s) (simp (le-leb p.not_finite ix n))

    pub erfc_not_finite : p.not_finite ≤ ix → add f (mul f p.2·0 (of_int f (pos sign))) (div f p.1·0 x) ≡ erfc_s p x
    unfolding erfc_s
    erfc_not_finite n = rw (← i, ← s) (simp (le-leb p.not_finite ix n))

    module _ (n : ix < p.not_finite) where
      -- ---- below 0.84375; y is small_s
      pub erf_tiny : ix < p.at0·84375 → ix < p.at2^-28 → mul f p.0·125 (add f (mul f p.8·0 x) (mul f p.EFX8 x)) ≡ erf_s p x
      unfolding erf_s
      erf_tiny h t = rw (← i, ← s) (simp (lt-leb p.not_finite ix n, lt-ltb ix p.at0·84375 h, lt-ltb ix p.at2^-28 t))

      pub erf_small : {y : Float} → ix < p.at0·84375 → p.at2^-28 ≤ ix → y ≡ small_s p x → add f x (mul f x y) ≡ erf_s p x
      unfolding erf_s
      erf_small h t e = rw (← i, ← s) (simp (lt-leb p.not_finite ix n, lt-ltb ix p.at0·84375 h, le-ltb ix p.at2^-28 t, e))

      pub erfc_tiny : ix < p.at0·84375 → ix < p.at2^-56 → sub f p.1·0 x ≡ erfc_s p x
      unfolding erfc_s
      erfc_tiny h t = rw (← i, ← s) (simp (lt-leb p.not_finite ix n, lt-ltb ix p.at0·84375 h, lt-ltb ix p.at2^-56 t))

      pub erfc_below_quarter : {y : Float} → ix < p.at0·84375 → p.at2^-56 ≤ ix → y ≡ small_s p x → BelowQuarter ix sign
          → sub f p.1·0 (add f x (mul f x y)) ≡ erfc_s p x
      unfolding erfc_s
      erfc_below_quarter h t e q =
          rw (← i, ← s)
          (simp (lt-leb p.not_finite ix n, lt-ltb ix p.at0·84375 h, le-ltb ix p.at2^-56 t, below_quarter ix sign q, e))

      pub erfc_from_quarter : {y : Float} → ix < p.at0·84375 → p.at2^-56 ≤ ix → y ≡ small_s p x → sign ≡ 0 → ltb ix p.at1/4 ≡ false
          → sub f p.0·5 (add f (sub f x p.0·5) (mul f x y)) ≡ erfc_s p x
      unfolding erfc_s
      erfc_from_quarter h t e z q =
          rw (← i, ← s)
          (simp (lt-leb p.not_finite ix n, lt-ltb ix p.at0·84375 h, le-ltb ix p.at2^-56 t, eq-eqb sign 0 z, q, e))

      -- ---- from 0.84375 on; y is erfc2_s
      module _ (h : p.at0·84375 ≤ ix) where
        pub erf_below_6 : {y : Float} → ix < p.at6 → y ≡ erfc2_s p ix x → signed sign (sub f p.1·0 y) ≡ erf_s p x
        unfolding erf_s
        erf_below_6 t e = rw (← i, ← s) (simp (lt-leb p.not_finite ix n, le-ltb ix p.at0·84375 h, lt-ltb ix p.at6 t, e))

        pub erf_from_6 : p.at6 ≤ ix → signed sign (sub f p.1·0 p.tiny) ≡ erf_s p x
        unfolding erf_s
        erf_from_6 t = rw (← i, ← s) (simp (lt-leb p.not_finite ix n, le-ltb ix p.at0·84375 h, le-ltb ix p.at6 t))

        pub erfc_minus : {y : Float} → ix < p.at28 → (sign ≡ 0 → ⊥) → y ≡ erfc2_s p ix x → sub f p.2·0 y ≡ erfc_s p x
        unfolding erfc_s
        erfc_minus t z e =
            rw (← i, ← s) (simp (lt-leb p.not_finite ix n, le-ltb ix p.at0·84375 h, lt-ltb ix p.at28 t, ne_eqb sign 0 z, e))

        pub erfc_plus : ix < p.at28 → sign ≡ 0 → erfc2_s p ix x ≡ erfc_s p x
        unfolding erfc_s
        erfc_plus t z =
            rw (← i, ← s) (simp (lt-leb p.not_finite ix n, le-ltb ix p.at0·84375 h, lt-ltb ix p.at28 t, eq-eqb sign 0 z))

        pub erfc_far_minus : p.at28 ≤ ix → (sign ≡ 0 → ⊥) → sub f p.2·0 p.tiny ≡ erfc_s p x
        unfolding erfc_s
        erfc_far_minus t z =
            rw (← i, ← s) (simp (lt-leb p.not_finite ix n, le-ltb ix p.at0·84375 h, le-ltb ix p.at28 t, ne_eqb sign 0 z))

        pub erfc_far_plus : p.at28 ≤ ix → sign ≡ 0 → mul f p.tiny p.tiny ≡ erfc_s p x
        unfolding erfc_s
        erfc_far_plus t z =
            rw (← i, ← s) (simp (lt-leb p.not_finite ix n, le-ltb ix p.at0·84375 h, le-ltb ix p.at28 t, eq-eqb sign 0 z))
