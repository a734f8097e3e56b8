-- What each return of the functions that `lgamma_r` and `lgammaf_r` have in common gives, over their plan. Assumes nothing.
use Prim.Native.Nat.{ℕ, ◌<◌, ◌≤◌}
use mathlib.Core.Path.{◌≡◌, sym, ap, ◌∙◌, subst}
use mathlib.Core.Bool.{Bool, true, false}
use lib.IntN.{ℤ, pos, negsuc}
use lib.Signed.{le_z}
use lib.Dec.{leb}
use lib.Ieee as Ieee
use lib.Ieee.{Float, nan, neg, of_int}
use mir.Syntax.{w32}
use mir.Val.{to_z, of_z}
use borrow.Author.Tests.{le-leb, lt-leb, lt-ltb, le-ltb, eq-eqb, ne_eqb}
use Rattle.words.specs.Pick.{pick}
use Rattle.words.specs.Operators.{operators}
use Rattle.words.specs.Bits.{sign_s}
use Rattle.whole.specs.Whole.{whole_s}
use Rattle.whole.proofs.WholeLaws.{whole_held}
use Rattle.words.proofs.PatternLaws.{nan_is}
use Rattle.poly.specs.Horner.{horner_s}
use Rattle.lgamma.specs.Plan.{Plan, Answer, Segment}
use Rattle.lgamma.specs.Plan.{segment_s, added_s, below2_s, product_s, below8_s, stirling_s, size_s, reflected_s, lgamma_s}

module _ (p : Plan) where
  infixl 65 ◌⊕◌ ◌⊖◌
  infixl 70 ◌⊗◌ ◌⊘◌
  open operators p.format use {◌⊕◌, ◌⊖◌, ◌⊗◌, ◌⊘◌}

  -- ---- segment_at
  module _ (ix : ℕ) (x : Float) where
    pub zero_to_0·9 : ix ≤ p.to0·9 → p.at0·7316 ≤ ix → record { i = 0; y = p.1·0 ⊖ x } ≡ segment_s p ix x
    unfolding segment_s
    zero_to_0·9 h k = simp (le-leb _ _ h, le-leb _ _ k)

    pub one_to_0·9 : ix ≤ p.to0·9 → ix < p.at0·7316 → p.at0·2316 ≤ ix → record { i = 1; y = x ⊖ (p.TC ⊖ p.1·0) } ≡ segment_s p ix x
    unfolding segment_s
    one_to_0·9 h k l = simp (le-leb _ _ h, lt-leb _ _ k, le-leb _ _ l)

    pub two_to_0·9 : ix ≤ p.to0·9 → ix < p.at0·7316 → ix < p.at0·2316 → record { i = 2; y = x } ≡ segment_s p ix x
    unfolding segment_s
    two_to_0·9 h k l = simp (le-leb _ _ h, lt-leb _ _ k, lt-leb _ _ l)

    pub zero_above_0·9 : p.to0·9 < ix → p.at1·7316 ≤ ix → record { i = 0; y = p.2·0 ⊖ x } ≡ segment_s p ix x
    unfolding segment_s
    zero_above_0·9 h k = simp (lt-leb _ _ h, le-leb _ _ k)

    pub one_above_0·9 : p.to0·9 < ix → ix < p.at1·7316 → p.at1·2316 ≤ ix → record { i = 1; y = x ⊖ p.TC } ≡ segment_s p ix x
    unfolding segment_s
    one_above_0·9 h k l = simp (lt-leb _ _ h, lt-leb _ _ k, le-leb _ _ l)

    pub two_above_0·9 : p.to0·9 < ix → ix < p.at1·7316 → ix < p.at1·2316 → record { i = 2; y = x ⊖ p.1·0 } ≡ segment_s p ix x
    unfolding segment_s
    two_above_0·9 h k l = simp (lt-leb _ _ h, lt-leb _ _ k, lt-leb _ _ l)

  -- ---- below2, where segment_at gives s and added gives a
  module _ (ix : ℕ) (x : Float) {a : Float} {s : Segment} (es : s ≡ segment_s p ix x) (ea : a ≡ added_s p s) where
    pub below2_by : {l : Float} → l ≡ pick (leb ix p.to0·9) (neg (p.log x)) p.0·0 → l ⊕ a ≡ below2_s p ix x
    unfolding below2_s
    below2_by el = rw (el, ea, es)

  -- ---- below8, where whole gives i, and n is i as a float. P and Q are the values of the polynomials S and R
  module _ (x : Float) {n P Q : Float} {i : ℤ} (ei : i ≡ whole_s x) (en : n ≡ of_int p.format (to_z w32 (of_z w32 i)))
      (eP : P ≡ horner_s p.format p.S (x ⊖ n)) (eQ : Q ≡ horner_s p.format p.R (x ⊖ n)) where
    -- i as a local holds it
    held : to_z w32 (of_z w32 i) ≡ whole_s x
    held = whole_held x ei

    pub by_product : {z l : Float} → z ≡ product_s p (x ⊖ n) (to_z w32 (of_z w32 i)) → l ≡ p.log z → le_z (pos 3) (to_z w32 (of_z w32 i)) ≡ true
        → p.0·5 ⊗ (x ⊖ n) ⊕ (x ⊖ n) ⊗ P ⊘ Q ⊕ l ≡ below8_s p x
    unfolding below8_s
    by_product ez el h = rw (el, ez, eP, eQ, en, held) (simp (rw held at h))

    pub by_itself : le_z (pos 3) (to_z w32 (of_z w32 i)) ≡ false → p.0·5 ⊗ (x ⊖ n) ⊕ (x ⊖ n) ⊗ P ⊘ Q ≡ below8_s p x
    unfolding below8_s
    by_itself h = rw (eP, eQ, en, held) (simp (rw held at h))

  -- ---- size, where is_one_or_two gives b
  module _ (ix : ℕ) (x : Float) {b : Bool} (e : b ≡ p.is_one_or_two ix x) where
    pub one_or_two : b ≡ true → p.0·0 ≡ size_s p ix x
    unfolding size_s
    one_or_two t = simp (rw e at t)

    module _ (t : b ≡ false) {r : Float} where
      pub size_below2 : ix < p.at2 → r ≡ below2_s p ix x → r ≡ size_s p ix x
      unfolding size_s
      size_below2 h er = simp (rw e at t, lt-ltb _ _ h) er

      pub size_below8 : p.at2 ≤ ix → ix < p.at8 → r ≡ below8_s p x → r ≡ size_s p ix x
      unfolding size_s
      size_below8 h k er = simp (rw e at t, le-ltb _ _ h, lt-ltb _ _ k) er

      pub size_stirling : p.at2 ≤ ix → p.at8 ≤ ix → ix < p.at2^58 → r ≡ stirling_s p x → r ≡ size_s p ix x
      unfolding size_s
      size_stirling h k l er = simp (rw e at t, le-ltb _ _ h, le-ltb _ _ k, lt-ltb _ _ l) er

      -- where log gives r
      pub size_large : p.at2 ≤ ix → p.at8 ≤ ix → p.at2^58 ≤ ix → r ≡ p.log x → x ⊗ (r ⊖ p.1·0) ≡ size_s p ix x
      unfolding size_s
      size_large h k l er = simp (rw e at t, le-ltb _ _ h, le-ltb _ _ k, le-ltb _ _ l) (rw er)

  -- an answer's value and sign
  abbrev Is : Float → ℤ → Answer → Type 0
  Is v s a = (v ≡ a.value) × (s ≡ a.sign)

  -- ---- reflected, where log gives l and size gives r
  module _ (ix : ℕ) (x t : Float) {v : Float} {s : ℤ} where
    pub sine_zero : Ieee.eq t p.0·0 ≡ true → Is v s (record { value = p.1·0 ⊘ (x ⊖ x); sign = pos 1 }) → Is v s (reflected_s p ix x t)
    unfolding reflected_s
    sine_zero z a = simp z a

    module _ {l r : Float} (er : r ≡ size_s p ix x) (z : Ieee.eq t p.0·0 ≡ false) where
      pub sine_above : l ≡ p.log (p.PI ⊘ (t ⊗ x)) → Ieee.lt p.0·0 t ≡ true
          → Is v s (record { value = l ⊖ r; sign = negsuc 0 }) → Is v s (reflected_s p ix x t)
      unfolding reflected_s
      sine_above el h a = simp (z, h) (rw (el, er) at a)

      pub sine_below : l ≡ p.log (p.PI ⊘ (neg t ⊗ x)) → Ieee.lt p.0·0 t ≡ false
          → Is v s (record { value = l ⊖ r; sign = pos 1 }) → Is v s (reflected_s p ix x t)
      unfolding reflected_s
      sine_below el h a = simp (z, h) (rw (el, er) at a)

  -- ---- lgamma_r
  -- of a NaN it is the NaN, and the sign is plus
  pub not_number : lgamma_s p nan ≡ record { value = nan; sign = pos 1 } → (x : Float) {v : Float} {s : ℤ} → Ieee.ne x x ≡ true
      → Is v s (record { value = x; sign = pos 1 }) → Is v s (lgamma_s p x)
  not_number e x h a =
      let r : record { value = x; sign = pos 1 } ≡ lgamma_s p x =
      subst (λ (y : Float). record { value = y; sign = pos 1 } ≡ lgamma_s p y) (sym (nan_is x h)) (sym e) in
      (a.0 ∙ ap (λ (b : Answer). b.value) r, a.1 ∙ ap (λ (b : Answer). b.sign) r)

  module _ (x : Float) {v : Float} {s : ℤ} {ix sign : ℕ} (ei : ix ≡ p.ix x) (eg : sign ≡ sign_s p.format x) where
    pub not_finite : p.not_finite ≤ ix → Is v s (record { value = x ⊗ x; sign = pos 1 }) → Is v s (lgamma_s p x)
    unfolding lgamma_s
    not_finite n a = simp (le-leb _ _ (rw ei at n)) a

    module _ {l : Float} (n : ix < p.not_finite) where
      pub tiny_plus : ix < p.tiny → sign ≡ 0 → l ≡ p.log x → Is v s (record { value = neg l; sign = pos 1 }) → Is v s (lgamma_s p x)
      unfolding lgamma_s
      tiny_plus t g el a = simp (lt-leb _ _ (rw ei at n), lt-ltb _ _ (rw ei at t), eq-eqb _ _ (rw eg at g)) (rw el at a)

      pub tiny_minus : ix < p.tiny → (sign ≡ 0 → ⊥) → l ≡ p.log (neg x) → Is v s (record { value = neg l; sign = negsuc 0 }) → Is v s (lgamma_s p x)
      unfolding lgamma_s
      tiny_minus t g el a = simp (lt-leb _ _ (rw ei at n), lt-ltb _ _ (rw ei at t), ne_eqb _ _ (rw eg at g)) (rw el at a)

      pub plus : p.tiny ≤ ix → sign ≡ 0 → l ≡ size_s p ix x → Is v s (record { value = l; sign = pos 1 }) → Is v s (lgamma_s p x)
      unfolding lgamma_s
      plus t g el a = simp (lt-leb _ _ (rw ei at n), le-ltb _ _ (rw ei at t), eq-eqb _ _ (rw eg at g)) (rw (el, ei) at a)

      pub minus : p.tiny ≤ ix → (sign ≡ 0 → ⊥) → l ≡ p.sin_pi (neg x) → Is v s (reflected_s p ix (neg x) l) → Is v s (lgamma_s p x)
      unfolding lgamma_s
      minus t g el a = simp (lt-leb _ _ (rw ei at n), le-ltb _ _ (rw ei at t), ne_eqb _ _ (rw eg at g)) (rw (el, ei) at a)
