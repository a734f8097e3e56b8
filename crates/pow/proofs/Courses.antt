-- The course that pow takes at an x above 1 and a y of a size up to 2 ^ 31, both finite: `course`. Its answer is 1 at a y that is a zero, x or 1 / x at
-- 1 and -1, x * x at 2, the root at 0.5, and else the power by the logarithm; so for a y with digits in its low word always by that (`usual`).
-- Assumes nothing.
use Prim.Native.Nat.{ℕ, ◌%◌, ◌^◌, ◌<◌, ◌≤◌}
use mathlib.Core.Path.{◌≡◌, refl, sym, ap, ◌∙◌}
use mathlib.Core.Bool.{Bool, true, false, not, ◌&&◌, and-false, true≢false}
use native.Mathlib.Omega.{arith}
use lib.Dec.{leb, ltb, eqb}
use lib.Ieee.{Float, binary64, fits}
use borrow.Author.Tests.{ltb-true, leb-true, eqb-false, not-true, lt-leb, le-ltb, ne_eqb}
use Rattle.words.specs.Pick.{pick}
use Rattle.words.specs.F64.{◌⊗◌, ◌⊘◌, 1·0}
use Rattle.words.specs.Bits.{high_word_s, low_word_s}
use Rattle.words.specs.Fabs.{fabs_s}
use Rattle.words.proofs.PatternLaws.{fabs_plus}
use Rattle.sqrt.specs.Sqrt.{sqrt_s}
use Rattle.pow_log.specs.Log2.{log2_s}
use Rattle.pow_exp.specs.Exp2.{product_s}
use Rattle.pow.specs.Pow.{yisint_s, signed_s, plain_s, finite_s, special_y_s, pow_at_s, pow_s}

-- what pow may answer, for x with the high word hx and y
pub data Course (x y : Float) (hx : ℕ) : Float → Type 0 where
  at_zero : Course x y hx 1·0
  at_one : Course x y hx x
  at_minus_one : Course x y hx (1·0 ⊘ x)
  at_two : Course x y hx (x ⊗ x)
  at_half : Course x y hx (sqrt_s x)
  power : Course x y hx (product_s 1·0 y (log2_s (fabs_s x) hx))

pick_course : {x y : Float} {hx : ℕ} (b : Bool) (u v : Float) → Course x y hx u → Course x y hx v → Course x y hx (pick b u v)
pick_course true u v p q = p
pick_course false u v p q = q

module _ (x y : Float) (hx lx hy ly : ℕ) (above : 0x3FF00000 < hx) (below : hx < 0x7FF00000) (small : hy % 2 ^ 31 ≤ 0x41E00000) where
  same : hx % 0x80000000 ≡ hx
  same = omega arith

  plain : (n : ℕ) → Course x y hx (plain_s x y hx hy n)
  unfolding plain_s signed_s
  plain n = simp (lt-leb 0x80000000 hx (omega arith), le-ltb 0x41E00000 (hy % 0x80000000) small, same) power

  finite : Course x y hx (finite_s x y hx lx hy ly)
  unfolding finite_s
  finite =
      simp (same, ne_eqb hx 0x7FF00000 (λ e. omega arith), ne_eqb hx 0 (λ e. omega arith), ne_eqb hx 0x3FF00000 (λ e. omega arith), and-false)
      (plain (yisint_s hx (hy % 0x80000000) ly))

  special : Course x y hx (special_y_s x y hx lx hy ly)
  unfolding special_y_s
  special =
      simp (ne_eqb (hy % 0x80000000) 0x7FF00000 (λ e. omega arith), and-false)
      (pick_course (eqb ly 0 && eqb (hy % 0x80000000) 0x3FF00000) (pick (not (leb 0x80000000 hy)) x (1·0 ⊘ x)) _
      (pick_course (not (leb 0x80000000 hy)) x (1·0 ⊘ x) at_one at_minus_one)
      (pick_course (eqb ly 0 && eqb hy 0x40000000) (x ⊗ x) _ at_two
      (pick_course (eqb ly 0 && eqb hy 0x3FE00000 && not (leb 0x80000000 hx)) (sqrt_s x) _ at_half finite)))

  at_words : Course x y hx (pow_at_s x y hx lx hy ly)
  unfolding pow_at_s
  at_words =
      simp (
        same,
        ne_eqb hx 0x3FF00000 (λ e. omega arith),
        le-ltb 0x7FF00000 hx (omega arith),
        ne_eqb hx 0x7FF00000 (λ e. omega arith),
        le-ltb 0x7FF00000 (hy % 0x80000000) (omega arith),
        ne_eqb (hy % 0x80000000) 0x7FF00000 (λ e. omega arith),
      )
      (pick_course (eqb (hy % 0x80000000) 0 && eqb ly 0) 1·0 _ at_zero special)

  -- with digits in y's low word
  digits : (ly ≡ 0 → ⊥) → signed_s 1·0 (fabs_s x) y hx hy ≡ pow_at_s x y hx lx hy ly
  unfolding pow_at_s special_y_s finite_s plain_s
  digits l =
      simp (
        same,
        ne_eqb ly 0 l,
        ne_eqb hx 0 (λ e. omega arith),
        ne_eqb hx 0x3FF00000 (λ e. omega arith),
        ne_eqb hx 0x7FF00000 (λ e. omega arith),
        le-ltb 0x7FF00000 hx (omega arith),
        le-ltb 0x7FF00000 (hy % 0x80000000) (omega arith),
        ne_eqb (hy % 0x80000000) 0x7FF00000 (λ e. omega arith),
        lt-leb 0x80000000 hx (omega arith),
        and-false,
      )

pub usual : (x y : Float) (hx hy ly : ℕ) → fits binary64 x ≡ true → hx ≡ high_word_s x → hy ≡ high_word_s y → ly ≡ low_word_s y
    → (ltb 0x3FF00000 hx && ltb hx 0x7FF00000 && not (eqb ly 0) && leb (hy % 2 ^ 31) 0x41E00000) ≡ true → signed_s 1·0 x y hx hy ≡ pow_s x y
unfolding pow_s
usual x y hx hy ly q ex ey el h =
    let a = all (ltb 0x3FF00000 hx) (ltb hx 0x7FF00000) (not (eqb ly 0)) (leb (hy % 2 ^ 31) 0x41E00000) h in
    let l = ltb-true hx 0x7FF00000 a.1 in
    ap (λ (z : Float). signed_s 1·0 z y hx hy) (sym (fabs_plus binary64 x q (omega (arith, ex, l))))
    ∙ digits x y hx (low_word_s x) hy ly (ltb-true 0x3FF00000 hx a.0) l (leb-true _ _ a.3) (eqb-false _ _ (not-true _ a.2))
    ∙ rw (ex, ey, el) refl
  where
    all : (a b c d : Bool) → (a && b && c && d) ≡ true → (a ≡ true) × (b ≡ true) × (c ≡ true) × (d ≡ true)
    all true true true true h = (refl, refl, refl, refl)
    all true true true false h = absurd (true≢false (sym h))
    all true true false d h = absurd (true≢false (sym h))
    all true false c d h = absurd (true≢false (sym h))
    all false b c d h = absurd (true≢false (sym h))

pub course : (x y : Float) → 0x3FF00000 < high_word_s x → high_word_s x < 0x7FF00000 → high_word_s y % 2 ^ 31 ≤ 0x41E00000
    → Course x y (high_word_s x) (pow_s x y)
unfolding pow_s
course x y = at_words x y (high_word_s x) (low_word_s x) (high_word_s y) (low_word_s y)
