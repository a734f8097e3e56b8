-- Steps along the line, by ranks: the next number has the next rank, and n steps lead n ranks up. Assumes nothing.
use mathlib.Core.Path.{◌≡◌, refl, sym, ap, ◌∙◌, subst}
use mathlib.Core.Bool.{Bool, true, false, true≢false}
use Prim.Native.Nat.{ℕ, zero, suc, ◌+◌, ◌-◌, ◌%◌, ◌≤◌, ◌<◌}
use native.Mathlib.Nat.{le_refl, mod-eq_of_lt, add-mod_left, lt_of_le_of_lt}
use native.Mathlib.Omega.{arith}
use borrow.Author.Tests.{ltb-true, ltb-false, lt-ltb, le-ltb, le-leb, lt-leb}
use lib.Dec.{T, leb, ltb}
use lib.Ieee.{Float, nan, inf, fin, Format, binary32, binary64, top, neg, lt, le, fits, of_bits, to_bits, is_nan}
use lib.Ieee.Bits.{is_true, nan_bits_above, nan_bits_is, of_bits-fits, of_bits-to_bits}
use Rattle.rounding.proofs.BitOrder.{endless, bits_neg}
use Rattle.words.specs.Pick.{pick}
use Rattle.distance.specs.Line.{Number, Next, Steps, PastLargest}
use Rattle.distance.proofs.PlaceLaws.{of_infinity, number_size, middle, rank, rank_le, lt_rank, rank_eq, eq_rank}

module _ (f : Format) where
  -- ---- a number at each rank
  ends : endless f < top f
  ends = go f
    where
      go : (f : Format) → endless f < top f
      go binary32 = omega arith
      go binary64 = omega arith

  -- a number's rank is between the infinities'
  within : (b : ℕ) → Number f b → (middle ≤ rank f b + endless f) × (rank f b ≤ middle + endless f)
  within b B = go (leb (top f) b)
    where
      go : (s : Bool) → (middle ≤ pick s (middle - b % top f) (middle + b % top f) + endless f)
          × (pick s (middle - b % top f) (middle + b % top f) ≤ middle + endless f)
      go true = (omega (arith, number_size f b B), omega arith)
      go false = (omega arith, omega (arith, number_size f b B))

  by_size : (b n : ℕ) → b % top f ≡ n → n ≤ endless f → Number f b
  by_size b n e h = nan_bits_above f b ∙ le-ltb (endless f) (b % top f) (subst (λ (z : ℕ). z ≤ endless f) (sym e) h)

  -- a pattern that is a number's and has a rank
  abbrev Ranked : ℕ → ℕ → Type 0
  Ranked r b = Number f b × (rank f b ≡ r)

  upper : (n : ℕ) → n ≤ endless f → Ranked (middle + n) n
  upper n h =
      let l : n < top f = lt_of_le_of_lt h ends in
      let e : n % top f ≡ n = mod-eq_of_lt l in
      (by_size n n e h, rw (lt-leb (top f) n l, e))

  lower : (n : ℕ) → n ≤ endless f → Ranked (middle - n) (top f + n)
  lower n h =
      let e : (top f + n) % top f ≡ n = add-mod_left (top f) n ∙ mod-eq_of_lt (lt_of_le_of_lt h ends) in
      (by_size (top f + n) n e h, rw (le-leb (top f) (top f + n) (omega arith), e))

  at_rank : (r : ℕ) → middle ≤ r + endless f → r ≤ middle + endless f → (b : ℕ) × Ranked r b
  at_rank r l h = go (ltb r middle) refl
    where
      go : (t : Bool) → ltb r middle ≡ t → (b : ℕ) × Ranked r b
      go true e =
          let k = ltb-true r middle e in
          let n = middle - r in
          (top f + n, subst (λ (z : ℕ). Ranked z (top f + n)) (omega arith) (lower n (omega arith)))
      go false e =
          let k = ltb-false r middle e in
          let n = r - middle in
          (n, subst (λ (z : ℕ). Ranked z n) (omega arith) (upper n (omega arith)))

  -- ---- a pattern of each number
  above_number : (x z : Float) → lt x z ≡ true → is_nan z ≡ false
  unfolding lt is_nan
  above_number nan nan h = absurd (true≢false (sym h))
  above_number (inf s) nan h = absurd (true≢false (sym h))
  above_number (fin s m e) nan h = absurd (true≢false (sym h))
  above_number x (inf s) h = refl
  above_number x (fin s m e) h = refl

  below_number : (z y : Float) → lt z y ≡ true → is_nan z ≡ false
  unfolding lt is_nan
  below_number nan y h = absurd (true≢false (sym h))
  below_number (inf s) y h = refl
  below_number (fin s m e) y h = refl

  pattern_of : (z : Float) → fits f z ≡ true → is_nan z ≡ false → (b : ℕ) × Number f b × (of_bits f b ≡ z)
  pattern_of z F h =
      let e : of_bits f (to_bits f z) ≡ z = of_bits-to_bits f z (subst T (sym F) tt) in
      (to_bits f z, nan_bits_is f (to_bits f z) ∙ ap is_nan e ∙ h, e)

  -- ---- the next number
  pub next_rank : (a b : ℕ) → Number f a → Number f b → Next f (of_bits f a) (of_bits f b) → rank f b ≡ rank f a + 1
  next_rank a b A B h = go (ltb (rank f a + 1) (rank f b)) refl
    where
      less : rank f a < rank f b
      less = ltb-true (rank f a) (rank f b) (sym (lt_rank f a b A B) ∙ h.above)

      go : (t : Bool) → ltb (rank f a + 1) (rank f b) ≡ t → rank f b ≡ rank f a + 1
      go false e = let k = ltb-false (rank f a + 1) (rank f b) e in let l = less in omega arith
      go true e =
          let k = ltb-true (rank f a + 1) (rank f b) e in
          let z = at_rank (rank f a + 1) (omega (arith, (within a A).0)) (omega (arith, (within b B).1)) in
          let c = z.0 in
          let C = z.1.0 in
          absurd (h.between (of_bits f c) (is_true (fits f (of_bits f c)) (of_bits-fits f c))
          (lt_rank f a c A C ∙ lt-ltb (rank f a) (rank f c) (omega (arith, z.1.1)))
          (lt_rank f c b C B ∙ lt-ltb (rank f c) (rank f b) (omega (arith, z.1.1))))

  pub rank_next : (a b : ℕ) → Number f a → Number f b → rank f b ≡ rank f a + 1 → Next f (of_bits f a) (of_bits f b)
  rank_next a b A B h = record {
    held = is_true (fits f (of_bits f b)) (of_bits-fits f b);
    above = lt_rank f a b A B ∙ lt-ltb (rank f a) (rank f b) (omega arith);
    between = λ z F l k.
        let p = pattern_of z F (above_number (of_bits f a) z l) in
        let c = p.0 in
        let C = p.1 in
        let e = p.2 in
        let l' = ltb-true (rank f a) (rank f c) (sym (lt_rank f a c A C) ∙ ap (lt (of_bits f a)) e ∙ l) in
        let k' = ltb-true (rank f c) (rank f b) (sym (lt_rank f c b C B) ∙ ap (λ (y : Float). lt y (of_bits f b)) e ∙ k) in
        omega arith;
  }

  -- ---- the infinities
  of_plus : of_bits f (endless f) ≡ inf false
  of_plus = of_infinity f (endless f) (mod-eq_of_lt ends) ∙ ap inf (lt-leb (top f) (endless f) ends)

  of_minus : of_bits f (top f + endless f) ≡ inf true
  of_minus =
      of_infinity f (top f + endless f) (add-mod_left (top f) (endless f) ∙ mod-eq_of_lt ends)
      ∙ ap inf (le-leb (top f) (top f + endless f) (omega arith))

  bounds : (0 < endless f) × (endless f ≤ middle)
  bounds = go f
    where
      go : (f : Format) → (0 < endless f) × (endless f ≤ middle)
      go binary32 = (omega arith, omega arith)
      go binary64 = (omega arith, omega arith)

  pub largest_next : PastLargest f
  largest_next =
      let n = endless f - 1 in
      let x = upper n (omega arith) in
      let y = upper (endless f) (le_refl (endless f)) in
      let v = lower n (omega arith) in
      let u = lower (endless f) (le_refl (endless f)) in (
        record {
          held = is_true (fits f (of_bits f n)) (of_bits-fits f n);
          finite = subst (λ (z : Float). lt (of_bits f n) z ≡ true) of_plus
              (lt_rank f n (endless f) x.0 y.0 ∙ lt-ltb (rank f n) (rank f (endless f)) (omega (arith, bounds.0, x.1, y.1)));
          others = λ z F h.
              let p = pattern_of z F (below_number z (inf false) h) in
              let e : lt (of_bits f p.0) (of_bits f (endless f)) ≡ true = rw (p.2, of_plus) h in
              let l = ltb-true (rank f p.0) (rank f (endless f)) (sym (lt_rank f p.0 (endless f) p.1 y.0) ∙ e) in
              is_true (le z (of_bits f n))
              (subst (λ (w : Float). T (le w (of_bits f n))) p.2 (rank_le f p.0 n p.1 x.0 (omega (arith, x.1, y.1))));
        },
        subst (λ (z : Float). Next f (of_bits f n) z) of_plus (rank_next n (endless f) x.0 y.0 (omega (arith, bounds.0, x.1, y.1))),
        subst (λ (z : Float). Next f z (neg (of_bits f n))) of_minus
            (subst (λ (z : Float). Next f (of_bits f (top f + endless f)) z) (bits_neg f n (omega (arith, ends)))
            (rank_next (top f + endless f) (top f + n) u.0 v.0 (omega (arith, bounds.0, bounds.1, u.1, v.1)))),
      )

  -- ---- steps
  pub steps_rank : (n a b : ℕ) → Number f a → Number f b → Steps f n (of_bits f a) (of_bits f b) → rank f b ≡ rank f a + n
  steps_rank zero a b A B h = let e = eq_rank f a b A B h in omega arith
  steps_rank (suc n) a b A B h =
      let z = h.0 in
      let next = h.1 in
      let p = pattern_of z next.held (above_number (of_bits f a) z next.above) in
      let c = p.0 in
      let e = p.2 in
      let one = next_rank a c A p.1 (subst (λ (y : Float). Next f (of_bits f a) y) (sym e) next) in
      let more = steps_rank n c b p.1 B (subst (λ (y : Float). Steps f n y (of_bits f b)) (sym e) h.2) in
      omega arith

  pub rank_steps : (n a b : ℕ) → Number f a → Number f b → rank f b ≡ rank f a + n → Steps f n (of_bits f a) (of_bits f b)
  rank_steps zero a b A B h = rank_eq f a b A B (omega arith)
  rank_steps (suc n) a b A B h =
      let z = at_rank (rank f a + 1) (omega (arith, (within a A).0)) (omega (arith, (within b B).1)) in
      let c = z.0 in
      let C = z.1.0 in
      (of_bits f c, rank_next a c A C z.1.1, rank_steps n c b C B (omega (arith, z.1.1)))
