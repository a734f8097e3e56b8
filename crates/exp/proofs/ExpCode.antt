-- What each return of the functions that `exp` and `expf` have in common gives, over their plan. Assumes nothing.
use Rattle.std.proofs.Common.{◌≡◌, refl, ℕ, ◌<◌, ◌≤◌, ℤ, pos, negsuc, nat_abs, ap, ◌∙◌, w32, SFits, of_z, le-ltb, lt-ltb, eq-eqb, ne_eqb, le-leb}
use lib.Ieee.{Float, of_int, add, sub, mul, div}
use mir.ValLaws.{to_z-of_z}
use borrow.Author.Tests.{lt-leb}
use Rattle.whole.specs.Whole.{whole_s}
use Rattle.poly.specs.Horner.{horner_s}
use Rattle.scalbn.specs.Scalbn.{scalbn_s}
use Rattle.scalbn.proofs.Exponents.{local}
use Rattle.exp.specs.Plan.{Plan, primary_s, multiple_s, reduced_s, plain_s}
use Rattle.exp.proofs.Zero.{zero_of_bits, nonzero_of_bits}

module _ (p : Plan) where
  -- y of primary_s, where R is the polynomial's value
  abbrev pub y_of : Float → Float → Float → Float → Float
  y_of R x hi lo =
      let c = sub p.format x (mul p.format (mul p.format x x) R) in
      let q = div p.format (mul p.format x c) (sub p.format p.2·0 c) in
      add p.format p.1·0 (add p.format (sub p.format q lo) hi)

  -- y as the code works it out
  module _ (x hi lo : Float) where
    abbrev pub in_range : Float
    in_range = y_of (horner_s p.format p.P (mul p.format x x)) x hi lo

    pub sum_is :
        (xx : Float) → xx ≡ mul p.format x x → (R : Float) → R ≡ horner_s p.format p.P xx → (m : Float) → m ≡ mul p.format xx R
        → (q : Float) → q ≡ sub p.format x m → (n : Float) → n ≡ mul p.format x q → (two : Float) → two ≡ p.2·0
        → (d : Float) → d ≡ sub p.format two q → (v : Float) → v ≡ div p.format n d → (s : Float) → s ≡ sub p.format v lo
        → (a : Float) → a ≡ add p.format s hi → (one : Float) → one ≡ p.1·0 → (y : Float) → y ≡ add p.format one a → y ≡ in_range
    sum_is xx e R e₁ m e₂ q e₃ n e₄ two e₅ d e₆ v e₇ s e₈ a e₉ one f y f₁ =
        rw (f₁, f, e₉, e₈, e₇, e₆, e₅, e₄, e₃, e₂, e₁, e) refl

    module _ (k : ℤ) (F : SFits w32 k) (y : Float) (i : y ≡ in_range) where
      pub not_scaled : of_z w32 k ≡ 0 → y ≡ primary_s p x hi lo k
      unfolding primary_s
      not_scaled z = simp (eq-eqb (nat_abs k) 0 (zero_of_bits k F z), i)

      pub scaled : (of_z w32 k ≡ 0 → ⊥) → scalbn_s p.format y (local k) ≡ primary_s p x hi lo k
      unfolding primary_s
      scaled z = simp (ne_eqb (nat_abs k) 0 (nonzero_of_bits k z), to_z-of_z w32 k F, i)

  -- the whole part of t is k, from 1.5 ln2 on
  module _ (x : Float) (hx sign : ℕ) where
    module _ (m : Float) (is_m : m ≡ mul p.format p.INVLN2 x) where
      pub nearest_plus : (half : Float) → half ≡ p.0·5 → (t : Float) → t ≡ add p.format m half → p.from1·5ln2 ≤ hx → sign ≡ 0
          → whole_s t ≡ multiple_s p x hx sign
      unfolding multiple_s
      nearest_plus half e t d h s = simp (le-leb p.from1·5ln2 hx h, eq-eqb sign 0 s, d, e, is_m)

      pub nearest_minus : (t : Float) → t ≡ add p.format m p.-0·5 → p.from1·5ln2 ≤ hx → (sign ≡ 0 → ⊥) → whole_s t ≡ multiple_s p x hx sign
      unfolding multiple_s
      nearest_minus t d h s = simp (le-leb p.from1·5ln2 hx h, ne_eqb sign 0 s, d, is_m)

    pub once_plus : hx < p.from1·5ln2 → sign ≡ 0 → pos 1 ≡ multiple_s p x hx sign
    unfolding multiple_s
    once_plus h s = simp (lt-leb p.from1·5ln2 hx h, eq-eqb sign 0 s)

    pub once_minus : hx < p.from1·5ln2 → (sign ≡ 0 → ⊥) → negsuc 0 ≡ multiple_s p x hx sign
    unfolding multiple_s
    once_minus h s = simp (lt-leb p.from1·5ln2 hx h, ne_eqb sign 0 s)

    pub by_multiple : (k : ℤ) → SFits w32 k → k ≡ multiple_s p x hx sign → p.to0·5ln2 < hx → reduced_s p x (local k) ≡ plain_s p x hx sign
    unfolding plain_s
    by_multiple k F e h = simp (lt-ltb p.to0·5ln2 hx h) (ap (reduced_s p x) (to_z-of_z w32 k F ∙ e))

    pub by_itself : (zero : Float) → zero ≡ p.0·0 → hx ≤ p.to0·5ln2 → p.to_tiny < hx → primary_s p x x zero (pos 0) ≡ plain_s p x hx sign
    unfolding plain_s
    by_itself zero e h l = simp (le-ltb p.to0·5ln2 hx h, lt-ltb p.to_tiny hx l, e)

    pub tiny : (one : Float) → one ≡ p.1·0 → (y : Float) → y ≡ add p.format one x → hx ≤ p.to0·5ln2 → hx ≤ p.to_tiny → y ≡ plain_s p x hx sign
    unfolding plain_s
    tiny one e y d h l = simp (le-ltb p.to0·5ln2 hx h, le-ltb p.to_tiny hx l, d, e)

  pub reduced_by :
      (x : Float) (k : ℤ) (F : SFits w32 k) (kf : Float) → kf ≡ of_int p.format (local k) → (m : Float) → m ≡ mul p.format kf p.LN2HI
      → (hi : Float) → hi ≡ sub p.format x m → (lo : Float) → lo ≡ mul p.format kf p.LN2LO
      → (d : Float) → d ≡ sub p.format hi lo → primary_s p d hi lo (local k) ≡ reduced_s p x k
  unfolding reduced_s
  reduced_by x k F kf e m e₁ hi e₂ lo e₃ d e₄ = rw (e₄, e₃, e₂, e₁, e, to_z-of_z w32 k F) refl
