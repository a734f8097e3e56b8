-- The definition in each region that the code tells apart by the pattern ui and its upper word hx, over the plan. Assumes nothing.
use Prim.Native.Nat.{ℕ, ◌/◌, ◌%◌, ◌^◌, ◌<◌, ◌≤◌}
use native.Mathlib.Omega.{arith}
use mathlib.Core.Path.{◌≡◌, refl, sym, ap, ◌∙◌}
use mathlib.Core.Bool.{Bool, true, false, ◌&&◌, ◌||◌}
use lib.Dec.{ltb, leb, eqb}
use lib.IntN.{pos, neg_ℤ}
use lib.Ieee.{Float, binary32, binary64, top, sub, mul, div, to_bits}
use borrow.Author.Tests.{lt-ltb, le-ltb, le-leb, lt-leb, eq-eqb, ne_eqb, ltb-false}
use Rattle.logarithm.specs.Plan.{Plan, reduced_s, log_s}
use Rattle.logarithm.specs.Log.{log64}
use Rattle.logarithm.specs.Logf.{log32}

-- ui is the pattern of x, hx what is above its lower bits, lx those
pub record Pattern (p : Plan) (x : Float) (ui hx lx : ℕ) : Type 0 where
  pub all : ui ≡ to_bits p.format x
  pub upper : hx ≡ ui / 2 ^ p.below
  pub lower : lx ≡ ui % 2 ^ p.below

pub pattern64 : (x : Float) (ui : ℕ) → ui ≡ to_bits binary64 x → Pattern log64 x ui (ui / 2 ^ 32) (ui % 2 ^ 32)
pattern64 x ui e = record { all = e; upper = refl; lower = refl }

-- in f32 hx is all of it
pub pattern32 : (x : Float) (ui : ℕ) → ui ≡ to_bits binary32 x → Pattern log32 x ui ui 0
pattern32 x ui e = record { all = e; upper = omega arith; lower = omega arith }

module _ (p : Plan) (x : Float) (ui hx lx : ℕ) (i : Pattern p x ui hx lx) where
  -- below the normal numbers, or with the sign bit
  apart : (p.normal ≤ hx → 2 ^ 31 ≤ hx) → (ltb hx p.normal || leb (2 ^ 31) hx) ≡ true
  apart h = go (ltb hx p.normal) refl
    where
      go : (t : Bool) → ltb hx p.normal ≡ t → (t || leb (2 ^ 31) hx) ≡ true
      go true e = refl
      go false e = le-leb _ _ (h (ltb-false _ _ e))

  pub at_zero : (p.normal ≤ hx → 2 ^ 31 ≤ hx) → ui % top p.format ≡ 0 → div p.format p.-1·0 (mul p.format x x) ≡ log_s p x
  unfolding log_s
  at_zero h z = rw (sym i.all, sym i.upper) (simp (apart h, eq-eqb _ _ z))

  pub negative : (ui % top p.format ≡ 0 → ⊥) → 2 ^ 31 ≤ hx → div p.format (sub p.format x x) p.0·0 ≡ log_s p x
  unfolding log_s
  negative z h = rw (sym i.all, sym i.upper) (simp (apart (λ _. h)) (simp (le-leb _ _ h, ne_eqb _ _ z)))

  pub subnormal :
      (scaled : ℕ) (r : Float) → (ui % top p.format ≡ 0 → ⊥) → hx < p.normal → hx < 2 ^ 31
      → scaled ≡ to_bits p.format (mul p.format x p.x1p_up)
      → r ≡ reduced_s p scaled (neg_ℤ (pos p.up))
      → r ≡ log_s p x
  unfolding log_s
  subnormal scaled r z h s e q =
      q
      ∙ ap (λ (n : ℕ). reduced_s p n (neg_ℤ (pos p.up))) e
      ∙ rw (sym i.all, sym i.upper) (simp (lt-ltb _ _ h, lt-leb _ _ s, ne_eqb _ _ z))

  module _ (h : p.normal ≤ hx) (s : hx < 2 ^ 31) where
    -- infinity and NaN
    pub not_finite : p.not_finite ≤ hx → x ≡ log_s p x
    unfolding log_s
    not_finite n = rw (sym i.all, sym i.upper) (simp (le-ltb _ _ h, lt-leb _ _ s, le-leb _ _ n))

    pub at_one : hx < p.not_finite → hx ≡ p.at1 → lx ≡ 0 → p.0·0 ≡ log_s p x
    unfolding log_s
    at_one n o z =
        rw (sym i.all, sym i.upper, sym i.lower)
        (simp (le-ltb _ _ h, lt-leb _ _ s, lt-leb _ _ n, eq-eqb _ _ o, eq-eqb _ _ z))

    pub normal : (r : Float) → hx < p.not_finite → (eqb hx p.at1 && eqb lx 0) ≡ false → r ≡ reduced_s p ui (pos 0) → r ≡ log_s p x
    unfolding log_s
    normal r n o q =
        q ∙ rw (sym i.all, sym i.upper, sym i.lower) (simp (le-ltb _ _ h, lt-leb _ _ s, lt-leb _ _ n, o))
