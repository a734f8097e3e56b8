-- A negative argument of log-gamma over the plan, of which x, from the plan's tiny cut on, is the size: +inf with the sign +1 where x is a whole number
-- (`pole`), and else the sign -1 where the whole part of x is even (`sign_even`) and +1 where it is odd (`sign_odd`). All three ask that the plan is
-- `Regular`. Assumes nothing.
use mathlib.Core.Path.{◌≡◌, refl}
use Prim.Native.Nat.{ℕ, ◌*◌, ◌/◌, ◌%◌, ◌<◌, ◌≤◌}
use native.Mathlib.Nat.{mul-pos, zero-mul}
use native.Mathlib.Omega.{arith}
use mathlib.Core.Bool.{Bool, true, false}
use lib.Dec.{T, ltb, eqb, ltb→lt}
use lib.IntN.{ℤ, pos, negsuc}
use lib.Ieee.{Float, nan, inf, fin, div, neg, eq, lt, le, fits, up, down}
use lib.Ieee.Fits.{up_pos}
use lib.Ieee.Positive.{positive}
use borrow.Author.Tests.{lt-ltb, ne_eqb}
use Rattle.rounding.proofs.Grid.{on_grid}
use Rattle.rounding.proofs.Relative.{zero+}
use Rattle.sinpi.proofs.Wholes.{sub_self}
use Rattle.lgamma.specs.Plan.{Plan, reflected_s}

-- ---- what the laws of the sign ask of a plan
pub record Regular (p : Plan) : Type 0 where
  -- ix tells the finite values
  pub ix_nan : p.not_finite ≤ p.ix nan
  pub ix_inf : (s : Bool) → p.not_finite ≤ p.ix (inf s)
  pub ix_finite : (s : Bool) (m : ℕ) (e : ℤ) → T (fits p.format (fin s m e)) → p.ix (fin s m e) < p.not_finite
  -- and those from 2 ^ -(n + 1) on
  pub n : ℕ
  pub upto_tiny : (m : ℕ) (e : ℤ) → T (fits p.format (fin true m e)) → p.ix (fin true m e) < p.tiny → T (le (fin false m e) (fin false 1 (negsuc n)))
  pub from_tiny : (m : ℕ) (e : ℤ) → T (fits p.format (fin true m e)) → p.tiny ≤ p.ix (fin true m e) → T (le (fin false 1 (negsuc n)) (fin false m e))
  -- from there on sin_pi(x) is +0 where x is a whole number, and else above zero where its whole part is even and below zero where it is odd
  pub sine_whole : (m : ℕ) (e : ℤ) → T (fits p.format (fin false m e)) → T (le (fin false 1 (negsuc n)) (fin false m e)) → m * up e % down e ≡ 0
      → p.sin_pi (fin false m e) ≡ zero+
  pub sine_even : (m : ℕ) (e : ℤ) → T (fits p.format (fin false m e)) → T (le (fin false 1 (negsuc n)) (fin false m e)) → (m * up e % down e ≡ 0 → ⊥)
      → m * up e / down e % 2 ≡ 0 → T (positive (p.sin_pi (fin false m e)))
  pub sine_odd : (m : ℕ) (e : ℤ) → T (fits p.format (fin false m e)) → T (le (fin false 1 (negsuc n)) (fin false m e)) → (m * up e % down e ≡ 0 → ⊥)
      → m * up e / down e % 2 ≡ 1 → T (positive (neg (p.sin_pi (fin false m e))))
  -- two constants
  pub zero_is : p.0·0 ≡ zero+
  pub one_by_zero : div p.format p.1·0 zero+ ≡ inf false

-- ---- what is above zero, and what is below it, by the tests of the Rust
apart : (n : ℕ) (d : ℤ) → T (ltb 0 n) → 0 * down d < n * up d * 1
apart n d p = omega (arith, mul-pos (ltb→lt 0 n p) (up_pos d), zero-mul (down d))

differ : (n : ℕ) (d : ℤ) → T (ltb 0 n) → eqb (n * up d * 1) (0 * down d) ≡ false
differ n d p = ne_eqb (n * up d * 1) (0 * down d) (λ (z : n * up d * 1 ≡ 0 * down d). omega (arith, apart n d p))

above : (t : Float) → T (positive t) → (eq t zero+ ≡ false) × (lt zero+ t ≡ true)
unfolding eq lt
above nan p = absurd p
above (inf s) p = absurd p
above (fin true n d) p = absurd p
above (fin false n d) p = (rw (differ n d p) refl, lt-ltb (0 * down d) (n * up d * 1) (apart n d p))

below : (t : Float) → T (positive (neg t)) → (eq t zero+ ≡ false) × (lt zero+ t ≡ false)
unfolding eq lt neg
below nan p = absurd p
below (inf s) p = absurd p
below (fin false n d) p = absurd p
below (fin true n d) p = (rw (differ n d p) refl, refl)

module _ (p : Plan) (r : Regular p) (ix m : ℕ) (e : ℤ)
    (F : T (fits p.format (fin false m e))) (h : T (le (fin false 1 (negsuc r.n)) (fin false m e))) where
  pub pole : m * up e % down e ≡ 0 → reflected_s p ix (fin false m e) (p.sin_pi (fin false m e)) ≡ record { value = inf false; sign = pos 1 }
  unfolding reflected_s eq
  pole w =
      let G = on_grid p.format false m e F in
      rw (r.zero_is, r.sine_whole m e F h w, sub_self p.format (fin false m e) _ (refl, G.1.0), r.one_by_zero) refl

  pub sign_even : (m * up e % down e ≡ 0 → ⊥) → m * up e / down e % 2 ≡ 0 → (reflected_s p ix (fin false m e) (p.sin_pi (fin false m e))).sign ≡ negsuc 0
  unfolding reflected_s
  sign_even w d =
      let t = above (p.sin_pi (fin false m e)) (r.sine_even m e F h w d) in
      rw (r.zero_is, t.0, t.1) refl

  pub sign_odd : (m * up e % down e ≡ 0 → ⊥) → m * up e / down e % 2 ≡ 1 → (reflected_s p ix (fin false m e) (p.sin_pi (fin false m e))).sign ≡ pos 1
  unfolding reflected_s
  sign_odd w d =
      let t = below (p.sin_pi (fin false m e)) (r.sine_odd m e F h w d) in
      rw (r.zero_is, t.0, t.1) refl
