-- What `signed` answers where the test of `is_far` is not met: `near`. Assumes nothing.
use Prim.Native.Nat.{ℕ, ◌%◌, ◌^◌}
use mathlib.Core.Path.{◌≡◌, refl}
use mathlib.Core.Bool.{Bool, true, false, ◌&&◌, ◌||◌, true≢false}
use lib.Dec.{ltb}
use lib.Ieee.{Float}
use Rattle.words.specs.Pick.{pick}
use Rattle.pow_log.specs.Log2.{near_one_s, log2_s}
use Rattle.pow_exp.specs.Exp2.{product_s}
use Rattle.pow.specs.Pow.{huge_s, signed_s}

abbrev not_close : ℕ → ℕ → Bool
not_close ix iy = ltb 0x43F00000 iy || ltb ix 0x3FEFFFFF || ltb 0x3FF00000 ix

abbrev is_far : ℕ → ℕ → Bool
is_far ix iy = ltb 0x41E00000 iy && not_close ix iy

none : (a b c : Bool) → (a || b || c) ≡ false → (a ≡ false) × (b ≡ false) × (c ≡ false)
none false false c h = (refl, refl, h)
none false true c h = absurd (true≢false h)
none true b c h = absurd (true≢false h)

module _ (s ax y : Float) (ix hy : ℕ) where
  pub near : is_far ix (hy % 2 ^ 31) ≡ false
      → product_s s y (pick (ltb 0x41E00000 (hy % 2 ^ 31)) (near_one_s ax) (log2_s ax ix)) ≡ signed_s s ax y ix hy
  unfolding signed_s huge_s
  near h = go (ltb 0x41E00000 (hy % 2 ^ 31)) h
    where
      go : (b : Bool) → (b && not_close ix (hy % 2 ^ 31)) ≡ false
          → product_s s y (pick b (near_one_s ax) (log2_s ax ix)) ≡ pick b (huge_s s ax y ix hy) (product_s s y (log2_s ax ix))
      go true h = let n = none (ltb 0x43F00000 (hy % 2 ^ 31)) (ltb ix 0x3FEFFFFF) (ltb 0x3FF00000 ix) h in simp (n.0, n.1, n.2)
      go false h = refl
