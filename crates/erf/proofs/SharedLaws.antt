-- How y is made, case by case, over the plan; and that what reaches farther serves for less. Assumes nothing.
use mathlib.Core.Path.{◌≡◌}
use Prim.Native.Nat.{ℕ, ◌≤◌, ◌<◌}
use native.Mathlib.Nat.{le_trans, lt_of_lt_of_le}
use native.Mathlib.Omega.{arith}
use lib.Ieee.{Float}
use Rattle.erf.specs.Plan.{Plan, erfc2_s, small_s}
use Rattle.erf.specs.Shared.{Made}

module _ (p : Plan) {from upto ix : ℕ} {x y : Float} where
  -- below 0.84375: below the first cut any y serves
  module _ (h : ix < p.at0·84375) where
    pub none_below : ix < from → Made p from upto ix x y
    none_below l = record { small = λ f _. absurd (omega arith); tail = λ f _. absurd (omega arith) }

    pub by_small : y ≡ small_s p x → Made p from upto ix x y
    by_small e = record { small = λ _ _. e; tail = λ f _. absurd (omega arith) }

  -- from 0.84375 on: from the last cut on any y serves
  module _ (h : p.at0·84375 ≤ ix) where
    pub by_tail : y ≡ erfc2_s p ix x → Made p from upto ix x y
    by_tail e = record { small = λ _ l. absurd (omega arith); tail = λ _ _. e }

    pub none_above : upto ≤ ix → Made p from upto ix x y
    none_above l = record { small = λ _ k. absurd (omega arith); tail = λ _ k. absurd (omega arith) }

  -- from a later cut on and below an earlier one
  pub within : {later earlier : ℕ} → from ≤ later → earlier ≤ upto → Made p from upto ix x y → Made p later earlier ix x y
  within f u m = record { small = λ l h. m.small (le_trans f l) h; tail = λ h l. m.tail h (lt_of_lt_of_le l u) }
