-- The lines of the Lanczos formula, for callers that bound them: `lanczos_plus` and `lanczos_minus`, the formula by the sign of x; `last_is`, its last
-- lines; `dy_either`, dy as one of two differences; and S(x) as an expression in x that intervals bound, below 8 (`s_low`) and from there on (`s_high`).
-- Assumes nothing.
use mathlib.Core.Path.{◌≡◌, refl, ap}
use mathlib.Core.List.{List, [], ◌∷◌}
use Prim.Native.Nat.{ℕ, ◌+◌, ◌*◌, ◌<◌}
use native.Mathlib.Nat.{mul-pos}
use native.Mathlib.Omega.{arith}
use mathlib.Core.Bool.{Bool, true, false}
use lib.IntN.{ℤ}
use lib.Ieee.{Float, fin, binary64, up, down, neg, lt, of_bits}
use lib.Ieee.Fits.{up_pos}
use borrow.Author.Tests.{lt-ltb}
use Rattle.rounding.proofs.Range.{Expr, var, con, plus, times, over, eval}
use Rattle.words.specs.Pick.{pick}
use Rattle.words.specs.F64.{bits, ◌⊕◌, ◌⊖◌, ◌⊗◌, ◌⊘◌, 0·5, 8·0}
use Rattle.exp.specs.Exp.{exp_s}
use Rattle.pow.specs.Pow.{pow_s}
use Rattle.sinpi.specs.Sinpi.{sinpi_s}
use Rattle.tgamma.specs.Lanczos.{SNUM, SDEN, down_s, up_s, s_s}
use Rattle.tgamma.specs.Tgamma.{GMHALF, MINUS_PI, dy_s, last_s, lanczos_s}

-- ---- the formula, by the sign of x

-- y, z and r of a size x
abbrev pub y_of : Float → Float
y_of x = x ⊕ GMHALF

abbrev pub z_of : Float → Float
z_of x = x ⊖ 0·5

abbrev pub r_of : Float → Float
r_of x = s_s x ⊗ exp_s (neg (y_of x))

pub lanczos_plus : (x : Float) → lt x (bits 0) ≡ false → lanczos_s x 0 ≡ last_s (y_of x) (dy_s x (y_of x)) (z_of x) (r_of x)
unfolding lanczos_s
lanczos_plus x h = rw h refl

-- the quotient of the reflection, -PI / (v x r)
abbrev pub quotient : Float → Float → Float → Float
quotient v x r = MINUS_PI ⊘ (v ⊗ x ⊗ r)

below_zero : (m : ℕ) (e : ℤ) → 0 < m → lt (fin true m e) (bits 0) ≡ true
unfolding lt of_bits
below_zero m e h = lt-ltb 0 _ (some (m * up e) (mul-pos h (up_pos e)))
  where
    some : (a : ℕ) → 0 < a → 0 < a * 1 + 0 * down e
    some a h = omega arith

pub lanczos_minus : (m : ℕ) (e : ℤ) → 0 < m → let x = fin false m e in
    lanczos_s (fin true m e) 1 ≡ last_s (y_of x) (neg (dy_s x (y_of x))) (neg (z_of x)) (quotient (sinpi_s x) x (r_of x))
unfolding lanczos_s
lanczos_minus m e h = rw (below_zero m e h, turned) refl
  where
    turned : neg (fin true m e) ≡ fin false m e
    turned = unfold neg in refl

-- ---- its lines
pub last_is : (y dy z r : Float) → let c = dy ⊗ (GMHALF ⊕ 0·5) in let p = pow_s y (0·5 ⊗ z) in
    last_s y dy z r ≡ (r ⊕ c ⊗ r ⊘ y) ⊗ p ⊗ p
unfolding last_s
last_is y dy z r = refl

-- what holds of both differences holds of dy
pub dy_either : (Q : Float → Type 0) (x y : Float) → Q (y ⊖ x ⊖ GMHALF) → Q (y ⊖ GMHALF ⊖ x) → Q (dy_s x y)
unfolding dy_s
dy_either Q x y p q = go (lt GMHALF x)
  where
    go : (b : Bool) → Q (pick b (y ⊖ x ⊖ GMHALF) (y ⊖ GMHALF ⊖ x))
    go true = p
    go false = q

-- ---- S(x)

-- the two loops
unfoldable pub down_e : List Float → Expr
down_e [] = con (bits 0)
down_e (c ∷ cs) = plus (times (down_e cs) (var 0)) (con c)

unfoldable pub up_e : Expr → List Float → Expr
up_e a [] = a
up_e a (c ∷ cs) = up_e (plus (over a (var 0)) (con c)) cs

down_is : (cs : List Float) (x : Float) → eval binary64 (x ∷ []) (down_e cs) ≡ down_s cs x
unfolding eval down_e down_s
down_is [] x = refl
down_is (c ∷ cs) x = ap (λ (a : Float). a ⊗ x ⊕ c) (down_is cs x)

up_is : (a : Expr) (cs : List Float) (x : Float) → eval binary64 (x ∷ []) (up_e a cs) ≡ up_s (eval binary64 (x ∷ []) a) cs x
unfolding eval up_e up_s
up_is a [] x = refl
up_is a (c ∷ cs) x = up_is (plus (over a (var 0)) (con c)) cs x

abbrev pub low_e : Expr
low_e = over (down_e SNUM) (down_e SDEN)

abbrev pub high_e : Expr
high_e = over (up_e (con (bits 0)) SNUM) (up_e (con (bits 0)) SDEN)

pub s_low : (x : Float) → lt x 8·0 ≡ true → eval binary64 (x ∷ []) low_e ≡ s_s x
unfolding eval s_s
s_low x h = rw (h, down_is SNUM x, down_is SDEN x) refl

pub s_high : (x : Float) → lt x 8·0 ≡ false → eval binary64 (x ∷ []) high_e ≡ s_s x
unfolding eval s_s
s_high x h = rw (h, up_is (con (bits 0)) SNUM x, up_is (con (bits 0)) SDEN x) refl
