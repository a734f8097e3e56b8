-- The whole part by the value of x:
--   `whole_at`, `whole_value`: of ±d / w it is ±(d / w), where that is below 2 ^ 31, and else 0;
--   `whole_nan`: of a NaN it is 0;
--   `whole_neg`: of -x it is that of x, negated;
--   `signed_fits`, `whole_fits`, `whole_held`: an i32 holds it.
-- Assumes nothing.
use mathlib.Core.Path.{◌≡◌, refl, sym, ap, ◌∙◌, subst}
use mathlib.Core.Bool.{Bool, true, false, not, cond}
use Prim.Native.Nat.{ℕ, zero, suc, ◌*◌, ◌/◌, ◌^◌, ◌<◌}
use lib.IntN.{ℤ, pos, neg_ℤ}
use native.Mathlib.Omega.{arith}
use lib.Dec.{ltb, lit<}
use lib.Ieee.{Float, nan, inf, fin, up, down, neg}
use lib.Ieee.Exact.{HasValue}
use lib.Ieee.Fits.{down_pos}
use lib.Ieee.Nearest.{div_same}
use mir.Syntax.{w32}
use mir.Val.{SFits, to_z, of_z}
use mir.ValLaws.{to_z-of_z}
use borrow.Author.Tests.{lt-ltb, ltb-true}
use Rattle.whole.specs.Whole.{signed, small, whole_s}

pub whole_at : (x : Float) (s : Bool) (d w : ℕ) → 0 < w → HasValue x s d w → whole_s x ≡ small s (d / w)
unfolding whole_s
whole_at nan s d w W v = elim v [ ]
whole_at (inf _) s d w W v = elim v [ ]
whole_at (fin t m e) s d w W v =
    ap (small t) (div_same (m * up e) (down e) d w (down_pos e) W v.1) ∙ ap (λ (k : Bool). small k (d / w)) v.0

pub whole_value : (x : Float) (s : Bool) (d w : ℕ) → 0 < w → HasValue x s d w → d / w < 2 ^ 31 → whole_s x ≡ signed s (d / w)
whole_value x s d w W v h = whole_at x s d w W v ∙ rw (lt-ltb (d / w) (2 ^ 31) h)

pub whole_nan : whole_s nan ≡ pos 0
unfolding whole_s
whole_nan = refl

pub whole_neg : (x : Float) → whole_s (neg x) ≡ neg_ℤ (whole_s x)
unfolding whole_s neg
whole_neg nan = refl
whole_neg (inf s) = refl
whole_neg (fin s m e) = go s (m * up e / down e) (ltb (m * up e / down e) (2 ^ 31))
  where
    go : (s : Bool) (q : ℕ) (t : Bool) → cond t (signed (not s) q) (pos 0) ≡ neg_ℤ (cond t (signed s q) (pos 0))
    go true zero true = refl
    go true (suc q) true = refl
    go false q true = refl
    go s q false = refl

-- an i32 holds ±q
pub signed_fits : (s : Bool) (q : ℕ) → q < 2 ^ 31 → SFits w32 (signed s q)
signed_fits false q h = record { sfits = h }
signed_fits true zero h = record { sfits = omega arith }
signed_fits true (suc q) h = record { sfits = omega (arith, h) }

pub whole_fits : (x : Float) → SFits w32 (whole_s x)
unfolding whole_s
whole_fits nan = signed_fits false 0 (lit< tt)
whole_fits (inf s) = signed_fits false 0 (lit< tt)
whole_fits (fin s m e) = go (m * up e / down e) _ refl
  where
    go : (q : ℕ) (t : Bool) → ltb q (2 ^ 31) ≡ t → SFits w32 (small s q)
    go q true h = rw h (signed_fits s q (ltb-true q (2 ^ 31) h))
    go q false h = rw h (signed_fits false 0 (lit< tt))

-- so the number n, as a local of 32 bits holds it, is the whole part
pub whole_held : {n : ℤ} (x : Float) → n ≡ whole_s x → to_z w32 (of_z w32 n) ≡ whole_s x
whole_held x e = to_z-of_z w32 _ (subst (SFits w32) (sym e) (whole_fits x)) ∙ e
