-- Narrowing to f32 never crosses a value of f32 (`narrow_in`), and moves a value of 2 ^ -143 or more by a 128th at most (`narrow_near`). Assumes nothing.
use mathlib.Core.Path.{refl, sym, subst}
use Prim.Native.Nat.{ℕ, ◌*◌, ◌^◌, ◌≤◌, ◌<◌}
use mathlib.Core.Bool.{Bool, false}
use lib.IntN.{ℤ}
use lib.Dec.{T}
use lib.Ieee.{Float, nan, inf, fin, binary32, up, down, fits}
use lib.Ieee.Exact.{HasValue}
use lib.Ieee.Fits.{down_pos}
use lib.Ieee.Scale.{finite}
use Rattle.rounding.proofs.Signed.{le→Le}
use Rattle.rounding.proofs.Order.{between_finite}
use Rattle.rounding.proofs.Exact.{round_at_most, round_at_least}
use Rattle.rounding.proofs.Error.{round_near}
use Rattle.rounding.proofs.Range.{In}
use Rattle.narrow.specs.Narrow.{narrow_s}
use Rattle.narrow.proofs.NarrowLaws.{narrow_value}

-- what lies between two values of f32 is narrowed to what lies between them
pub narrow_in : (x : Float) (s : Bool) (m : ℕ) (e : ℤ) (t : Bool) (n : ℕ) (d : ℤ) → T (fits binary32 (fin s m e)) → T (fits binary32 (fin t n d))
    → In (fin s m e) (fin t n d) x → In (fin s m e) (fin t n d) (narrow_s x)
narrow_in x s m e t n d F G i = go x (between_finite (fin s m e) x (fin t n d) tt tt i.0 i.1) i
  where
    go : (x : Float) → T (finite x) → In (fin s m e) (fin t n d) x → In (fin s m e) (fin t n d) (narrow_s x)
    go nan X i = absurd X
    go (inf u) X i = absurd X
    go (fin u k c) X i =
        rw (narrow_value (fin u k c) u (k * up c) (down c) (down_pos c) (refl, refl)) (
          round_at_least binary32 u (k * up c) (down c) s m e F (down_pos c) (le→Le s m e u k c i.0),
          round_at_most binary32 u (k * up c) (down c) t n d G (down_pos c) (le→Le u k c t n d i.1),
        )

-- x is A / L, and 64 smallest units of f32 or more
pub narrow_near : (x : Float) (A L : ℕ) → 0 < L → HasValue x false A L → 64 * L ≤ A * 2 ^ 149 → T (finite (narrow_s x))
    → (G : ℕ) × HasValue (narrow_s x) false G (2 ^ 149) × (128 * (G * L) ≤ 129 * (A * 2 ^ 149)) × (127 * (A * 2 ^ 149) ≤ 128 * (G * L))
narrow_near x A L l v h F =
    let e = narrow_value x false A L l v in
    let r = round_near binary32 A L l h (subst (λ (y : Float). T (finite y)) e F) in
    (r.0, subst (λ (y : Float). HasValue y false r.0 (2 ^ 149)) (sym e) r.1, r.2, r.3)
