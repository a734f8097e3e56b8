-- sqrt of a finite f64 with no minus sign is a finite f64 with none, and no other f64 lies as near to the root (`sqrt_nearest`). Assumes nothing.
use mathlib.Core.Path.{◌≡◌, refl, sym, ap, ◌∙◌}
use Prim.Native.Nat.{ℕ, zero, suc, ◌+◌, ◌*◌, ◌^◌, ◌<◌}
use native.Mathlib.Nat.{mul_assoc, mul-pos, zero-mul}
use native.Mathlib.Omega.{arith}
use mathlib.Core.Bool.{true, false, true≢false}
use lib.IntN.{ℤ}
use lib.Dec.{T}
use lib.Pow.{pow-add, pow_pos}
use lib.Ieee.{Float, nan, inf, fin, binary64, fits, up, down}
use lib.Ieee.Exact.{HasValue}
use Rattle.sqrt.specs.Sqrt.{sqrt_s}
use Rattle.rounding.proofs.Signed.{value_longer, value_unique}
use Rattle.rounding.proofs.Grid.{on_grid}
use Rattle.sqrt.proofs.Positive.{long, q_from, root_value}
use Rattle.sqrt.proofs.Found.{multiple, Found, found}
use Rattle.sqrt.proofs.Sides.{nearer_than_above, nearer_than_below}

-- x is X units, its root the root of X * 2 ^ 1074, the answer Y, and any other f64 that is not negative Z.
nearest : (m : ℕ) (e : ℤ) (z : Float) (X Y Z : ℕ) → T (fits binary64 (fin false (suc m) e)) → T (fits binary64 z)
    → HasValue (fin false (suc m) e) false X (2 ^ 1074) → HasValue (sqrt_s (fin false (suc m) e)) false Y (2 ^ 1074) → HasValue z false Z (2 ^ 1074)
    → (Y < Z → 4 * (X * 2 ^ 1074) < (Y + Z) * (Y + Z)) × (Z < Y → (Y + Z) * (Y + Z) < 4 * (X * 2 ^ 1074))
nearest m e nan X Y Z t tz v vy vz = absurd vz
nearest m e (inf s) X Y Z t tz v vy vz = absurd vz
nearest m e (fin true n d) X Y Z t tz v vy vz = absurd (true≢false vz.0)
nearest m e (fin false n d) X Y Z t tz v vy vz = at (found m e X t v)
  where
    x : Float
    x = fin false (suc m) e

    at : Found x → (Y < Z → 4 * (X * 2 ^ 1074) < (Y + Z) * (Y + Z)) × (Z < Y → (Y + Z) * (Y + Z) < 4 * (X * 2 ^ 1074))
    at f =
        let A = f.A in
        let h = f.h in
        let q = f.q in
        let U = 2 ^ (h + 474) in
        let big = q_from A h q f.lo f.hi f.small f.near.0 f.near.1 in
        let full = long A h q f.lo f.hi f.small f.near.0 f.near.1 in
        let y = value_unique (sqrt_s x) false false Y (q * U) (2 ^ 1074) vy (root_value A h q f.lo f.hi f.small f.near.0 f.near.1 x f.value).0 in
        let s = scaled X A h (value_unique x false false (X * 2 ^ 1024) (A * (2 ^ (h + 475) * 2 ^ (h + 475))) (2 ^ 2098) (value_longer x false X (2 ^ 1074) (2 ^ 1024) v) f.value) in
        let grid = multiple n d Z tz vz (h + 474) in (
          nearer_than_above (A * 2 ^ 52) U q (2 ^ 52) (X * 2 ^ 1074) Y Z (pow_pos (h + 474)) s y big full f.near.0 f.near.1 grid,
          nearer_than_below (A * 2 ^ 52) U q (2 ^ 52) (X * 2 ^ 1074) Y Z (pow_pos (h + 474)) s y big full f.near.0 f.near.1 grid,
        )
      where
        scaled : (X A h : ℕ) → X * 2 ^ 1024 ≡ A * (2 ^ (h + 475) * 2 ^ (h + 475)) → X * 2 ^ 1074 ≡ A * 2 ^ 52 * (2 ^ (h + 474) * 2 ^ (h + 474))
        scaled X A h g =
            sym (mul_assoc X (2 ^ 1024) (2 ^ 50))
            ∙ ap (λ (n : ℕ). n * 2 ^ 50) (g ∙ ap (λ (n : ℕ). A * (n * n)) (ap (λ (n : ℕ). 2 ^ n) (next h) ∙ pow-add 2 (h + 474) 1))
            ∙ tidy A (2 ^ (h + 474))
          where
            next : (h : ℕ) → h + 475 ≡ h + 474 + 1
            next h = omega arith

            tidy : (A U : ℕ) → A * (U * 2 * (U * 2)) * 2 ^ 50 ≡ A * 2 ^ 52 * (U * U)
            tidy A U = omega arith

-- y is the f64 nearest to the root of x. In units of 2 ^ -1074 x is X, so its root is that of X * 2 ^ 1074, y is Y, and any other f64 z with no minus
-- sign is Z. The root lies on y's side of the middle of y and z: twice the root is below Y + Z for a z above y, and above it for a z below y. (An f64
-- below zero is further off than +0, which is such a z.)
pub record NearestRoot (x y : Float) : Type 0 where
  pub X : ℕ
  pub Y : ℕ
  pub x_is : HasValue x false X (2 ^ 1074)
  pub y_is : HasValue y false Y (2 ^ 1074)
  pub y_fits : T (fits binary64 y)
  pub below_others : (z : Float) (Z : ℕ) → T (fits binary64 z) → HasValue z false Z (2 ^ 1074) → Y < Z → 4 * (X * 2 ^ 1074) < (Y + Z) * (Y + Z)
  pub above_others : (z : Float) (Z : ℕ) → T (fits binary64 z) → HasValue z false Z (2 ^ 1074) → Z < Y → (Y + Z) * (Y + Z) < 4 * (X * 2 ^ 1074)

-- for every finite f64 from +0 up
pub sqrt_nearest : (m : ℕ) (e : ℤ) → T (fits binary64 (fin false m e)) → NearestRoot (fin false m e) (sqrt_s (fin false m e))
unfolding sqrt_s
sqrt_nearest zero e t = record {
  X = 0;
  Y = 0;
  x_is = none;
  y_is = none;
  y_fits = t;
  below_others = λ z Z tz vz h. square Z h;
  above_others = λ z Z tz vz h. absurd (under Z h);
}
  where
    none : HasValue (fin false 0 e) false 0 (2 ^ 1074)
    none = (refl, ap (λ (n : ℕ). n * 2 ^ 1074) (zero-mul (up e)) ∙ zero-mul (2 ^ 1074) ∙ sym (zero-mul (down e)))

    square : (Z : ℕ) → 0 < Z → 4 * (0 * 2 ^ 1074) < (0 + Z) * (0 + Z)
    square Z h = omega (arith, mul-pos h h)

    under : (Z : ℕ) → Z < 0 → ⊥
    under Z h = omega arith
sqrt_nearest (suc m) e t =
    let x = fin false (suc m) e in
    let j = on_grid binary64 false (suc m) e t in
    let v : HasValue x false (suc m * 2 ^ j.0) (2 ^ 1074) = (refl, j.1.0) in
    let f = found m e (suc m * 2 ^ j.0) t v in
    let r = root_value f.A f.h f.q f.lo f.hi f.small f.near.0 f.near.1 x f.value in
    record {
      X = suc m * 2 ^ j.0;
      Y = f.q * 2 ^ (f.h + 474);
      x_is = v;
      y_is = r.0;
      y_fits = r.1;
      below_others = λ z Z tz vz. (nearest m e z (suc m * 2 ^ j.0) (f.q * 2 ^ (f.h + 474)) Z t tz v r.0 vz).0;
      above_others = λ z Z tz vz. (nearest m e z (suc m * 2 ^ j.0) (f.q * 2 ^ (f.h + 474)) Z t tz v r.0 vz).1;
    }
