-- Where a rounded operation is exact: the result of the operation is a value of the format.
--   `round-representable`: A smallest units are a value of the format where A has at most prec digits (`Representable`);
--   `round-own`: a value that fits is the rounding of its own fraction; `round-at-most`, `round-at-least`: so a rounding never crosses it;
--   `shrink-exact`, `half-exact`, `mul-pow-exact`: a division by a power of two, a halving, and a product with a power of two;
--   `sub-exact`, `sub-exact-neg`: a difference, either way round; `add-zero`: x + 0 is x.
-- Assumes nothing.
use mathlib.Core.Path.{◌≡◌, refl, sym, ap, ◌∙◌, subst}
use Prim.Native.Nat.{ℕ, suc, ◌+◌, ◌-◌, ◌*◌, ◌^◌, ◌≤◌, ◌<◌}
use native.Mathlib.Nat.{lt_of_le_of_lt, one-mul, mul-one, mul_comm, mul_assoc, mul_left_comm, mul_right_comm, mul-add, add-mul}
use native.Mathlib.Nat.{mul-le-mul_left, mul-pos}
use native.Mathlib.Omega.{arith}
use mathlib.Core.Bool.{Bool, true, false}
use lib.IntN.{ℤ, pos, negsuc}
use lib.Dec.{T}
use lib.Pow.{pow-add, pow_pos, pow_mono}
use lib.Ieee.{Float, fin, Format, prec, emax, low, up, down, round, add, sub, mul, le, fits}
use lib.Ieee.Digits.{back}
use lib.Ieee.Fits.{down_pos}
use lib.Ieee.Exact.{HasValue, round_exact}
use lib.Ieee.Scale.{round_same}
use Rattle.rounding.proofs.Signed.{P, N, Le, Le-refl, le_of_signed, round-Le}
use Rattle.rounding.proofs.Order.{le_trans}
use Rattle.rounding.proofs.Fraction.{unlike_false, add_fraction}
use Rattle.rounding.proofs.Grid.{OnGrid, on_grid}
use Rattle.rounding.proofs.Units.{sub_units, sub_units_neg, mul_units}

-- ---- values of the format

-- A smallest units are a value of the format: a multiple of 2 ^ j with a factor below 2 ^ prec, and no infinity
abbrev pub Representable : Format → ℕ → ℕ → Type 0
Representable f j A = (q : ℕ) × (A ≡ q * 2 ^ j) × (q < 2 ^ prec f) × (A < 2 ^ (low f + suc (emax f)))

-- A units that are a value of the format are their own rounding
pub round_representable : (f : Format) (s : Bool) (j A : ℕ) → Representable f j A → HasValue (round f s A (2 ^ low f)) s A (2 ^ low f)
round_representable f s j A r =
    round_exact f s A (2 ^ low f) r.0 j (pow_pos (low f)) r.2
    (subst (λ (z : ℕ). z < 2 ^ (low f + suc (emax f))) r.1 r.3) (ap (λ (z : ℕ). z * 2 ^ low f) r.1)

-- a value that fits is the rounding of its own fraction
pub round_own : (f : Format) (s : Bool) (m : ℕ) (e : ℤ) → T (fits f (fin s m e))
    → HasValue (round f s (m * up e) (down e)) s (m * up e) (down e)
round_own f s m e t =
    let g = on_grid f s m e t in
    round_exact f s (m * up e) (down e) m g.0 (down_pos e) g.1.1 g.1.2 g.1.0

-- ---- a rounding never crosses a value that fits

-- a fraction up to a value that fits is rounded to at most that value
pub round_at_most : (f : Format) (u : Bool) (q c : ℕ) (s : Bool) (m : ℕ) (e : ℤ) → T (fits f (fin s m e)) → 0 < c
    → Le u q c s (m * up e) (down e) → T (le (round f u q c) (fin s m e))
round_at_most f u q c s m e t C h =
    le_trans (round f u q c) (round f s (m * up e) (down e)) (fin s m e) (round-Le f u q c s (m * up e) (down e) C (down_pos e) h)
    (le_of_signed (round f s (m * up e) (down e)) (fin s m e) s (m * up e) (down e) s (m * up e) (down e)
    (down_pos e) (down_pos e) (round_own f s m e t) (refl, refl) (Le-refl s (m * up e) (down e)))

-- a fraction from a value that fits on is rounded to at least that value
pub round_at_least : (f : Format) (u : Bool) (q c : ℕ) (s : Bool) (m : ℕ) (e : ℤ) → T (fits f (fin s m e)) → 0 < c
    → Le s (m * up e) (down e) u q c → T (le (fin s m e) (round f u q c))
round_at_least f u q c s m e t C h =
    le_trans (fin s m e) (round f s (m * up e) (down e)) (round f u q c)
    (le_of_signed (fin s m e) (round f s (m * up e) (down e)) s (m * up e) (down e) s (m * up e) (down e)
    (down_pos e) (down_pos e) (refl, refl) (round_own f s m e t) (Le-refl s (m * up e) (down e)))
    (round-Le f s (m * up e) (down e) u q c (down_pos e) C h)

-- ---- x + 0 is x
zero_core : (s : Bool) (u : Bool) (q a D : ℕ) → P u q + (N s a * 1 + 0 * D) ≡ N u q + (P s a * 1 + 0 * 1 * D)
    → Le u q (D * 1) s a D × Le s a D u q (D * 1)
zero_core s u q a D h =
    let i = simp (mul_assoc, mul_comm, mul_left_comm, mul-add, add-mul, mul-one) at (ap (λ (z : ℕ). z * D) h) in (
      simp (mul_assoc, mul_comm, mul_left_comm, mul-add, add-mul, mul-one) (omega arith),
      simp (mul_assoc, mul_comm, mul_left_comm, mul-add, add-mul, mul-one) (omega arith),
    )

-- x + 0 is x in value, for an x that fits (-0 + 0 is +0)
pub add_zero : (f : Format) (s : Bool) (m : ℕ) (e : ℤ) → T (fits f (fin s m e))
    → T (le (add f (fin s m e) (fin false 0 (pos 0))) (fin s m e)) × T (le (fin s m e) (add f (fin s m e) (fin false 0 (pos 0))))
add_zero f s m e t =
    let S = add_fraction f s m e false 0 (pos 0) in
    let c = zero_core s S.0 S.1 (m * up e) (down e) S.3 in
    let D = mul-pos (down_pos e) (pow_pos 0) in (
      rw S.2 (round_at_most f S.0 S.1 (down e * 1) s m e t D c.0),
      rw S.2 (round_at_least f S.0 S.1 (down e * 1) s m e t D c.1),
    )

-- ---- powers of two
shift_le : (m j k : ℕ) → m * 2 ^ (j - k) ≤ m * 2 ^ j
shift_le m j k = mul-le-mul_left m (pow_mono (less j k))
  where
    less : (j k : ℕ) → j - k ≤ j
    less j k = omega arith

-- a value of m * 2 ^ j units, divided by 2 ^ k, is exact for k up to j
pub shrink_exact : (f : Format) (s : Bool) (m : ℕ) (e : ℤ) (j k : ℕ) → OnGrid f m e j → k ≤ j
    → HasValue (round f s (m * up e) (down e * 2 ^ k)) s (m * up e) (down e * 2 ^ k)
shrink_exact f s m e j k g h =
    round_exact f s (m * up e) (down e * 2 ^ k) m (j - k) (mul-pos (down_pos e) (pow_pos k)) g.1 (lt_of_le_of_lt (shift_le m j k) g.2)
    (g.0
    ∙ ap (λ (z : ℕ). m * 2 ^ z * down e) (sym (back j k h))
    ∙ ap (λ (z : ℕ). m * z * down e) (pow-add 2 (j - k) k)
    ∙ simp (mul_assoc, mul_comm, mul_left_comm))

-- 2 ^ k * b is exact where the result is a value of the format
pub mul_pow_exact : (f : Format) (b : Float) (B k j : ℕ) → HasValue b false B (2 ^ low f) → Representable f j (2 ^ k * B)
    → HasValue (mul f (fin false 1 (pos k)) b) false (2 ^ k * B) (2 ^ low f)
mul_pow_exact f b B k j v r =
    subst (λ (z : Float). HasValue z false (2 ^ k * B) (2 ^ low f))
    (sym (mul_units f (fin false 1 (pos k)) b false (2 ^ k) 1 false B (2 ^ low f) (pow_pos 0) (pow_pos (low f))
    (refl, ap (λ (z : ℕ). z * 1) (one-mul (2 ^ k))) v
    ∙ ap (λ (z : ℕ). round f false (2 ^ k * B) z) (one-mul (2 ^ low f))))
    (round_representable f false j (2 ^ k * B) r)

-- x * (1/2) is exact where the result is a value of the format
pub half_exact : (f : Format) (x : Float) (s : Bool) (A j : ℕ) → HasValue x s (A * 2) (2 ^ low f) → Representable f j A
    → HasValue (mul f x (fin false 1 (negsuc 0))) s A (2 ^ low f)
half_exact f x s A j v r =
    subst (λ (z : Float). HasValue z s A (2 ^ low f))
    (sym (mul_units f x (fin false 1 (negsuc 0)) s (A * 2) (2 ^ low f) false 1 2 (pow_pos (low f)) (pow_pos 1) v (refl, refl)
    ∙ ap (λ (b : Bool). round f b (A * 2 * 1) (2 ^ low f * 2)) (unlike_false s)
    ∙ round_same f s (A * 2 * 1) (2 ^ low f * 2) A (2 ^ low f) (mul-pos (pow_pos (low f)) (pow_pos 1)) (pow_pos (low f))
    (ap (λ (z : ℕ). z * 2 ^ low f) (mul-one (A * 2)) ∙ mul_right_comm A 2 (2 ^ low f) ∙ mul_assoc A (2 ^ low f) 2)))
    (round_representable f s j A r)

-- ---- differences of values with no minus sign

-- X less Y units is exact where the result is a value of the format
pub sub_exact : (f : Format) (x y : Float) (X Y j : ℕ) → HasValue x false X (2 ^ low f) → HasValue y false Y (2 ^ low f) → Y ≤ X
    → Representable f j (X - Y) → HasValue (sub f x y) false (X - Y) (2 ^ low f)
sub_exact f x y X Y j v w h r =
    rw (sub_units f x y X Y (2 ^ low f) (pow_pos (low f)) v w h) (round_representable f false j (X - Y) r)

-- X less Y units for Y above X, with a minus sign, is exact where Y - X is a value of the format
pub sub_exact_neg : (f : Format) (x y : Float) (X Y j : ℕ) → HasValue x false X (2 ^ low f) → HasValue y false Y (2 ^ low f) → X < Y
    → Representable f j (Y - X) → HasValue (sub f x y) true (Y - X) (2 ^ low f)
sub_exact_neg f x y X Y j v w h r =
    rw (sub_units_neg f x y X Y (2 ^ low f) (pow_pos (low f)) v w h) (round_representable f true j (Y - X) r)
