-- The sign of the f32 sinpi at an f32 x from 2 ^ -21 on: above zero where x is no whole number and its whole part is even (`sinpif_even`), below zero where
-- that is odd (`sinpif_odd`), and +0 at every whole number (`sinpif_whole`). x mod 2 is exact in f32 and in f64, so that of f32 is that of f64 (`same_turn`),
-- and the f32 sinpi is sinpi over the kernels k_sinf and k_cosf. Assumes nothing.
use mathlib.Core.Path.{◌≡◌, refl, sym, ap, ◌∙◌, subst}
use Prim.Native.Nat.{ℕ, zero, suc, ◌+◌, ◌*◌, ◌/◌, ◌%◌, ◌^◌, ◌≤◌, ◌<◌}
use native.Mathlib.Nat.{mul_comm, mul_assoc, mul_right_comm, mod-lt, mul-pos, eq_of_mul-eq-mul_right}
use native.Mathlib.Omega.{arith}
use mathlib.Core.Bool.{false}
use lib.IntN.{ℤ, pos, nat_abs}
use lib.Dec.{T}
use lib.Pow.{pow_pos, pow-add, pow_mono}
use lib.Ieee.{Float, fin, Format, binary32, binary64, mul, neg, le, fits, of_bits, low, prec, up, down}
use lib.Ieee.Exact.{HasValue}
use lib.Ieee.Fits.{down_pos, mul-fits, fits_widens}
use lib.Ieee.Nearest.{div_same}
use lib.Ieee.Positive.{positive}
use Rattle.rounding.proofs.Signed.{value_shorter}
use Rattle.rounding.proofs.Fraction.{mul_commutes}
use Rattle.rounding.proofs.Relative.{power_below}
use Rattle.rounding.proofs.Grid.{OnGrid, on_grid, spare}
use Rattle.words.specs.F32 as F32
use Rattle.words.specs.F64.{◌⊗◌}
use Rattle.whole.specs.Whole.{whole_s}
use Rattle.words.proofs.PatternLaws.{same_value}
use Rattle.trig.specs.KSinf.{k_sinf_s}
use Rattle.trig.specs.KCosf.{k_cosf_s}
use Rattle.trig.proofs.CosinefRange.{cosf_range}
use Rattle.trig.proofs.SinefRange.{tiny, sinf_range, sinf_odd, sinf_zero}
use Rattle.sinpi.specs.Sinpi.{PI, turn_s, quarter_s}
use Rattle.sinpi.specs.Sinpif.{sinpif_s}
use Rattle.sinpi.specs.Sinpif as Sinpif
use Rattle.sinpi.proofs.Exactness.{mod_scale, turn_of, turn_value, turn_is, quarter_value}
use Rattle.sinpi.proofs.Octants.{Kernels, case, folded, reduced, turn_of_is}
use Rattle.sinpi.proofs.Wholes.{fraction_deep, few, no_rest, whole_turn}
use Rattle.sinpi.proofs.SignLaws.{Signs, by_whole_part, half_above, quarter_of, whole_zero}

-- ---- x mod 2 and the whole part of four times it, over the format, for an x of X = m * 2 ^ J units: X mod 2 L is what counts
turns : (f : Format) (m : ℕ) (e : ℤ) (J : ℕ) → 0 < J → OnGrid f m e J → (m * 2 ^ J % 2 ^ low f ≡ 0 → ⊥)
    → HasValue (turn_of f (fin false m e)) false (m * 2 ^ J % (2 * 2 ^ low f)) (2 ^ low f)
    × (nat_abs (whole_s (mul f (fin false 1 (pos 2)) (turn_of f (fin false m e)))) ≡ 4 * (m * 2 ^ J % (2 * 2 ^ low f)) / 2 ^ low f)
turns f m e zero p g h = absurd (omega arith)
turns f m e (suc j) p g h =
    let x = fin false m e in
    let L = 2 ^ low f in
    let v : HasValue x false (m * 2 ^ suc j) L = (refl, g.0) in
    let within = less j (low f) (fraction_deep m (suc j) (low f) h) in
    let thin = few m j (low f) (prec f) g.1 within in
    let t = turn_is f x m j v g.1 g.2 within thin in
    let under = subst (λ (z : ℕ). z < 2 * L) t (mod-lt (m * 2 ^ suc j) (mul-pos (pow_pos 1) (pow_pos (low f)))) in
    let y = turn_of f x in
    subst (λ (Y : ℕ). HasValue y false Y L × (nat_abs (whole_s (mul f (fin false 1 (pos 2)) y)) ≡ 4 * Y / L)) (sym t)
    (turn_value f x m j v g.1 g.2 within thin, quarter_value f x m j v g.1 g.2 within thin under)
  where
    less : (j l : ℕ) → suc j < l → j ≤ l
    less j l h = omega arith

-- ---- an f32 x that is no whole number has the same x mod 2, and the same n, in both formats

-- 2 ^ -21
abbrev pub leastf : Float
leastf = F32.bits 0x35000000

from_leastf : (m : ℕ) (e : ℤ) → T (le leastf (fin false m e)) → down e ≤ m * up e * 2 ^ 21
unfolding of_bits
from_leastf m e h = power_below 20 m e h

grid_above : (J : ℕ) → low binary32 < prec binary32 + J + 21 → 0 < J
grid_above J h = omega (arith, h)

reach : (J : ℕ) → low binary64 < prec binary64 + J + 21 → 974 ≤ J
reach J h = omega (arith, h)

some : (J : ℕ) → 974 ≤ J → 0 < J
some J h = omega arith

-- W / D is A / K, and B / (K * g)
scaled : (W D A B K g : ℕ) → 0 < D → W * K ≡ A * D → W * (K * g) ≡ B * D → B ≡ A * g
scaled W D A B K g d a b =
    eq_of_mul-eq-mul_right D d B (A * g) (sym b ∙ sym (mul_assoc W K g) ∙ ap (λ (z : ℕ). z * g) a ∙ mul_right_comm A D g)

same_turn : (m : ℕ) (e : ℤ) → T (fits binary32 (fin false m e)) → T (le leastf (fin false m e)) → (m * up e % down e ≡ 0 → ⊥)
    → (turn_of binary32 (fin false m e) ≡ turn_of binary64 (fin false m e))
    × (nat_abs (whole_s (mul binary32 (fin false 1 (pos 2)) (turn_of binary32 (fin false m e))))
    ≡ nat_abs (whole_s (mul binary64 (fin false 1 (pos 2)) (turn_of binary64 (fin false m e)))))
same_turn m e F h w =
    let x = fin false m e in
    let K = 2 ^ 149 in
    let g = 2 ^ 925 in
    let W = m * up e in
    let a = on_grid binary32 false m e F in
    let b = on_grid binary64 false m e (fits_widens x F) in
    let A = m * 2 ^ a.0 in
    let B = m * 2 ^ b.0 in
    let Y = A % (2 * K) in
    let k = from_leastf m e h in
    let s =
    turns binary32 m e a.0 (grid_above a.0 (spare binary32 m e a.0 21 a.1 k)) a.1
    (λ (z : A % K ≡ 0). w (no_rest W (down e) A K (pow_pos 149) a.1.0 z)) in
    let t =
    turns binary64 m e b.0 (some b.0 (reach b.0 (spare binary64 m e b.0 21 b.1 k))) b.1
    (λ (z : B % 2 ^ 1074 ≡ 0). w (no_rest W (down e) B (2 ^ 1074) (pow_pos 1074) b.1.0 z)) in
    let L-is : 2 ^ 1074 ≡ K * g = pow-add 2 149 925 in
    let r : B % (2 * 2 ^ 1074) ≡ Y * g =
    ap (λ (z : ℕ). z % (2 * 2 ^ 1074)) (scaled W (down e) A B K g (down_pos e) a.1.0 (ap (λ (z : ℕ). W * z) (sym L-is) ∙ b.1.0))
    ∙ ap (λ (z : ℕ). A * g % z) (ap (λ (z : ℕ). 2 * z) L-is ∙ sym (mul_assoc 2 K g))
    ∙ mod_scale A (2 * K) g (mul-pos (pow_pos 1) (pow_pos 149)) (pow_pos 925) in
    let v : HasValue (turn_of binary64 x) false Y K =
    value_shorter (turn_of binary64 x) false Y K g (pow_pos 925)
    (subst (λ (z : ℕ). HasValue (turn_of binary64 x) false (Y * g) z) L-is
    (subst (λ (z : ℕ). HasValue (turn_of binary64 x) false z (2 ^ 1074)) r t.0)) in (
      same_value binary64 (turn_of binary32 x) (turn_of binary64 x) false Y K (pow_pos 149)
          (fits_widens (turn_of binary32 x) (mul-fits binary32 (fin false 1 (pos 1)) _)) (mul-fits binary64 (fin false 1 (pos 1)) _) s.0 v,
      s.1
          ∙ div_same (4 * Y) K (4 * (Y * g)) (K * g) (pow_pos 149) (mul-pos (pow_pos 149) (pow_pos 925)) (cross Y K g)
          ∙ ap (λ (z : ℕ). 4 * z / (K * g)) (sym r)
          ∙ ap (λ (z : ℕ). 4 * (B % (2 * 2 ^ 1074)) / z) (sym L-is)
          ∙ sym t.1,
    )
  where
    cross : (Y K g : ℕ) → 4 * Y * (K * g) ≡ 4 * (Y * g) * K
    cross Y K g = simp (mul_assoc, mul_comm)

-- ---- so it is sinpi over k_sinf and k_cosf
turnf_of_is : (x : Float) → Sinpif.turn_s x ≡ turn_of binary32 x
unfolding Sinpif.turn_s of_bits
turnf_of_is x = refl

quarterf_of : (t : Float) → Sinpif.quarter_s t ≡ (nat_abs (whole_s (mul binary32 (fin false 1 (pos 2)) t)) + 1) / 2
unfolding Sinpif.quarter_s of_bits
quarterf_of t = ap (λ (z : Float). (nat_abs (whole_s z) + 1) / 2) (mul_commutes binary32 t (fin false 1 (pos 2)))

sinpif_is : (x : Float) → sinpif_s x ≡ case k_sinf_s k_cosf_s (Sinpif.quarter_s (Sinpif.turn_s x)) (folded (Sinpif.turn_s x) (Sinpif.quarter_s (Sinpif.turn_s x)) ⊗ PI)
unfolding sinpif_s of_bits
sinpif_is x = refl

pub sinpif_reduced : (m : ℕ) (e : ℤ) → T (fits binary32 (fin false m e)) → T (le leastf (fin false m e)) → (m * up e % down e ≡ 0 → ⊥)
    → sinpif_s (fin false m e) ≡ reduced k_sinf_s k_cosf_s (fin false m e)
sinpif_reduced m e F h w =
    let x = fin false m e in
    let s = same_turn m e F h w in
    let t : Sinpif.turn_s x ≡ turn_s x = turnf_of_is x ∙ s.0 ∙ sym (turn_of_is x) in
    let q : Sinpif.quarter_s (Sinpif.turn_s x) ≡ quarter_s (turn_s x) =
    ap Sinpif.quarter_s (turnf_of_is x)
    ∙ quarterf_of (turn_of binary32 x)
    ∙ ap (λ (n : ℕ). (n + 1) / 2) s.1
    ∙ sym (quarter_of (turn_of binary64 x))
    ∙ ap quarter_s (sym (turn_of_is x)) in
    sinpif_is x
    ∙ ap (λ (n : ℕ). case k_sinf_s k_cosf_s n (folded (Sinpif.turn_s x) n ⊗ PI)) q
    ∙ ap (λ (y : Float). case k_sinf_s k_cosf_s (quarter_s (turn_s x)) (folded y (quarter_s (turn_s x)) ⊗ PI)) t

-- ---- the theorems
kernels : Kernels k_sinf_s k_cosf_s (λ (r : Float). T (positive r)) tiny
kernels = record {
  sines = λ r F a. (sinf_range r (F, a.0, a.2, a.1)).2;
  odd = λ r F a. sinf_odd r (F, a.0, a.2, a.1);
  cosines = λ r i. half_above (k_cosf_s r) (cosf_range r i);
}

signs : (m : ℕ) (e : ℤ) → T (fits binary32 (fin false m e)) → T (le leastf (fin false m e)) → (m * up e % down e ≡ 0 → ⊥)
    → Signs (λ (r : Float). T (positive r)) (sinpif_s (fin false m e)) (m * up e / down e)
signs m e F h w =
    subst (λ (r : Float). Signs (λ (r : Float). T (positive r)) r (m * up e / down e)) (sym (sinpif_reduced m e F h w))
    (by_whole_part k_sinf_s k_cosf_s (λ (r : Float). T (positive r)) tiny kernels (2 ^ 974) (refl, refl) (pow_pos 974) m e 21 (fits_widens (fin false m e) F)
    (from_leastf m e h) (λ (J : ℕ) (k : low binary64 < prec binary64 + J + 21). (some J (reach J k), pow_mono (reach J k))) w)

-- x is no whole number, and its whole part is even
pub sinpif_even : (m : ℕ) (e : ℤ) → T (fits binary32 (fin false m e)) → T (le leastf (fin false m e)) → (m * up e % down e ≡ 0 → ⊥)
    → m * up e / down e % 2 ≡ 0 → T (positive (sinpif_s (fin false m e)))
sinpif_even m e F h w = (signs m e F h w).0

-- x is no whole number, and its whole part is odd
pub sinpif_odd : (m : ℕ) (e : ℤ) → T (fits binary32 (fin false m e)) → T (le leastf (fin false m e)) → (m * up e % down e ≡ 0 → ⊥)
    → m * up e / down e % 2 ≡ 1 → T (positive (neg (sinpif_s (fin false m e))))
sinpif_odd m e F h w = (signs m e F h w).1

-- x is a whole number: +0
pub sinpif_whole : (m : ℕ) (e : ℤ) → T (fits binary32 (fin false m e)) → T (le leastf (fin false m e)) → m * up e % down e ≡ 0
    → sinpif_s (fin false m e) ≡ F32.bits 0
unfolding of_bits
sinpif_whole m e F h w =
    let x = fin false m e in
    sinpif_is x
    ∙ whole_zero binary32 k_sinf_s k_cosf_s sinf_zero (Sinpif.turn_s x) (Sinpif.quarter_s (Sinpif.turn_s x)) (quarterf_of (Sinpif.turn_s x))
    (rw (turnf_of_is x) (whole_turn binary32 m e 21 F (from_leastf m e h) grid_above w))
