-- The sign of sinpi at an x from 2 ^ -70 on: above zero where x is no whole number and its whole part is even (`sinpi_even`), below zero where that is odd
-- (`sinpi_odd`), and +0 at every whole number (`sinpi_whole`). `by_whole_part` says the first two of any property that the
-- kernels of the sine and of the cosine have, and over the kernels. Assumes nothing.
use mathlib.Core.Path.{◌≡◌, refl, sym, ap, ◌∙◌, subst}
use mathlib.Core.Logic.{◌⊎◌, inl, inr}
use Prim.Native.Nat.{ℕ, zero, suc, ◌+◌, ◌-◌, ◌*◌, ◌/◌, ◌%◌, ◌^◌, ◌≤◌, ◌<◌}
use native.Mathlib.Nat.{suc-mul, zero-mul, mul-le-mul_right, mod-lt}
use native.Mathlib.Omega.{arith}
use mathlib.Core.Bool.{Bool, true, false}
use lib.IntN.{ℤ, pos, negsuc, nat_abs}
use lib.Dec.{T, lit<}
use lib.Pow.{pow_pos, pow-add}
use lib.Ieee.{Float, fin, Format, binary32, binary64, add, sub, mul, neg, le, fits, of_int, of_bits, low, prec, up, down}
use lib.Ieee.Digits.{back}
use lib.Ieee.Exact.{HasValue}
use lib.Ieee.Fits.{down_pos}
use lib.Ieee.Nearest.{div_same}
use lib.Ieee.Positive.{positive, between}
use Rattle.rounding.proofs.Relative.{zero+, one+, power_below}
use Rattle.rounding.proofs.Range.{In}
use Rattle.rounding.proofs.Grid.{OnGrid, on_grid, spare}
use Rattle.words.specs.F64.{bits, ◌⊗◌}
use Rattle.whole.specs.Whole.{whole_s}
use Rattle.whole.proofs.WholeLaws.{whole_value}
use Rattle.trig.specs.KSin.{k_sin_s}
use Rattle.trig.specs.KCos.{k_cos_s}
use Rattle.trig.proofs.CosineRange.{half, two, cos_range}
use Rattle.trig.proofs.SineRange.{sin_range, sin_odd, sin_zero}
use Rattle.sinpi.specs.Sinpi.{PI, turn_s, quarter_s, sinpi_s}
use Rattle.sinpi.proofs.Exactness.{mod_scale, rest_of, turn_is}
use Rattle.sinpi.proofs.Octants.{Angle, Kernels, Apart, case, folded, reduced, turn_of_is, sinpi_turn}
use Rattle.sinpi.proofs.Wholes.{even_rest, odd_rest, fraction_deep, few, no_rest, whole_turn}

-- X mod L, where it is not 0, is at least 2 ^ J, and at least that below L
gap : (m J l : ℕ) → J ≤ l → (m * 2 ^ J % 2 ^ l ≡ 0 → ⊥) → (2 ^ J ≤ m * 2 ^ J % 2 ^ l) × (m * 2 ^ J % 2 ^ l + 2 ^ J ≤ 2 ^ l)
gap m J l k h =
    let c = 2 ^ (l - J) in
    let L-is : 2 ^ l ≡ c * 2 ^ J = ap (λ (z : ℕ). 2 ^ z) (sym (back l J k)) ∙ pow-add 2 (l - J) J in
    steps (m % c) c (2 ^ J) (m * 2 ^ J % 2 ^ l) (2 ^ l)
    (ap (λ (z : ℕ). m * 2 ^ J % z) L-is ∙ mod_scale m c (2 ^ J) (pow_pos (l - J)) (pow_pos J)) L-is (mod-lt m (pow_pos (l - J))) h
  where
    steps : (r c G R L : ℕ) → R ≡ r * G → L ≡ c * G → r < c → (R ≡ 0 → ⊥) → (G ≤ R) × (R + G ≤ L)
    steps zero c G R L e d k h = absurd (h (e ∙ zero-mul G))
    steps (suc r) c G R L e d k h =
        let a = suc-mul r G in
        let b = suc-mul (suc r) G in
        let n : suc (suc r) ≤ c = omega arith in
        let z = mul-le-mul_right G n in
        (omega arith, omega arith)

-- ---- the theorems

-- Q of r where d is even, of its negative where d is odd
abbrev pub Signs : (Float → Type 0) → Float → ℕ → Type 0
Signs Q r d = (d % 2 ≡ 0 → Q r) × (d % 2 ≡ 1 → Q (neg r))

module _ (sine cosine : Float → Float) (Q : Float → Type 0) (u : Float) (K : Kernels sine cosine Q u) (g : ℕ)
    (unit : HasValue u false g (2 ^ low binary64)) (above : 0 < g) where
  units_signs : (m : ℕ) (e : ℤ) (J : ℕ) → 0 < J → g ≤ 2 ^ J → OnGrid binary64 m e J → (m * 2 ^ J % 2 ^ low binary64 ≡ 0 → ⊥)
      → Signs Q (reduced sine cosine (fin false m e)) (m * 2 ^ J / 2 ^ low binary64)
  units_signs m e zero p a t h = absurd (omega arith)
  units_signs m e (suc j) p a t h =
      let X = m * 2 ^ suc j in
      let L = 2 ^ low binary64 in
      let H = 2 ^ (low binary64 - 1) in
      let Y = rest_of binary64 m j * 2 ^ suc j in
      let v : HasValue (fin false m e) false X L = (refl, t.0) in
      let deep = fraction_deep m (suc j) (low binary64) h in
      let within = less j (low binary64) deep in
      let thin = few m j (low binary64) (prec binary64) t.1 within in
      let rest : X % (2 * L) ≡ Y = turn_is binary64 (fin false m e) m j v t.1 t.2 within thin in
      let s = gap m (suc j) (low binary64) (reached j (low binary64) deep) h in (
        (λ (d : X / L % 2 ≡ 0).
            let b = first Y (X % L) H g (2 ^ suc j) (sym rest ∙ even_rest X L (pow_pos (low binary64)) d) a above s.0 s.1 in
            (sinpi_turn sine cosine Q u K (fin false m e) m j g v t.1 t.2 deep thin unit above b.0).0 b.1),
        λ (d : X / L % 2 ≡ 1).
            let b = second Y (X % L) H g (2 ^ suc j) (sym rest ∙ odd_rest X L (pow_pos (low binary64)) d) a above s.0 s.1 in
            (sinpi_turn sine cosine Q u K (fin false m e) m j g v t.1 t.2 deep thin unit above b.0).1 b.1,
      )
    where
      less : (j l : ℕ) → suc j < l → j ≤ l
      less j l h = omega arith

      reached : (j l : ℕ) → suc j < l → suc j ≤ l
      reached j l h = omega arith

      first : (Y r H g G : ℕ) → Y ≡ r → g ≤ G → 0 < g → G ≤ r → r + G ≤ 2 * H → Apart g Y H × (Y < 2 * H)
      first Y r H g G e a p s t =
          ((omega arith, (λ (z : Y < 2 * H). omega arith), (λ (z : 2 * H ≤ Y). absurd (omega arith)), omega arith), omega arith)

      second : (Y r H g G : ℕ) → Y ≡ 2 * H + r → g ≤ G → 0 < g → G ≤ r → r + G ≤ 2 * H → Apart g Y H × (2 * H ≤ Y)
      second Y r H g G e a p s t =
          ((omega arith, (λ (z : Y < 2 * H). absurd (omega arith)), (λ (z : 2 * H ≤ Y). omega arith), omega arith), omega arith)

  -- for an x of 2 ^ -n or more that is no whole number, by its whole part
  pub by_whole_part : (m : ℕ) (e : ℤ) (n : ℕ) → T (fits binary64 (fin false m e)) → down e ≤ m * up e * 2 ^ n
      → ((J : ℕ) → low binary64 < prec binary64 + J + n → (0 < J) × (g ≤ 2 ^ J)) → (m * up e % down e ≡ 0 → ⊥)
      → Signs Q (reduced sine cosine (fin false m e)) (m * up e / down e)
  by_whole_part m e n F h room w =
      let G = on_grid binary64 false m e F in
      let J = G.0 in
      let t = G.1 in
      let L = 2 ^ low binary64 in
      let r = room J (spare binary64 m e J n t h) in
      subst (λ (d : ℕ). Signs Q (reduced sine cosine (fin false m e)) d)
      (sym (div_same (m * up e) (down e) (m * 2 ^ J) L (down_pos e) (pow_pos (low binary64)) t.0))
      (units_signs m e J r.0 r.1 t
      (λ (z : m * 2 ^ J % L ≡ 0). w (no_rest (m * up e) (down e) (m * 2 ^ J) L (pow_pos (low binary64)) t.0 z)))

-- ---- k_sin and k_cos
abbrev pub sine : Float → Float
sine y = k_sin_s y (bits 0) (pos 0)

abbrev pub cosine : Float → Float
cosine y = k_cos_s y (bits 0)

-- where Q holds of k_sin, and of what lies from 1/2 to 2
pub kernels64 : (Q : Float → Type 0) (u : Float) → ((r : Float) → T (fits binary64 r) → Angle u r → Q (sine r)) → ((k : Float) → In half two k → Q k)
    → Kernels sine cosine Q u
kernels64 Q u s c =
    record { sines = s; odd = λ r F a. sin_odd r F a.0 a.1; cosines = λ r i. c (cosine r) (cos_range r i) }

pub quarter_of : (t : Float) → quarter_s t ≡ (nat_abs (whole_s (mul binary64 (fin false 1 (pos 2)) t)) + 1) / 2
unfolding quarter_s of_bits
quarter_of t = refl

pub sinpi_is : (x : Float) → sinpi_s x ≡ reduced sine cosine x
unfolding sinpi_s of_bits
sinpi_is x = refl

-- what lies from 1/2 to 2 is above zero
pub half_above : (k : Float) → In half two k → T (positive k)
half_above k i = between half k two (unfold of_bits in tt) (unfold of_bits in tt) i.0 i.1

abbrev pub least : Float
least = bits 0x3B90000000000000

-- 2 ^ -70 ≤ m * 2 ^ e, in whole numbers
from_least : (m : ℕ) (e : ℤ) → T (le least (fin false m e)) → down e ≤ m * up e * 2 ^ 70
unfolding of_bits
from_least m e h = power_below 69 m e h

grid_above : (J : ℕ) → low binary64 < prec binary64 + J + 70 → 0 < J
grid_above J h = omega (arith, h)

-- k_sin and k_cos are above zero, whatever their argument's least size: it is one unit at least
kernels : Kernels sine cosine (λ (r : Float). T (positive r)) (fin false 1 (negsuc 1073))
kernels = kernels64 (λ (r : Float). T (positive r)) (fin false 1 (negsuc 1073)) (λ r F a. (sin_range r F a.0 a.1).2) half_above

signs : (m : ℕ) (e : ℤ) → T (fits binary64 (fin false m e)) → T (le least (fin false m e)) → (m * up e % down e ≡ 0 → ⊥)
    → Signs (λ (r : Float). T (positive r)) (sinpi_s (fin false m e)) (m * up e / down e)
signs m e F h w =
    subst (λ (r : Float). Signs (λ (r : Float). T (positive r)) r (m * up e / down e)) (sym (sinpi_is (fin false m e)))
    (by_whole_part sine cosine (λ (r : Float). T (positive r)) (fin false 1 (negsuc 1073)) kernels 1 (refl, refl) (pow_pos 0) m e 70 F (from_least m e h)
    (λ (J : ℕ) (k : low binary64 < prec binary64 + J + 70). (grid_above J k, pow_pos J)) w)

-- x is no whole number, and its whole part is even
pub sinpi_even : (m : ℕ) (e : ℤ) → T (fits binary64 (fin false m e)) → T (le least (fin false m e)) → (m * up e % down e ≡ 0 → ⊥)
    → m * up e / down e % 2 ≡ 0 → T (positive (sinpi_s (fin false m e)))
sinpi_even m e F h w = (signs m e F h w).0

-- x is no whole number, and its whole part is odd
pub sinpi_odd : (m : ℕ) (e : ℤ) → T (fits binary64 (fin false m e)) → T (le least (fin false m e)) → (m * up e % down e ≡ 0 → ⊥)
    → m * up e / down e % 2 ≡ 1 → T (positive (neg (sinpi_s (fin false m e))))
sinpi_odd m e F h w = (signs m e F h w).1

-- ---- whole numbers: x mod 2 is 0 or 1, and so is n / 2

-- four times 0, and 1, over the format
four_zero : (f : Format) → HasValue (mul f (fin false 1 (pos 2)) zero+) false 0 1
unfolding mul
four_zero binary32 = (refl, refl)
four_zero binary64 = (refl, refl)

four_one : (f : Format) → HasValue (mul f (fin false 1 (pos 2)) one+) false 4 1
unfolding mul
four_one binary32 = (refl, refl)
four_one binary64 = (refl, refl)

-- n of such a t
quarter_at : (f : Format) (t : Float) (d : ℕ) → HasValue (mul f (fin false 1 (pos 2)) t) false d 1 → d / 1 < 2 ^ 31
    → (nat_abs (whole_s (mul f (fin false 1 (pos 2)) t)) + 1) / 2 ≡ (d / 1 + 1) / 2
quarter_at f t d v h = ap (λ (z : ℤ). (nat_abs z + 1) / 2) (whole_value (mul f (fin false 1 (pos 2)) t) false d 1 (pow_pos 0) v h)

-- so the kernel of the sine gets a zero, of which it gives +0
pub whole_zero : (f : Format) (sine cosine : Float → Float) → ((s : Bool) → sine (fin s 0 (pos 0)) ≡ zero+)
    → (t : Float) (n : ℕ) → n ≡ (nat_abs (whole_s (mul f (fin false 1 (pos 2)) t)) + 1) / 2 → (t ≡ zero+) ⊎ (t ≡ one+)
    → case sine cosine n (folded t n ⊗ PI) ≡ zero+
unfolding add sub mul neg of_int of_bits
whole_zero f sine cosine zeros t n e (inl z) = rw (e, z, quarter_at f zero+ 0 (four_zero f) (lit< tt)) (zeros false)
whole_zero f sine cosine zeros t n e (inr z) = rw (e, z, quarter_at f one+ 4 (four_one f) (lit< tt)) (zeros true)

-- x is a whole number
pub sinpi_whole : (m : ℕ) (e : ℤ) → T (fits binary64 (fin false m e)) → T (le least (fin false m e)) → m * up e % down e ≡ 0
    → sinpi_s (fin false m e) ≡ bits 0
unfolding of_bits
sinpi_whole m e F h w =
    let x = fin false m e in
    sinpi_is x
    ∙ whole_zero binary64 sine cosine sin_zero (turn_s x) (quarter_s (turn_s x)) (quarter_of (turn_s x))
    (rw (turn_of_is x) (whole_turn binary64 m e 70 F (from_least m e h) grid_above w))
