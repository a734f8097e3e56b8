-- The reduction of sinpi, exactly, over the format. L = 2 ^ low smallest units are 1; x, with no minus sign, is X = m * 2 ^ (j + 1) units. Then x mod 2
-- is X mod 2 L units (`turn_value`, `turn_is`), the whole part of four times that is its quotient (`quarter_value`), and x mod 2 less n / 2 is exact too
-- (`fold_down`, `fold_up`).
-- L stays a variable in the arithmetic: its numeral is too long for `omega`. Assumes nothing.
use mathlib.Core.Path.{◌≡◌, refl, sym, ap, ◌∙◌, subst}
use Prim.Native.Nat.{ℕ, suc, ◌+◌, ◌-◌, ◌*◌, ◌/◌, ◌%◌, ◌^◌, ◌≤◌, ◌<◌}
use native.Mathlib.Nat.{lt_of_le_of_lt, add_comm, add-mul, mul_comm, mul_assoc, mul_left_comm, one-mul, mul-sub, mul-le-mul_right, mul-le-mul_left, mul-lt-mul_of_pos_right, div-add-mod', mod-lt, mod-le, mod-eq_of_lt, add-mul-mod_self_right, div-lt_iff_lt-mul, pow-succ', le_of_mul-le-mul_right}
use native.Mathlib.Omega.{arith}
use mathlib.Core.Bool.{true, false}
use lib.IntN.{pos, negsuc, nat_abs}
use lib.Pow.{pow_pos, pow-add, pow_mono}
use lib.Dec.{lit≤}
use lib.Ieee.{Float, fin, Format, binary32, binary64, prec, emax, low, mul, sub}
use lib.Ieee.Exact.{HasValue}
use lib.Ieee.Digits.{back}
use Rattle.rounding.proofs.Signed.{value_longer}
use Rattle.rounding.proofs.Exact.{mul_pow_exact, half_exact, sub_exact, sub_exact_neg}
use Rattle.floor.specs.Floor.{floor_s}
use Rattle.whole.specs.Whole.{whole_s}
use Rattle.floor.proofs.FloorValues.{floor_plus}
use Rattle.whole.proofs.WholeLaws.{whole_value}

-- ---- numbers
pub mod_unique : (n k M r : ℕ) → n ≡ r + k * M → r < M → n % M ≡ r
mod_unique n k M r e h = ap (λ (z : ℕ). z % M) e ∙ add-mul-mod_self_right r k M ∙ mod-eq_of_lt h

-- a common factor of a number and a divisor is one of the remainder
pub mod_scale : (m c g : ℕ) → 0 < c → 0 < g → m * g % (c * g) ≡ m % c * g
mod_scale m c g C G =
    mod_unique (m * g) (m / c) (c * g) (m % c * g)
    (ap (λ (z : ℕ). z * g) (sym (div-add-mod' m c)) ∙ spread (m / c) c (m % c) g)
    (mul-lt-mul_of_pos_right (mod-lt m C) G)
  where
    spread : (a c r g : ℕ) → (a * c + r) * g ≡ r * g + a * (c * g)
    spread a c r g = add-mul (a * c) r g ∙ add_comm (a * c * g) (r * g) ∙ ap (λ (z : ℕ). r * g + z) (mul_assoc a c g)

minus_part : (a b r : ℕ) → b + r ≡ a → a - b ≡ r
minus_part a b r h = omega arith

part_le : (a b r : ℕ) → b + r ≡ a → b ≤ a
part_le a b r h = omega arith

sub_le : (a b : ℕ) → a - b ≤ a
sub_le a b = omega arith

-- ---- x mod 2
abbrev pub half+ : Float
half+ = fin false 1 (negsuc 0)

-- 2 (x / 2 - floor (x / 2))
abbrev pub turn_of : Format → Float → Float
turn_of f x = mul f (fin false 1 (pos 1)) (sub f (mul f x half+) (floor_s f (mul f x half+)))

grow : (m j K : ℕ) → m * 2 ^ suc j < K → m * 2 ^ j < K
grow m j K h = lt_of_le_of_lt (mul-le-mul_left m (pow_mono (step j))) h
  where
    step : (j : ℕ) → j ≤ suc j
    step j = omega arith

-- x / 2 is exact
pub half_value : (f : Format) (x : Float) (m j : ℕ) → HasValue x false (m * 2 ^ suc j) (2 ^ low f) → m < 2 ^ prec f
    → m * 2 ^ suc j < 2 ^ (low f + suc (emax f)) → HasValue (mul f x half+) false (m * 2 ^ j) (2 ^ low f)
half_value f x m j v small fine =
    half_exact f x false (m * 2 ^ j) j
    (subst (λ (z : ℕ). HasValue x false z (2 ^ low f)) (ap (λ (z : ℕ). m * z) (pow-succ' 2 j ∙ mul_comm 2 (2 ^ j)) ∙ sym (mul_assoc m (2 ^ j) 2)) v)
    (m, refl, small, grow m j (2 ^ (low f + suc (emax f))) fine)

-- the fraction of x / 2, in multiples of 2 ^ j units
abbrev pub rest_of : Format → ℕ → ℕ → ℕ
rest_of f m j = m % 2 ^ (low f - j)

four_is : (r j : ℕ) → 4 * (r * 2 ^ suc j) ≡ r * 2 ^ suc (suc (suc j))
four_is r j =
    mul_left_comm 4 r (2 ^ suc j)
    ∙ ap (λ (z : ℕ). r * z) (mul_assoc 2 2 (2 ^ suc j) ∙ ap (λ (z : ℕ). 2 * z) (sym (pow-succ' 2 (suc j))) ∙ sym (pow-succ' 2 (suc (suc j))))

-- four times what is below 2 is far from an overflow
fourfold : (f : Format) (Y : ℕ) → Y < 2 * 2 ^ low f → 4 * Y < 2 ^ (low f + suc (emax f))
fourfold f Y h = go Y (2 * 2 ^ low f) (2 ^ (low f + suc (emax f))) h (wide f)
  where
    wide : (f : Format) → 4 * (2 * 2 ^ low f) ≤ 2 ^ (low f + suc (emax f))
    wide binary32 = lit≤ tt
    wide binary64 = lit≤ tt

    go : (Y A O : ℕ) → Y < A → 4 * A ≤ O → 4 * Y < O
    go Y A O h k = omega arith

-- and its whole part is below 8
eighth : (Y L : ℕ) → 0 < L → Y < 2 * L → 4 * Y / L < 2 ^ 31
eighth Y L l h = far (4 * Y / L) ((div-lt_iff_lt-mul l).1 (bound Y L h))
  where
    bound : (Y L : ℕ) → Y < 2 * L → 4 * Y < 8 * L
    bound Y L h = omega arith

    far : (n : ℕ) → n < 8 → n < 2 ^ 31
    far n h = omega arith

module _ (f : Format) (x : Float) (m j : ℕ) (v : HasValue x false (m * 2 ^ suc j) (2 ^ low f)) (small : m < 2 ^ prec f) (fine : m * 2 ^ suc j < 2 ^ (low f + suc (emax f))) (deep : j ≤ low f) (few : m * 2 ^ j / 2 ^ low f < 2 ^ prec f) where
  -- L is 2 ^ (low - j) * 2 ^ j
  unit_is : 2 ^ low f ≡ 2 ^ (low f - j) * 2 ^ j
  unit_is = ap (λ (z : ℕ). 2 ^ z) (sym (back (low f) j deep)) ∙ pow-add 2 (low f - j) j

  rest_lt : rest_of f m j < 2 ^ prec f
  rest_lt = lt_of_le_of_lt (mod-le m (2 ^ (low f - j))) small

  rest_is : m * 2 ^ j % 2 ^ low f ≡ rest_of f m j * 2 ^ j
  rest_is = ap (λ (z : ℕ). m * 2 ^ j % z) unit_is ∙ mod_scale m (2 ^ (low f - j)) (2 ^ j) (pow_pos (low f - j)) (pow_pos j)

  -- a whole number n, as n * L of L units
  in_units : (y : Float) (n L : ℕ) → HasValue y false n 1 → HasValue y false (n * L) L
  in_units y n L v = subst (λ (c : ℕ). HasValue y false (n * L) c) (one-mul L) (value_longer y false n 1 L v)

  part_value : HasValue (sub f (mul f x half+) (floor_s f (mul f x half+))) false (rest_of f m j * 2 ^ j) (2 ^ low f)
  part_value =
      let A = m * 2 ^ j in
      let L = 2 ^ low f in
      let half = half_value f x m j v small fine in
      let e : A / L * L + rest_of f m j * 2 ^ j ≡ A = ap (λ (z : ℕ). A / L * L + z) (sym rest_is) ∙ div-add-mod' A L in
      let d : A - A / L * L ≡ rest_of f m j * 2 ^ j = minus_part A (A / L * L) (rest_of f m j * 2 ^ j) e in
      subst (λ (z : ℕ). HasValue (sub f (mul f x half+) (floor_s f (mul f x half+))) false z L) d
      (sub_exact f (mul f x half+) (floor_s f (mul f x half+)) A (A / L * L) j half
      (in_units (floor_s f (mul f x half+)) (A / L) L (floor_plus f (mul f x half+) A L (pow_pos (low f)) half few)) (part_le A (A / L * L) (rest_of f m j * 2 ^ j) e)
      (rest_of f m j, d, rest_lt, lt_of_le_of_lt (sub_le A (A / L * L)) (grow m j (2 ^ (low f + suc (emax f))) fine)))

  twice_rest : 2 ^ 1 * (rest_of f m j * 2 ^ j) ≡ rest_of f m j * 2 ^ suc j
  twice_rest = mul_left_comm 2 (rest_of f m j) (2 ^ j) ∙ ap (λ (z : ℕ). rest_of f m j * z) (sym (pow-succ' 2 j))

  turn_fine : rest_of f m j * 2 ^ suc j < 2 ^ (low f + suc (emax f))
  turn_fine = lt_of_le_of_lt (mul-le-mul_right (2 ^ suc j) (mod-le m (2 ^ (low f - j)))) fine

  pub turn_value : HasValue (turn_of f x) false (rest_of f m j * 2 ^ suc j) (2 ^ low f)
  turn_value =
      subst (λ (z : ℕ). HasValue (turn_of f x) false z (2 ^ low f)) twice_rest
      (mul_pow_exact f (sub f (mul f x half+) (floor_s f (mul f x half+))) (rest_of f m j * 2 ^ j) 1 (suc j) part_value
      (rest_of f m j, twice_rest, rest_lt, subst (λ (z : ℕ). z < 2 ^ (low f + suc (emax f))) (sym twice_rest) turn_fine))

  -- it is X mod 2 L
  pub turn_is : m * 2 ^ suc j % (2 * 2 ^ low f) ≡ rest_of f m j * 2 ^ suc j
  turn_is =
      ap (λ (z : ℕ). m * 2 ^ suc j % z)
      (ap (λ (z : ℕ). 2 * z) unit_is ∙ mul_left_comm 2 (2 ^ (low f - j)) (2 ^ j) ∙ ap (λ (z : ℕ). 2 ^ (low f - j) * z) (sym (pow-succ' 2 j)))
      ∙ mod_scale m (2 ^ (low f - j)) (2 ^ suc j) (pow_pos (low f - j)) (pow_pos (suc j))

  -- the whole part of four times it
  pub quarter_value : rest_of f m j * 2 ^ suc j < 2 * 2 ^ low f
      → nat_abs (whole_s (mul f (fin false 1 (pos 2)) (turn_of f x))) ≡ 4 * (rest_of f m j * 2 ^ suc j) / 2 ^ low f
  quarter_value h =
      let Y = rest_of f m j * 2 ^ suc j in
      ap nat_abs
      (whole_value (mul f (fin false 1 (pos 2)) (turn_of f x)) false (4 * Y) (2 ^ low f) (pow_pos (low f))
      (mul_pow_exact f (turn_of f x) Y 2 (suc (suc (suc j))) turn_value (rest_of f m j, four_is (rest_of f m j) j, rest_lt, fourfold f Y h))
      (eighth Y (2 ^ low f) (pow_pos (low f)) h))

  -- ---- x mod 2 less n / 2, for a c that is n / 2
  steps : ℕ → ℕ
  steps n = n * 2 ^ (low f - 1 - suc j)

  steps_is : suc j < low f → (n : ℕ) → n * 2 ^ (low f - 1) ≡ steps n * 2 ^ suc j
  unfolding steps
  steps_is h n =
      ap (λ (z : ℕ). n * z) (ap (λ (z : ℕ). 2 ^ z) (sym (behind (low f) j h)) ∙ pow-add 2 (low f - 1 - suc j) (suc j))
      ∙ sym (mul_assoc n (2 ^ (low f - 1 - suc j)) (2 ^ suc j))
    where
      behind : (l j : ℕ) → suc j < l → l - 1 - suc j + suc j ≡ l - 1
      behind l j h = omega arith

  times_minus : (a b g : ℕ) → a * g - b * g ≡ (a - b) * g
  times_minus a b g = ap (λ (z : ℕ). z - b * g) (mul_comm a g) ∙ ap (λ (z : ℕ). g * a - z) (mul_comm b g) ∙ sym (mul-sub g a b) ∙ mul_comm g (a - b)

  -- n / 2 up to x mod 2
  pub fold_down : suc j < low f → (n : ℕ) (c : Float) → HasValue c false (n * 2 ^ (low f - 1)) (2 ^ low f)
      → n * 2 ^ (low f - 1) ≤ rest_of f m j * 2 ^ suc j
      → HasValue (sub f (turn_of f x) c) false (rest_of f m j * 2 ^ suc j - n * 2 ^ (low f - 1)) (2 ^ low f)
  fold_down p n c w h =
      sub_exact f (turn_of f x) c (rest_of f m j * 2 ^ suc j) (n * 2 ^ (low f - 1)) (suc j) turn_value w h
      (rest_of f m j - steps n, ap (λ (z : ℕ). rest_of f m j * 2 ^ suc j - z) (steps_is p n) ∙ times_minus (rest_of f m j) (steps n) (2 ^ suc j), lt_of_le_of_lt (sub_le (rest_of f m j) (steps n)) rest_lt, lt_of_le_of_lt (sub_le (rest_of f m j * 2 ^ suc j) (n * 2 ^ (low f - 1))) turn_fine)

  -- n / 2 above x mod 2, by at most x mod 2
  pub fold_up : suc j < low f → (n : ℕ) (c : Float) → HasValue c false (n * 2 ^ (low f - 1)) (2 ^ low f)
      → rest_of f m j * 2 ^ suc j < n * 2 ^ (low f - 1) → n * 2 ^ (low f - 1) - rest_of f m j * 2 ^ suc j ≤ rest_of f m j * 2 ^ suc j
      → HasValue (sub f (turn_of f x) c) true (n * 2 ^ (low f - 1) - rest_of f m j * 2 ^ suc j) (2 ^ low f)
  fold_up p n c w h k =
      let e : n * 2 ^ (low f - 1) - rest_of f m j * 2 ^ suc j ≡ (steps n - rest_of f m j) * 2 ^ suc j = ap (λ (z : ℕ). z - rest_of f m j * 2 ^ suc j) (steps_is p n) ∙ times_minus (steps n) (rest_of f m j) (2 ^ suc j) in
      sub_exact_neg f (turn_of f x) c (rest_of f m j * 2 ^ suc j) (n * 2 ^ (low f - 1)) (suc j) turn_value w h
      (steps n - rest_of f m j, e, lt_of_le_of_lt (le_of_mul-le-mul_right (subst (λ (z : ℕ). z ≤ rest_of f m j * 2 ^ suc j) e k) (pow_pos (suc j))) rest_lt, lt_of_le_of_lt k turn_fine)
