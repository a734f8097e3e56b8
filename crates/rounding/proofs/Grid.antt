-- The grid of a format: its finite values are whole numbers of its smallest unit, 2 ^ - low, with few digits.
--   `on-grid`: a value m * 2 ^ e that fits is m * 2 ^ j units, with m below 2 ^ prec;
--   `spare`: for a value of 2 ^ - n or more that j is above low - prec - n, so it can be halved j times before a digit is lost.
-- Assumes nothing.
use mathlib.Core.Path.{◌≡◌, sym, ap, ◌∙◌}
use Prim.Native.Nat.{ℕ, zero, suc, ◌+◌, ◌-◌, ◌*◌, ◌^◌, ◌≤◌, ◌<◌, ◌%◌}
use native.Mathlib.Nat.{le_of_eq, lt_of_le_of_lt, lt_of_lt_of_le, lt_of_not-le, not-le_of_lt}
use native.Mathlib.Nat.{mul-mod_left, zero-mul, one-mul, mul-one, mul_comm, mul_assoc, mul_right_comm}
use native.Mathlib.Nat.{mul-le-mul_right, mul-lt-mul_of_pos_right, lt_of_mul-lt-mul_right}
use native.Mathlib.Omega.{arith}
use mathlib.Core.Bool.{Bool, ◌&&◌}
use lib.IntN.{ℤ, pos, negsuc}
use lib.Dec.{T, leb, ltb, eqb, ltb→lt, leb→le}
use lib.Pow.{pow-add, pow_pos, pow-lt, pow_mono}
use lib.Ieee.{fin, Format, prec, emax, low, up, down, fits}
use lib.Ieee.Digits.{back}
use lib.Ieee.Fits.{down_pos, and_l, and_r}

-- m * 2 ^ e is m * 2 ^ j units, m has at most prec digits, and the value is no infinity
abbrev pub OnGrid : Format → ℕ → ℤ → ℕ → Type 0
OnGrid f m e j = (m * up e * 2 ^ low f ≡ m * 2 ^ j * down e) × (m < 2 ^ prec f) × (m * 2 ^ j < 2 ^ (low f + suc (emax f)))

-- ---- what `fits` says
four : (a b c d : Bool) → T (a && b && c && d) → T b × T c × T d
four a b c d t =
    let u = and_l (a && b && c) d t in
    (and_r a b (and_l (a && b) c u), and_r (a && b) c u, and_r (a && b && c) d t)

fits_open : (f : Format) (s : Bool) (m : ℕ) (e : ℤ) → T (fits f (fin s (suc m) e))
    → (suc m < 2 ^ prec f) × (down e ≤ 2 ^ low f) × (suc m * up e < 2 ^ suc (emax f) * down e)
unfolding fits
fits_open f s m e t =
    let k =
    four (eqb (suc m % 2) 1) (ltb (suc m) (2 ^ prec f)) (leb (down e) (2 ^ low f)) (ltb (suc m * up e) (2 ^ suc (emax f) * down e)) t in
    (ltb→lt (suc m) (2 ^ prec f) k.0, leb→le (down e) (2 ^ low f) k.1, ltb→lt (suc m * up e) (2 ^ suc (emax f) * down e) k.2)

-- ---- exponents, and the bound against overflow
-- a power of 2 below another has the smaller exponent
pub pow_cancel_lt : (a b : ℕ) → 2 ^ a < 2 ^ b → a < b
pow_cancel_lt a b h = lt_of_not-le (λ (g : b ≤ a). not-le_of_lt h (pow_mono g))

-- a multiple of 2 ^ l leaves no remainder by 2 ^ l
pub pow_multiple : (d x l : ℕ) → l ≤ x → d * 2 ^ x % 2 ^ l ≡ 0
pow_multiple d x l h =
    ap (λ (n : ℕ). d * 2 ^ n % 2 ^ l) (sym (back x l h))
    ∙ ap (λ (n : ℕ). d * n % 2 ^ l) (pow-add 2 (x - l) l)
    ∙ ap (λ (n : ℕ). n % 2 ^ l) (sym (mul_assoc d (2 ^ (x - l)) (2 ^ l)))
    ∙ mul-mod_left (d * 2 ^ (x - l)) (2 ^ l)

pow_cancel_le : (a b : ℕ) → 2 ^ a ≤ 2 ^ b → a ≤ b
pow_cancel_le a b h = let k = pow_cancel_lt a (suc b) (lt_of_le_of_lt h (pow-lt (next b))) in omega arith
  where
    next : (b : ℕ) → b < suc b
    next b = omega arith

-- 2 ^ e is 2 ^ j units
exponent : (f : Format) (e : ℤ) → down e ≤ 2 ^ low f → (j : ℕ) × (up e * 2 ^ low f ≡ 2 ^ j * down e)
exponent f (pos k) h = (k + low f, sym (pow-add 2 k (low f)) ∙ sym (mul-one (2 ^ (k + low f))))
exponent f (negsuc k) h =
    let g : low f - suc k + suc k ≡ low f = back (low f) (suc k) (pow_cancel_le (suc k) (low f) h) in
    (low f - suc k, one-mul (2 ^ low f) ∙ ap (λ (z : ℕ). 2 ^ z) (sym g) ∙ pow-add 2 (low f - suc k) (suc k))

top_is : (f : Format) → 2 ^ suc (emax f) * 2 ^ low f ≡ 2 ^ (low f + suc (emax f))
top_is f = mul_comm (2 ^ suc (emax f)) (2 ^ low f) ∙ sym (pow-add 2 (low f) (suc (emax f)))

below_top : (M u D U O E J : ℕ) → M * u < E * D → M * u * U ≡ M * J * D → 0 < U → E * U ≡ O → M * J < O
below_top M u D U O E J h e U0 o =
    lt_of_mul-lt-mul_right D
    (lt_of_le_of_lt (le_of_eq (sym e))
    (lt_of_lt_of_le (mul-lt-mul_of_pos_right h U0) (le_of_eq (mul_right_comm E D U ∙ ap (λ (z : ℕ). z * D) o))))

-- ---- the laws

-- a value that fits is on the grid
pub on_grid : (f : Format) (s : Bool) (m : ℕ) (e : ℤ) → T (fits f (fin s m e)) → (j : ℕ) × OnGrid f m e j
on_grid f s zero e t =
    let z : 0 * up e * 2 ^ low f ≡ 0 * 2 ^ 0 * down e =
    ap (λ (z : ℕ). z * 2 ^ low f) (zero-mul (up e)) ∙ zero-mul (2 ^ low f) ∙ sym (zero-mul (down e)) in
    (0, (z, pow_pos (prec f), pow_pos (low f + suc (emax f))))
on_grid f s (suc m) e t =
    let o = fits_open f s m e t in
    let x = exponent f e o.1 in
    let g : suc m * up e * 2 ^ low f ≡ suc m * 2 ^ x.0 * down e =
    mul_assoc (suc m) (up e) (2 ^ low f) ∙ ap (λ (z : ℕ). suc m * z) x.1 ∙ sym (mul_assoc (suc m) (2 ^ x.0) (down e)) in
    let below =
    below_top (suc m) (up e) (down e) (2 ^ low f) (2 ^ (low f + suc (emax f))) (2 ^ suc (emax f)) (2 ^ x.0)
    o.2 g (pow_pos (low f)) (top_is f) in
    (x.0, (g, o.0, below))

-- a value of 2 ^ - n or more has digits to spare: its j is above low - prec - n
pub spare : (f : Format) (m : ℕ) (e : ℤ) (j n : ℕ) → OnGrid f m e j → down e ≤ m * up e * 2 ^ n → low f < prec f + j + n
spare f m e j n g h =
    pow_cancel_lt (low f) (prec f + j + n)
    (lt_of_mul-lt-mul_right (down e)
    (lt_of_le_of_lt (le_of_eq (mul_comm (2 ^ low f) (down e)))
    (lt_of_le_of_lt (mul-le-mul_right (2 ^ low f) h)
    (lt_of_le_of_lt (le_of_eq (mul_right_comm (m * up e) (2 ^ n) (2 ^ low f) ∙ ap (λ (z : ℕ). z * 2 ^ n) g.0))
    (lt_of_lt_of_le
    (mul-lt-mul_of_pos_right (mul-lt-mul_of_pos_right (mul-lt-mul_of_pos_right g.1 (pow_pos j)) (down_pos e)) (pow_pos n))
    (le_of_eq (mul_right_comm (2 ^ prec f * 2 ^ j) (down e) (2 ^ n)
    ∙ ap (λ (z : ℕ). z * 2 ^ n * down e) (sym (pow-add 2 (prec f) j))
    ∙ ap (λ (z : ℕ). z * down e) (sym (pow-add 2 (prec f + j) n)))))))))
