-- A fraction that lies within half a unit of q units, where the format's digits end at a unit, is rounded to q units. Over the format.
-- Assumes nothing.
use mathlib.Core.Path.{◌≡◌, sym, ap, ◌∙◌, subst}
use Prim.Native.Nat.{ℕ, suc, ◌+◌, ◌-◌, ◌*◌, ◌/◌, ◌^◌, ◌≤◌, ◌<◌}
use native.Mathlib.Nat.{le_trans, le_of_eq, le_antisymm, le_of_suc-le-suc, lt_of_lt_of_le, lt_of_not-le, not-le_of_lt, mul_assoc, mul_comm, mul-le-mul_right, mul-lt-mul_of_pos_right, mul-pos, add-mul, le-div_iff_mul-le, div-lt_iff_lt-mul}
use native.Mathlib.Omega.{arith}
use mathlib.Core.Bool.{Bool}
use lib.Pow.{pow-add, pow_pos, pow_mono}
use lib.Ieee.{Format, prec, low, size, round}
use lib.Ieee.Digits.{size-lt, size-le}
use lib.Ieee.Exact.{HasValue}
use lib.Ieee.Fits.{two, two-le_pos}
use lib.Ieee.Nearest.{closest}
use lib.Ieee.Order.{drop}
use lib.Ieee.Scale.{grid, overflow}
use Rattle.rounding.proofs.Error.{closest_near, round_value}

-- ---- n / u within a half of q
pub closest_is : (n u q : ℕ) → 0 < u → 2 * (q * u) < 2 * n + u → 2 * n < 2 * (q * u) + u → closest n u ≡ q
closest_is n u q U a b =
    let near = closest_near n u U in
    le_antisymm
    (le_of_suc-le-suc (lt_of_not-le (λ h. over (closest n u) near.0 h)))
    (le_of_suc-le-suc (lt_of_not-le (λ h. under (closest n u) near.1 h)))
  where
    over : (c : ℕ) → 2 * (c * u) ≤ 2 * n + u → suc q ≤ c → ⊥
    over c h l = let p = mul-le-mul_right u l in omega arith

    under : (c : ℕ) → 2 * n ≤ 2 * (c * u) + u → suc c ≤ q → ⊥
    under c h l = let p = mul-le-mul_right u l in omega arith

-- ---- a / c, which in a format of p digits drops k of them
size_gt : (n j : ℕ) → 2 ^ j ≤ n → j < size n
size_gt n j h = lt_of_not-le (λ (g : size n ≤ j). not-le_of_lt (lt_of_lt_of_le (size-lt n) (pow_mono g)) h)

drops : (p n c k : ℕ) → 0 < p → 0 < c → 2 ^ (p - 1) * (c * 2 ^ k) ≤ n → n < 2 ^ p * (c * 2 ^ k) → drop p n c ≡ k
drops p n c k P C a b =
    both (size (n / c)) p k P
    (size_gt (n / c) (p - 1 + k) ((le-div_iff_mul-le C).1 (le_trans (le_of_eq (tidy (p - 1))) a)))
    (size-le (n / c) (p + k) ((div-lt_iff_lt-mul C).1 (lt_of_lt_of_le b (le_of_eq (sym (tidy p))))))
  where
    tidy : (j : ℕ) → 2 ^ (j + k) * c ≡ 2 ^ j * (c * 2 ^ k)
    tidy j = ap (λ (z : ℕ). z * c) (pow-add 2 j k) ∙ mul_assoc (2 ^ j) (2 ^ k) c ∙ ap (λ (z : ℕ). 2 ^ j * z) (mul_comm (2 ^ k) c)

    both : (z p k : ℕ) → 0 < p → p - 1 + k < z → z ≤ p + k → z - p ≡ k
    both z p k P a b = omega arith

-- The unit, 2 ^ k smallest values of the format, is w / c: a / c is a / w units. It has as many digits as the format keeps.
pub round_near : (f : Format) (s : Bool) (a c q k w : ℕ) → 0 < c → c * 2 ^ k ≡ w * 2 ^ low f → 2 ^ (prec f - 1) * w ≤ a → a < 2 ^ prec f * w
    → 2 * (q * w) < 2 * a + w → 2 * a < 2 * (q * w) + w → q * 2 ^ k < overflow f → HasValue (round f s a c) s (q * 2 ^ k) (2 ^ low f)
round_near f s a c q k w C e lo hi under over fine =
    subst (λ (z : ℕ). HasValue (round f s a c) s z (2 ^ low f)) value (round_value f s a c (subst (λ (z : ℕ). z < overflow f) (sym value) fine))
  where
    L : ℕ
    L = 2 ^ low f

    L_pos : 0 < L
    L_pos = pow_pos (low f)

    -- the same in smallest values
    u : w * L ≡ c * 2 ^ k
    u = sym e

    scale : (x : ℕ) → x * w * L ≡ x * (c * 2 ^ k)
    scale x = mul_assoc x w L ∙ ap (λ (z : ℕ). x * z) u

    k_is : drop (prec f) (a * L) c ≡ k
    k_is =
        drops (prec f) (a * L) c k (two-le_pos (prec f) (two f)) C
        (le_trans (le_of_eq (sym (scale (2 ^ (prec f - 1))))) (mul-le-mul_right L lo))
        (lt_of_lt_of_le (mul-lt-mul_of_pos_right hi L_pos) (le_of_eq (scale (2 ^ prec f))))

    u_pos : 0 < c * 2 ^ k
    u_pos = mul-pos C (pow_pos k)

    grown : (A B w L : ℕ) → 0 < L → A < B + w → A * L < B * L + w * L
    grown A B w L l h = lt_of_lt_of_le (mul-lt-mul_of_pos_right h l) (le_of_eq (add-mul B w L))

    tidy_q : 2 * (q * w) * L ≡ 2 * (q * (c * 2 ^ k))
    tidy_q = mul_assoc 2 (q * w) L ∙ ap (λ (z : ℕ). 2 * z) (scale q)

    q_is : closest (a * L) (c * 2 ^ k) ≡ q
    q_is =
        closest_is (a * L) (c * 2 ^ k) q u_pos
        (subst (λ (z : ℕ). z < 2 * (a * L) + c * 2 ^ k) tidy_q
        (subst (λ (z : ℕ). 2 * (q * w) * L < z + c * 2 ^ k) (mul_assoc 2 a L)
        (subst (λ (z : ℕ). 2 * (q * w) * L < 2 * a * L + z) u (grown (2 * (q * w)) (2 * a) w L L_pos under))))
        (subst (λ (z : ℕ). 2 * (a * L) < z + c * 2 ^ k) tidy_q
        (subst (λ (z : ℕ). z < 2 * (q * w) * L + c * 2 ^ k) (mul_assoc 2 a L)
        (subst (λ (z : ℕ). 2 * a * L < 2 * (q * w) * L + z) u (grown (2 * a) (2 * (q * w)) w L L_pos over))))

    value : grid f a c ≡ q * 2 ^ k
    value = ap (λ (z : ℕ). closest (a * L) (c * 2 ^ z) * 2 ^ z) k_is ∙ ap (λ (z : ℕ). z * 2 ^ k) q_is
