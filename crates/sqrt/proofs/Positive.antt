-- sqrt at a positive number: the pattern that has the nearest whole number q to the root of A * 2 ^ 52 for its digits. Assumes nothing.
use mathlib.Core.Path.{◌≡◌, refl, sym, ap, ◌∙◌, subst}
use Prim.Native.Nat.{ℕ, zero, suc, ◌+◌, ◌-◌, ◌*◌, ◌/◌, ◌%◌, ◌^◌, ◌≤◌, ◌<◌}
use native.Mathlib.Nat.{le_of_eq, le_of_suc-le-suc, lt_of_not-le, lt_of_le_of_lt, lt_of_lt_of_le, lt_irrefl, mul_assoc, mul-le-mul, mul-le-mul_right, mul-lt-mul_of_pos_right, mul-pos, zero-mul, zero-lt-suc, mul-div_cancel, eq_of_mul-eq-mul_right}
use native.Mathlib.Omega.{arith}
use mathlib.Core.Bool.{true, false, true≢false}
use lib.IntN.{ℤ}
use lib.Dec.{T, lit<}
use lib.Pow.{pow-add, pow_pos, pow_mono, pow-lt}
use lib.Ieee.{Float, nan, inf, fin, binary64, up, down, round, of_bits, fits}
use lib.Ieee.Bits.{of_bits-fits}
use lib.Ieee.Exact.{HasValue}
use lib.Ieee.Fits.{down_pos, round-fits}
use lib.Ieee.Scale.{overflow}
use Rattle.rounding.proofs.BitOrder.{bit_val, endless, bits_val}
use Rattle.words.proofs.PatternLaws.{carried, same_value}
use Rattle.sqrt.specs.Sqrt.{root, sqrt_s}
use Rattle.sqrt.proofs.Root.{root_is}
use Rattle.sqrt.proofs.Rounded.{round_near}
use Rattle.sqrt.proofs.Halves.{halves, half_under, half_over, digits_from, digits_under}

-- ---- the definition at m * 2 ^ e, with X / D for that
rounded : ℕ → Float
rounded n = round binary64 false (halves n (root n)) (2 * 2 ^ 601)

at_positive : (m : ℕ) (e : ℤ) → sqrt_s (fin false (suc m) e) ≡ rounded (suc m * up e * 4 ^ 601 / down e)
unfolding sqrt_s rounded
at_positive m e = refl

pub positive_fits : (m : ℕ) (e : ℤ) → T (fits binary64 (sqrt_s (fin false (suc m) e)))
unfolding rounded
positive_fits m e =
    let n = suc m * up e * 4 ^ 601 / down e in
    subst (λ (z : Float). T (fits binary64 z)) (sym (at_positive m e)) (round-fits binary64 false (halves n (root n)) (2 * 2 ^ 601))

-- n is A * 2 ^ 52 squares of 2 * 2 ^ h
scaled_n : (X D A G a b c s : ℕ) → 0 < b → 0 < D → c * c ≡ s * 4 * b → X * (a * b) ≡ A * (G * c * (G * c)) * D → X * a / D ≡ A * s * (2 * G * (2 * G))
scaled_n X D A G a b c s B d C e =
    ap (λ (z : ℕ). z / D) (eq_of_mul-eq-mul_right b B (X * a) (A * s * (2 * G * (2 * G)) * D) (left ∙ e ∙ middle ∙ ap (λ (z : ℕ). A * (G * G) * D * z) C ∙ right))
    ∙ mul-div_cancel (A * s * (2 * G * (2 * G))) d
  where
    left : X * a * b ≡ X * (a * b)
    left = omega arith

    middle : A * (G * c * (G * c)) * D ≡ A * (G * G) * D * (c * c)
    middle = omega arith

    right : A * (G * G) * D * (s * 4 * b) ≡ A * s * (2 * G * (2 * G)) * D * b
    right = omega arith

-- ---- q has 53 digits
from : (K M q : ℕ) → K * K ≤ M → M ≤ q * q + q → K ≤ q
from K M q a b = le_of_suc-le-suc (lt_of_not-le (λ g. no (mul-le-mul g g)))
  where
    no : suc q * suc q ≤ K * K → ⊥
    no g = omega arith

pub upto : (K M q : ℕ) → M < K * K → q * q < M + q → q ≤ K
upto K M zero a b = omega arith
upto K M (suc p) a b = lt_of_not-le (λ (g : K ≤ p). no (mul-le-mul g g))
  where
    no : K * K ≤ p * p → ⊥
    no g = omega arith

-- x is A * 2 ^ 2 (h + 475) / 2 ^ 2098
abbrev pub AtEven : Float → ℕ → ℕ → Type 0
AtEven x A h = HasValue x false (A * (2 ^ (h + 475) * 2 ^ (h + 475))) (2 ^ 2098)

module _ (A h q : ℕ) (lo : 2 ^ 52 ≤ A) (hi : A < 2 ^ 54) (small : h < 1100) (below : q * q < A * 2 ^ 52 + q) (above : A * 2 ^ 52 ≤ q * q + q) where
  pub long : 2 ^ 52 * 2 ^ 52 ≤ A * 2 ^ 52
  long = mul-le-mul_right (2 ^ 52) lo

  short : A * 2 ^ 52 < 2 ^ 53 * 2 ^ 53
  short = mul-lt-mul_of_pos_right hi (pow_pos 52)

  pub q_from : 2 ^ 52 ≤ q
  q_from = from (2 ^ 52) (A * 2 ^ 52) q long above

  q_upto : q ≤ 2 ^ 53
  q_upto = upto (2 ^ 53) (A * 2 ^ 52) q short below

  fine : q * 2 ^ (h + 474) < overflow binary64
  fine =
      lt_of_le_of_lt (mul-le-mul q_upto (pow_mono {i = h + 474} {j = 1574} (let k = small in omega arith)))
      (lt_of_le_of_lt (le_of_eq (sym (pow-add 2 53 1574))) (pow-lt {i = 53 + 1574} {j = 1074 + 1024} (lit< tt)))

  -- ---- the rounded root
  module _ (n : ℕ) (e : n ≡ A * 2 ^ 52 * (2 * 2 ^ h * (2 * 2 ^ h))) where
    unit : 2 * 2 ^ 601 * 2 ^ (h + 474) ≡ 4 * 2 ^ h * 2 ^ 1074
    unit = ap (λ (z : ℕ). 2 * 2 ^ 601 * z) (pow-add 2 h 474) ∙ turn (2 ^ 601) (2 ^ h) (2 ^ 474) ∙ ap (λ (z : ℕ). 2 ^ h * z) refl ∙ back (2 ^ h) (2 ^ 1074)
      where
        turn : (a g b : ℕ) → 2 * a * (g * b) ≡ g * (2 * (a * b))
        turn a g b = omega arith

        back : (g z : ℕ) → g * (4 * z) ≡ 4 * g * z
        back g z = omega arith

    rounded_value : HasValue (rounded n) false (q * 2 ^ (h + 474)) (2 ^ 1074)
    unfolding rounded
    rounded_value =
        let r = root_is n in
        round_near binary64 false (halves n (root n)) (2 * 2 ^ 601) q (h + 474) (4 * 2 ^ h) (mul-pos (zero-lt-suc 1) (pow_pos 601)) unit
        (digits_from n (A * 2 ^ 52) (2 ^ h) (2 ^ 52) (root n) (pow_pos h) e r long)
        (digits_under n (A * 2 ^ 52) (2 ^ h) (2 ^ 53) (root n) (pow_pos h) e r short)
        (half_under n (A * 2 ^ 52) (2 ^ h) q (root n) (pow_pos h) e r below)
        (half_over n (A * 2 ^ 52) (2 ^ h) q (root n) (pow_pos h) e r above)
        fine

  -- ---- the pattern of q * 2 ^ (h + 474) smallest values
  pattern_lt : (h + 474) * 2 ^ 52 + q < endless binary64
  pattern_lt = let k = small in let l = q_upto in omega arith

  pattern_value : HasValue (of_bits binary64 ((h + 474) * 2 ^ 52 + q)) false (q * 2 ^ (h + 474)) (2 ^ 1074)
  pattern_value =
      subst (λ (z : ℕ). HasValue (of_bits binary64 ((h + 474) * 2 ^ 52 + q)) false z (2 ^ 1074))
      (ap (bit_val binary64) field ∙ carried (2 ^ 52) (h + 474) (q - 2 ^ 52) (pow_pos 52) rest ∙ ap (λ (z : ℕ). z * 2 ^ (h + 474)) whole)
      (bits_val binary64 ((h + 474) * 2 ^ 52 + q) pattern_lt)
    where
      field : (h + 474) * 2 ^ 52 + q ≡ suc (h + 474) * 2 ^ 52 + (q - 2 ^ 52)
      field = let k = q_from in omega arith

      rest : q - 2 ^ 52 ≤ 2 ^ 52
      rest = let k = q_upto in omega arith

      whole : 2 ^ 52 + (q - 2 ^ 52) ≡ q
      whole = let k = q_from in omega arith

  -- ---- both are the root of an x
  pub root_value : (x : Float) → AtEven x A h → HasValue (sqrt_s x) false (q * 2 ^ (h + 474)) (2 ^ 1074) × T (fits binary64 (sqrt_s x))
  unfolding rounded
  root_value nan v = absurd v
  root_value (inf s) v = absurd v
  root_value (fin true m e) v = absurd (true≢false v.0)
  root_value (fin false zero e) v = absurd (none (A * (2 ^ (h + 475) * 2 ^ (h + 475)) * down e) (mul-pos (mul-pos (lt_of_lt_of_le (pow_pos 52) lo) (mul-pos (pow_pos (h + 475)) (pow_pos (h + 475)))) (down_pos e)) v.1)
    where
      none : (z : ℕ) → 0 < z → 0 * up e * 2 ^ 2098 ≡ z → ⊥
      none z p g = lt_irrefl 0 (subst (λ (y : ℕ). 0 < y) (sym g ∙ ap (λ (y : ℕ). y * 2 ^ 2098) (zero-mul (up e)) ∙ zero-mul (2 ^ 2098)) p)
  root_value (fin false (suc m) e) v =
      let n = suc m * up e * 4 ^ 601 / down e in
      let n_is : n ≡ A * 2 ^ 52 * (2 * 2 ^ h * (2 * 2 ^ h)) =
      scaled_n (suc m * up e) (down e) A (2 ^ h) (4 ^ 601) (2 ^ 896) (2 ^ 475) (2 ^ 52) (pow_pos 896) (down_pos e) refl
      (subst (λ (z : ℕ). suc m * up e * 2 ^ 2098 ≡ A * (z * z) * down e) (pow-add 2 h 475) v.1) in (
        subst (λ (z : Float). HasValue z false (q * 2 ^ (h + 474)) (2 ^ 1074)) (sym (at_positive m e)) (rounded_value n n_is),
        positive_fits m e,
      )

  pub root_pattern : (x : Float) → AtEven x A h → of_bits binary64 ((h + 474) * 2 ^ 52 + q) ≡ sqrt_s x
  root_pattern x v =
      let y = root_value x v in
      same_value binary64 (of_bits binary64 ((h + 474) * 2 ^ 52 + q)) (sqrt_s x) false (q * 2 ^ (h + 474)) (2 ^ 1074) (pow_pos 1074)
      (of_bits-fits binary64 ((h + 474) * 2 ^ 52 + q)) y.1 pattern_value y.0

-- ---- x = m * 2 ^ b / 2 ^ 2098 has an even exponent, once an odd b has given one 2 to m
pub even_part : (m b : ℕ) → b % 2 ≡ 0 → m * 2 ^ b ≡ m * (2 ^ (b / 2) * 2 ^ (b / 2))
even_part m b e =
    ap (λ (z : ℕ). m * 2 ^ z) (let k : b ≡ b / 2 + b / 2 = omega arith in k) ∙ ap (λ (z : ℕ). m * z) (pow-add 2 (b / 2) (b / 2))

pub odd_part : (m b : ℕ) → (b % 2 ≡ 0 → ⊥) → m * 2 ^ b ≡ m * 2 * (2 ^ (b / 2) * 2 ^ (b / 2))
odd_part m b n =
    ap (λ (z : ℕ). m * 2 ^ z) (let k : b ≡ 1 + (b / 2 + b / 2) = omega arith in k)
    ∙ ap (λ (z : ℕ). m * z) (pow-add 2 1 (b / 2 + b / 2) ∙ ap (λ (z : ℕ). 2 * z) (pow-add 2 (b / 2) (b / 2)))
    ∙ sym (mul_assoc m 2 (2 ^ (b / 2) * 2 ^ (b / 2)))

pub at_even : (x : Float) (N b A : ℕ) → HasValue x false N (2 ^ 2098) → N ≡ A * (2 ^ (b / 2) * 2 ^ (b / 2)) → 950 ≤ b → AtEven x A (b / 2 - 475)
at_even x N b A v e from =
    let up : b / 2 - 475 + 475 ≡ b / 2 = omega arith in
    subst (λ (z : ℕ). HasValue x false (A * (2 ^ z * 2 ^ z)) (2 ^ 2098)) (sym up) (subst (λ (z : ℕ). HasValue x false z (2 ^ 2098)) e v)

pub root_at : (x : Float) (N b A q : ℕ) → HasValue x false N (2 ^ 2098) → N ≡ A * (2 ^ (b / 2) * 2 ^ (b / 2)) → 972 ≤ b → b < 3070 → 2 ^ 52 ≤ A → A < 2 ^ 54
    → (q * q < A * 2 ^ 52 + q) × (A * 2 ^ 52 ≤ q * q + q) → of_bits binary64 ((b / 2 - 1) * 2 ^ 52 + q) ≡ sqrt_s x
root_at x N b A q v e from upto lo hi near =
    let down : b / 2 - 475 + 474 ≡ b / 2 - 1 = omega arith in
    subst (λ (z : ℕ). of_bits binary64 (z * 2 ^ 52 + q) ≡ sqrt_s x) down
    (root_pattern A (b / 2 - 475) q lo hi (omega arith) near.0 near.1 x (at_even x N b A v e (omega arith)))
