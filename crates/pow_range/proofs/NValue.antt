-- n and z as numbers of the smallest unit, of which 2 ^ 1074 are 1: `z_near` says that n is within 1/2 and `slack` of z, and `t_plus` and `t_minus`
-- that the float t is n. Assumes nothing.
use Prim.Native.Nat.{ℕ, suc, ◌+◌, ◌-◌, ◌*◌, ◌/◌, ◌%◌, ◌^◌, ◌≤◌, ◌<◌}
use mathlib.Core.Bool.{true, false}
use mathlib.Core.Path.{◌≡◌, refl, sym, ap, ◌∙◌, subst}
use native.Mathlib.Omega.{arith}
use native.Mathlib.Nat.{mul_assoc, mul_comm, add-mul, mod-lt, mul-add-div_right, div-mul-le_self, lt_of_le_of_lt, mul-le-mul_right, le_trans, le_of_eq}
use lib.Pow.{pow-add, pow_pos, pow_mono}
use lib.Dec.{lit<}
use lib.Ieee.{Float, binary64, top, of_bits}
use lib.Ieee.Exact.{HasValue}
use Rattle.rounding.proofs.Signed.{value_neg}
use Rattle.rounding.proofs.BitOrder.{scaled, bit_val, endless, bits_val, bits_neg, under_top}
use Rattle.words.specs.F64.{bits}
use Rattle.words.specs.Bits.{with_high_word_s}
use Rattle.words.proofs.PatternLaws.{high_alone}
use Rattle.pow_exp.proofs.Half.{half, field, below, amount, half_le, field_ge, field_le}
use Rattle.pow_range.proofs.NearZ.{exponent, double, half_power, n_near, value_near}

-- the value of a pattern that is not subnormal
bit_value : (b x : ℕ) → b / 0x10000000000000 ≡ suc x → bit_val binary64 b ≡ (0x10000000000000 + b % 0x10000000000000) * 2 ^ x
bit_value b x e = ap (λ (k : ℕ). scaled k (b % 0x10000000000000) 0x10000000000000) e

-- 1, in the digits of a high word whose exponent is e, counted from 1/2
one_is : (e x : ℕ) → e ≤ 20 → suc x ≡ e + 0x3FE → 2 ^ 1074 ≡ 2 * 2 ^ (20 - e) * (0x100000000 * 2 ^ x)
one_is e x h k =
    let sum : 20 - e + 1 + (32 + x) ≡ 1074 = omega arith in
    ap (λ (m : ℕ). 2 ^ m) (sym sum) ∙ pow-add 2 (20 - e + 1) (32 + x)
    ∙ ap (λ (m : ℕ). m * 2 ^ (32 + x)) (double (20 - e))
    ∙ ap (λ (m : ℕ). 2 * 2 ^ (20 - e) * m) (pow-add 2 32 x)

-- the worth of the last digit of z's high word
abbrev pub last : ℕ → ℕ
last j = 0x100000000 * 2 ^ (j % 0x80000000 / 0x100000 - 1)

module _ (j : ℕ) (low : 0x3FE00000 < j % 0x80000000) (high : j % 0x80000000 ≤ 0x4090CC00) where
  one_in_digits : 2 ^ 1074 ≡ 2 * half j * last j
  one_in_digits =
      let x = j % 0x80000000 / 0x100000 - 1 in
      let s : suc x ≡ exponent j + 0x3FE = omega arith in
      one_is (exponent j) x (omega arith) s ∙ ap (λ (h : ℕ). 2 * h * last j) (sym (half_power j low high))

  pub slack : 512 * (2 * last j) ≤ 2 ^ 1074
  slack =
      let e : 9 ≤ 20 - exponent j = omega arith in
      let h : 512 ≤ half j = le_trans (pow_mono e) (le_of_eq (sym (half_power j low high))) in
      le_trans (mul-le-mul_right (2 * last j) h) (le_of_eq (turn (half j) (last j) ∙ sym one_in_digits))
    where
      turn : (h W : ℕ) → h * (2 * W) ≡ 2 * h * W
      turn h W = sym (mul_assoc h 2 W) ∙ ap (λ (m : ℕ). m * W) (mul_comm h 2)

  -- b is the pattern of z's size
  pub z_near : (b : ℕ) → b / 0x100000000 ≡ j % 0x80000000
      → (2 * (amount j * 2 ^ 1074) ≤ 2 * bit_val binary64 b + 2 ^ 1074) × (2 * bit_val binary64 b ≤ 2 * (amount j * 2 ^ 1074) + 2 ^ 1074 + 2 * last j)
  z_near b same =
      let x = j % 0x80000000 / 0x100000 - 1 in
      let M = 0x100000 + j % 0x80000000 % 0x100000 in
      let field : b / 0x10000000000000 ≡ suc x = omega arith in
      let digits : 0x10000000000000 + b % 0x10000000000000 ≡ M * 0x100000000 + b % 0x100000000 = omega arith in
      value_near (amount j) (half j) M (b % 0x100000000) (2 ^ x) (last j) (2 ^ 1074) (bit_val binary64 b) (n_near j low high) refl one_in_digits
      (bit_value b x field ∙ ap (λ (m : ℕ). m * 2 ^ x) digits) (omega arith)

-- ---- the value of t

-- cutting the lower d digits of X * 2 ^ 20 + r leaves X and the digits of r above them
cut_fields : (X r d : ℕ) → d ≤ 20 → (X * 0x100000 + r) / 2 ^ d * 2 ^ d ≡ X * 0x100000 + r / 2 ^ d * 2 ^ d
cut_fields X r d h =
    let c = 2 ^ (20 - d) in
    let sum : 20 - d + d ≡ 20 = omega arith in
    let whole : c * 2 ^ d ≡ 0x100000 = sym (pow-add 2 (20 - d) d) ∙ ap (λ (k : ℕ). 2 ^ k) sum in
    let e : X * 0x100000 ≡ X * c * 2 ^ d = ap (λ (m : ℕ). X * m) (sym whole) ∙ sym (mul_assoc X c (2 ^ d)) in
    ap (λ (m : ℕ). (m + r) / 2 ^ d * 2 ^ d) e
    ∙ ap (λ (m : ℕ). m * 2 ^ d) (mul-add-div_right (pow_pos d) (X * c) r)
    ∙ add-mul (X * c) (r / 2 ^ d) (2 ^ d)
    ∙ ap (λ (m : ℕ). m + r / 2 ^ d * 2 ^ d) (sym e)

-- a pattern with the field X, the upper digits c and no lower ones
field_value : (X c : ℕ) → 0 < X → c < 0x100000 → bit_val binary64 ((X * 0x100000 + c) * 0x100000000) ≡ (0x100000 + c) * (0x100000000 * 2 ^ (X - 1))
field_value X c h k =
    let b = (X * 0x100000 + c) * 0x100000000 in
    let f : b / 0x10000000000000 ≡ suc (X - 1) = omega arith in
    let t : 0x10000000000000 + b % 0x10000000000000 ≡ (0x100000 + c) * 0x100000000 = omega arith in
    bit_value b (X - 1) f ∙ ap (λ (m : ℕ). m * 2 ^ (X - 1)) t ∙ mul_assoc (0x100000 + c) 0x100000000 (2 ^ (X - 1))

-- n units, by the pattern's digits: d of them are below the unit
count_value : (X r d : ℕ) → d + X ≡ 0x413 → d ≤ 20 → 0 < X → r < 0x100000
    → bit_val binary64 ((X * 0x100000 + r / 2 ^ d * 2 ^ d) * 0x100000000) ≡ (r + 0x100000) / 2 ^ d * 2 ^ 1074
count_value X r d s h p k =
    let c = r / 2 ^ d * 2 ^ d in
    let n = (r + 0x100000) / 2 ^ d in
    let small : c < 0x100000 = lt_of_le_of_lt (div-mul-le_self r (2 ^ d)) k in
    let order : r + 0x100000 ≡ 1 * 0x100000 + r = omega arith in
    let one : 1 * 0x100000 + c ≡ 0x100000 + c = omega arith in
    let digits : n * 2 ^ d ≡ 0x100000 + c = ap (λ (m : ℕ). m / 2 ^ d * 2 ^ d) order ∙ cut_fields 1 r d h ∙ one in
    let sum : d + (32 + (X - 1)) ≡ 1074 = omega arith in
    let unit : 2 ^ d * (0x100000000 * 2 ^ (X - 1)) ≡ 2 ^ 1074 =
    ap (λ (m : ℕ). 2 ^ d * m) (sym (pow-add 2 32 (X - 1))) ∙ sym (pow-add 2 d (32 + (X - 1))) ∙ ap (λ (m : ℕ). 2 ^ m) sum in
    field_value X c p small
    ∙ ap (λ (m : ℕ). m * (0x100000000 * 2 ^ (X - 1))) (sym digits)
    ∙ mul_assoc n (2 ^ d) (0x100000000 * 2 ^ (X - 1))
    ∙ ap (λ (m : ℕ). n * m) unit

-- t of the high word j: the digits below the unit of n are cut off
abbrev pub t_of_word : ℕ → Float
t_of_word j = with_high_word_s (bits 0) ((j + half j) / 2 ^ below j * 2 ^ below j)

-- the size of t: its pattern, and that it is n
pattern : ℕ → ℕ
pattern j = (field j * 0x100000 + (j + half j) % 0x100000 / 2 ^ below j * 2 ^ below j) * 0x100000000

module _ (j : ℕ) (low : 0x3FE00000 < j % 0x80000000) (high : j % 0x80000000 ≤ 0x4090CC00) (word : j < 0x100000000) where
  below_le : below j ≤ 20
  below_le = omega (arith, field_ge j low high word)

  digits_lt : (j + half j) % 0x100000 / 2 ^ below j * 2 ^ below j < 0x100000
  digits_lt = lt_of_le_of_lt (div-mul-le_self ((j + half j) % 0x100000) (2 ^ below j)) (mod-lt (j + half j) (lit< tt))

  pattern_lt : pattern j < endless binary64
  unfolding pattern
  pattern_lt = omega (arith, field_le j low high word, digits_lt)

  pattern_value : HasValue (of_bits binary64 (pattern j)) false (amount j * 2 ^ 1074) (2 ^ 1074)
  unfolding pattern
  pattern_value =
      let f_ge = field_ge j low high word in
      let f_le = field_le j low high word in
      let sum : below j + field j ≡ 0x413 = omega arith in
      let p : 0 < field j = omega arith in
      subst (λ (k : ℕ). HasValue (of_bits binary64 (pattern j)) false k (2 ^ 1074))
      (count_value (field j) ((j + half j) % 0x100000) (below j) sum below_le p (mod-lt (j + half j) (lit< tt)))
      (bits_val binary64 (pattern j) pattern_lt)

  -- the upper word of t, by its fields
  cut_word : (X : ℕ) → j + half j ≡ X * 0x100000 + (j + half j) % 0x100000
      → t_of_word j ≡ of_bits binary64 ((X * 0x100000 + (j + half j) % 0x100000 / 2 ^ below j * 2 ^ below j) * 0x100000000)
  cut_word X e =
      high_alone ((j + half j) / 2 ^ below j * 2 ^ below j)
      ∙ ap (λ (k : ℕ). of_bits binary64 (k / 2 ^ below j * 2 ^ below j * 0x100000000)) e
      ∙ ap (λ (k : ℕ). of_bits binary64 (k * 0x100000000)) (cut_fields X ((j + half j) % 0x100000) (below j) below_le)

  pub t_plus : j < 0x80000000 → HasValue (t_of_word j) false (amount j * 2 ^ 1074) (2 ^ 1074)
  unfolding pattern
  t_plus h =
      let e : j + half j ≡ field j * 0x100000 + (j + half j) % 0x100000 = omega (arith, half_le j) in
      subst (λ (z : Float). HasValue z false (amount j * 2 ^ 1074) (2 ^ 1074)) (sym (cut_word (field j) e)) pattern_value

  pub t_minus : 0x80000000 ≤ j → HasValue (t_of_word j) true (amount j * 2 ^ 1074) (2 ^ 1074)
  unfolding pattern
  t_minus h =
      let X = field j + 0x800 in
      let c = (j + half j) % 0x100000 / 2 ^ below j * 2 ^ below j in
      let e : j + half j ≡ X * 0x100000 + (j + half j) % 0x100000 = omega (arith, half_le j) in
      let n : (X * 0x100000 + c) * 0x100000000 ≡ top binary64 + pattern j = omega arith in
      subst (λ (z : Float). HasValue z true (amount j * 2 ^ 1074) (2 ^ 1074))
      (sym (cut_word X e ∙ ap (of_bits binary64) n ∙ bits_neg binary64 (pattern j) (under_top binary64 (pattern j) pattern_lt)))
      (value_neg (of_bits binary64 (pattern j)) false (amount j * 2 ^ 1074) (2 ^ 1074) pattern_value)
