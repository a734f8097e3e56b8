-- In `exp2_s`, for p_l and p_h of at most 900 in size together: the power of 2 that is left when n is taken off lies from 1/4 to 4, where
-- |z| is above 1/2, and n at most 902 (`far_range`), and where |z| is not (`near_range`). Assumes nothing.
use Prim.Native.Nat.{ℕ, ◌+◌, ◌*◌, ◌/◌, ◌%◌, ◌^◌, ◌≤◌, ◌<◌}
use mathlib.Core.Path.{◌≡◌, refl, sym, subst}
use mathlib.Core.Bool.{Bool, true, false}
use native.Mathlib.Omega.{arith}
use native.Mathlib.Nat.{lt_of_le_of_lt, le_trans, le_of_lt, mul-le-mul_right, lt_of_not-le, not-le_of_lt, le_of_eq, le_of_mul-le-mul_right}
use lib.Pow.{pow_pos, pow-add}
use lib.Dec.{T, lit<}
use lib.Ieee.{Float, nan, inf, fin, binary64, top, to_bits, fits}
use lib.Ieee.Bits.{of_bits-to_bits}
use lib.Ieee.Exact.{HasValue}
use lib.Ieee.Fits.{add-fits}
use Rattle.rounding.proofs.Signed.{P, N, value_unique}
use Rattle.rounding.proofs.Error.{NearSum}
use Rattle.rounding.proofs.Sums.{sum_near, difference_near, size_of_sum, size_of_difference}
use Rattle.rounding.proofs.BitOrder.{bit_val, val_le, bits_val, to_bits_under, to_bits_neg, under_top}
use Rattle.rounding.proofs.Range.{In}
use Rattle.words.specs.F64.{◌⊕◌, ◌⊖◌}
use Rattle.words.specs.Bits.{high_word_s}
use Rattle.words.proofs.PatternLaws.{fits_any_sign}
use Rattle.pow_exp.specs.Exp2.{fraction_s}
use Rattle.pow_exp.proofs.Half.{amount}
use Rattle.pow_range.proofs.FractionRange.{quarter, four, fraction_range}
use Rattle.pow_range.proofs.NValue.{last, slack, z_near, t_of_word, t_plus, t_minus}
use Rattle.pow_range.proofs.Reduced.{small_parts}

-- ---- the words of a value

-- the pattern with the sign w and the rest b
abbrev signed : Bool → ℕ → ℕ
signed false b = b
signed true b = top binary64 + b

-- the pattern of a value of Z units
size_bits : (z : Float) (w : Bool) (Z : ℕ) → T (fits binary64 z) → HasValue z w Z (2 ^ 1074)
    → (b : ℕ) × (b < 0x8000000000000000) × (Z ≡ bit_val binary64 b) × (to_bits binary64 z ≡ signed w b)
size_bits nan w Z F v = absurd v
size_bits (inf _) w Z F v = absurd v
size_bits (fin s m e) w Z F v =
    let x = fin false m e in
    let F+ = fits_any_sign binary64 s false m e F in
    let b = to_bits binary64 x in
    let under = to_bits_under binary64 m e F+ in
    let vb = subst (λ (z : Float). HasValue z false (bit_val binary64 b) (2 ^ 1074)) (of_bits-to_bits binary64 x F+) (bits_val binary64 b under) in (
      b,
      under_top binary64 b under,
      value_unique x false false Z (bit_val binary64 b) (2 ^ 1074) (refl, v.1) vb,
      subst (λ (w : Bool). to_bits binary64 (fin s m e) ≡ signed w b) v.0 (go s),
    )
  where
    go : (s : Bool) → to_bits binary64 (fin s m e) ≡ signed s (to_bits binary64 (fin false m e))
    go false = refl
    go true = to_bits_neg binary64 m e

-- its high word
module _ (t b : ℕ) (small : b < 0x8000000000000000) where
  pub word_digits : (w : Bool) → t ≡ signed w b → b / 0x100000000 ≡ t / 0x100000000 % 0x80000000
  word_digits false e = omega arith
  word_digits true e = omega arith

  pub word_lt : (w : Bool) → t ≡ signed w b → t / 0x100000000 < 0x100000000
  word_lt false e = omega arith
  word_lt true e = omega arith

  pub word_plus : t ≡ signed false b → t / 0x100000000 < 0x80000000
  word_plus e = omega arith

  pub word_minus : t ≡ signed true b → 0x80000000 ≤ t / 0x100000000
  word_minus e = omega arith

-- a value below c's has a pattern below c
pattern_lt : (b c : ℕ) → bit_val binary64 b < bit_val binary64 c → b < c
pattern_lt b c h = lt_of_not-le (λ (k : c ≤ b). not-le_of_lt h (val_le binary64 c b k))

-- ---- the linear part: L units are 1, E is twice the error of a sum

-- z = p + h, z is within (L + D) / 2 of t, g = h - t, s = p + g: s is small
reduced_small : (p p' h h' z z' t t' g g' s s' E D L : ℕ)
    → 2 * (z + (p' + h')) ≤ 2 * (z' + (p + h)) + E → 2 * (z' + (p + h)) ≤ 2 * (z + (p' + h')) + E
    → 2 * (z + t') ≤ 2 * (z' + t) + L + D → 2 * (z' + t) ≤ 2 * (z + t') + L + D
    → 2 * (g + (h' + t)) ≤ 2 * (g' + (h + t')) + E → 2 * (g' + (h + t')) ≤ 2 * (g + (h' + t)) + E
    → 2 * (s + (p' + g')) ≤ 2 * (s' + (p + g)) + E → 2 * (s' + (p + g)) ≤ 2 * (s + (p' + g')) + E
    → (2 * s ≤ 2 * s' + L + D + 3 * E) × (2 * s' ≤ 2 * s + L + D + 3 * E)
reduced_small p p' h h' z z' t t' g g' s s' E D L a b c d e f i j = (omega arith, omega arith)

-- z and n have one sign
same_sign : (w : Bool) (Z n L D : ℕ) → 2 * n ≤ 2 * Z + L → 2 * Z ≤ 2 * n + L + D
    → (2 * (P w Z + N w n) ≤ 2 * (N w Z + P w n) + L + D) × (2 * (N w Z + P w n) ≤ 2 * (P w Z + N w n) + L + D)
same_sign false Z n L D a b = (omega arith, omega arith)
same_sign true Z n L D a b = (omega arith, omega arith)

one_side : (s : Bool) (X K M E : ℕ) → 2 * P s X ≤ 2 * N s X + K + M + E → 2 * N s X ≤ 2 * P s X + K + M + E → 2 * X ≤ K + M + E
one_side false X K M E a b = omega arith
one_side true X K M E a b = omega arith

n_room : (A B Z n E L : ℕ) → A + B ≤ 900 * L → 2 * Z ≤ 2 * (A + B) + E → 2 * n ≤ 2 * Z + L → E * 0x20000000000 ≤ L → (B + n ≤ 4000 * L) × (n ≤ 902 * L)
n_room A B Z n E L a b c d = (omega arith, omega arith)

g_room : (A B G n E L : ℕ) → A + B ≤ 900 * L → n ≤ 902 * L → 2 * G ≤ 2 * (B + n) + E → E * 0x20000000000 ≤ L → (A + G ≤ 2000 * L) × (A + G ≤ 4000 * L)
g_room A B G n E L a b c d = (omega arith, omega arith)

s_room : (S D E L : ℕ) → 2 * S ≤ L + D + 3 * E → 512 * D ≤ L → E * 0x20000000000 ≤ L → S * 64 ≤ 33 * L
s_room S D E L a b c = omega arith

z_room : (A B Z E L : ℕ) → A + B ≤ 900 * L → 2 * Z ≤ 2 * (A + B) + E → E * 0x20000000000 ≤ L → Z ≤ 901 * L
z_room A B Z E L a b c = omega arith

room : (A B L : ℕ) → A + B ≤ 900 * L → A + B ≤ 4000 * L
room A B L a = omega arith

-- ---- p_l is ±A and p_h is ±B
module _ (p_l p_h : Float) (s : Bool) (A : ℕ) (u : Bool) (B : ℕ) (vl : HasValue p_l s A (2 ^ 1074)) (vh : HasValue p_h u B (2 ^ 1074))
    (small : A + B ≤ 900 * 2 ^ 1074) where
  fine : 2 ^ 1033 * 0x20000000000 ≤ 2 ^ 1074
  fine = le_of_eq (sym (pow-add 2 1033 41))

  -- z, of the sign w and Z units, of the pattern ±b and the high word j
  module _ (w : Bool) (Z : ℕ) (vz : HasValue (p_l ⊕ p_h) w Z (2 ^ 1074)) (sum : NearSum w Z s A u B (2 ^ 1033))
      (b : ℕ) (b_lt : b < 0x8000000000000000) (Z_is : Z ≡ bit_val binary64 b) (z_is : to_bits binary64 (p_l ⊕ p_h) ≡ signed w b) where
    abbrev j : ℕ
    j = high_word_s (p_l ⊕ p_h)

    Z_le : Z ≤ 901 * 2 ^ 1074
    Z_le = z_room A B Z (2 ^ 1033) (2 ^ 1074) small (size_of_sum w Z s A u B (2 ^ 1033) sum) fine

    high : j % 0x80000000 ≤ 0x408F4000
    high =
        let k : b < 0x408F400000000000 = pattern_lt b 0x408F400000000000 (lt_of_le_of_lt (subst (λ (m : ℕ). m ≤ 901 * 2 ^ 1074) Z_is Z_le) (lit< tt)) in
        let d = word_digits (to_bits binary64 (p_l ⊕ p_h)) b b_lt w z_is in
        omega arith

    up : j % 0x80000000 ≤ 0x4090CC00
    up = omega (arith, high)

    t_value : 0x3FE00000 < j % 0x80000000 → HasValue (t_of_word j) w (amount j * 2 ^ 1074) (2 ^ 1074)
    t_value low = go w z_is
      where
        go : (w : Bool) → to_bits binary64 (p_l ⊕ p_h) ≡ signed w b → HasValue (t_of_word j) w (amount j * 2 ^ 1074) (2 ^ 1074)
        go false e = t_plus j low up (word_lt (to_bits binary64 (p_l ⊕ p_h)) b b_lt false e) (word_plus (to_bits binary64 (p_l ⊕ p_h)) b b_lt e)
        go true e = t_minus j low up (word_lt (to_bits binary64 (p_l ⊕ p_h)) b b_lt true e) (word_minus (to_bits binary64 (p_l ⊕ p_h)) b b_lt e)

    far : 0x3FE00000 < j % 0x80000000 → In quarter four (fraction_s (p_h ⊖ t_of_word j) p_l) × (amount j ≤ 902)
    far low =
        let L = 2 ^ 1074 in
        let E = 2 ^ 1033 in
        let n = amount j * L in
        let D = 2 * last j in
        let t = t_of_word j in
        let near = z_near j low up b (word_digits (to_bits binary64 (p_l ⊕ p_h)) b b_lt w z_is) in
        let n_le : 2 * n ≤ 2 * Z + L = subst (λ (k : ℕ). 2 * n ≤ 2 * k + L) (sym Z_is) near.0 in
        let Z_near : 2 * Z ≤ 2 * n + L + D = subst (λ (k : ℕ). 2 * k ≤ 2 * n + L + D) (sym Z_is) near.1 in
        let r = n_room A B Z n E L small (size_of_sum w Z s A u B E sum) n_le fine in
        let g = difference_near p_h t u B w n vh (t_value low) r.0 in
        let G = g.1 in
        let q = g_room A B G n E L small r.1 (size_of_difference g.0 G u B w n E g.3) fine in
        let a = sum_near p_l (p_h ⊖ t) s A g.0 G vl g.2 q.1 in
        let S = a.1 in
        let c = same_sign w Z n L D n_le Z_near in
        let k =
        reduced_small (P s A) (N s A) (P u B) (N u B) (P w Z) (N w Z) (P w n) (N w n) (P g.0 G) (N g.0 G) (P a.0 S) (N a.0 S) E D L
        sum.0 sum.1 c.0 c.1 g.3.0 g.3.1 a.3.0 a.3.1 in
        let less = s_room S D E L (one_side a.0 S L D (3 * E) k.0 k.1) (slack j low up) fine in
        let m = small_parts p_l (p_h ⊖ t) s A g.0 G a.0 S vl g.2 a.2 a.3 q.0 less in
        (fraction_range (p_h ⊖ t) p_l m.0 m.1, le_of_mul-le-mul_right r.1 (pow_pos 1074))

    near : j % 0x80000000 ≤ 0x3FE00000 → In quarter four (fraction_s p_h p_l)
    near i =
        let L = 2 ^ 1074 in
        let d = word_digits (to_bits binary64 (p_l ⊕ p_h)) b b_lt w z_is in
        let b_le : b ≤ 0x3FE0000100000000 = omega arith in
        let Z_le : Z ≤ bit_val binary64 0x3FE0000100000000 = le_trans (le_of_eq Z_is) (val_le binary64 b 0x3FE0000100000000 b_le) in
        let less : Z * 64 ≤ 33 * L = le_trans (mul-le-mul_right 64 Z_le) (le_of_lt (lit< tt)) in
        let m = small_parts p_l p_h s A u B w Z vl vh vz sum (two_thousand A B L small) less in
        fraction_range p_h p_l m.0 m.1
      where
        two_thousand : (A B L : ℕ) → A + B ≤ 900 * L → A + B ≤ 2000 * L
        two_thousand A B L h = omega arith

  abbrev word : ℕ
  word = high_word_s (p_l ⊕ p_h)

  z_sum : (w : Bool) × (Z : ℕ) × HasValue (p_l ⊕ p_h) w Z (2 ^ 1074) × NearSum w Z s A u B (2 ^ 1033)
  z_sum = sum_near p_l p_h s A u B vl vh (room A B (2 ^ 1074) small)

  z_bits : (b : ℕ) × (b < 0x8000000000000000) × (z_sum.1 ≡ bit_val binary64 b) × (to_bits binary64 (p_l ⊕ p_h) ≡ signed z_sum.0 b)
  z_bits = size_bits (p_l ⊕ p_h) z_sum.0 z_sum.1 (add-fits binary64 p_l p_h) z_sum.2

  pub word_high : word % 0x80000000 ≤ 0x408F4000
  word_high = high z_sum.0 z_sum.1 z_sum.2 z_sum.3 z_bits.0 z_bits.1 z_bits.2 z_bits.3

  pub word_under : word < 0x100000000
  word_under = word_lt (to_bits binary64 (p_l ⊕ p_h)) z_bits.0 z_bits.1 z_sum.0 z_bits.3

  pub far_range : 0x3FE00000 < word % 0x80000000 → In quarter four (fraction_s (p_h ⊖ t_of_word word) p_l) × (amount word ≤ 902)
  far_range = far z_sum.0 z_sum.1 z_sum.2 z_sum.3 z_bits.0 z_bits.1 z_bits.2 z_bits.3

  pub near_range : word % 0x80000000 ≤ 0x3FE00000 → In quarter four (fraction_s p_h p_l)
  near_range = near z_sum.0 z_sum.1 z_sum.2 z_sum.3 z_bits.0 z_bits.1 z_bits.2 z_bits.3
