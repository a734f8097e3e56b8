-- The bit patterns of the finite values that carry no minus sign are in the order of the values, subnormals and zero included:
--   `bits-val`: a pattern below `endless`, the infinity's, stands for `bitVal` of the format's smallest units;
--   `val-lt`: `bitVal` grows with the pattern; `val-zero`, `val_pos`: from 0 on;
--   `bits-le`, `le-bits`: so the patterns are in order exactly where the values are;
--   `toBits-under`: the pattern of a value with no minus sign is such a pattern; `bits-neg`, `toBits-neg`: the sign bit is the sign.
-- Assumes nothing.
use mathlib.Core.Path.{◌≡◌, refl, sym, ap, ◌∙◌, subst}
use mathlib.Core.Logic.{inl, inr}
use Prim.Native.Nat.{ℕ, zero, suc, ◌+◌, ◌-◌, ◌*◌, ◌/◌, ◌%◌, ◌^◌, ◌≤◌, ◌<◌}
use native.Mathlib.Nat.{le_trans, le_of_eq, le_of_lt, lt_of_le_of_lt, lt_of_lt_of_le, lt_of_not-le, not-le_of_lt, eq-or-lt_of_le}
use native.Mathlib.Nat.{mod-eq_of_lt, mod-lt, div-add-mod', div-lt_iff_lt-mul, mul_assoc, mul_comm, mul-one, pow-succ', le-add_right}
use native.Mathlib.Nat.{mul-le-mul_right, mul-le-mul_left, mul-lt-mul_of_pos_right, add-mul}
use native.Mathlib.Nat.{mul-div_cancel, add-mod_left, mul-add-mod_self_left}
use native.Mathlib.Omega.{arith}
use mathlib.Core.Bool.{Bool, true, false, cond}
use lib.IntN.{ℤ}
use lib.Dec.{T, leb, eqb, leb→le, le→leb, eqb→eq, not_T}
use lib.Pow.{pow_pos, pow_mono, shr_mono}
use lib.Ieee.{Float, nan, inf, fin, Format, binary32, binary64, prec, emax, low, hid, ones, top, up, down, size, odd, of_fields, of_bits, to_bits, fits, le, neg}
use lib.Ieee.Bits.{is_true, is_false, cond_no}
use lib.Ieee.Digits.{size-le}
use lib.Ieee.Exact.{HasValue, odd_sign}
use lib.Ieee.Fits.{two, reach, kept-lt, down_pos}
use Rattle.rounding.proofs.Signed.{le_of_signed, signed_of_le, cond_neg, odd_not}
use Rattle.rounding.proofs.Grid.{on_grid}

-- ---- the value of a pattern, in the format's smallest units

-- the value of an exponent's field x and digits t; H is the weight of the field
abbrev pub scaled : ℕ → ℕ → ℕ → ℕ
scaled zero t H = t
scaled (suc x) t H = (H + t) * 2 ^ x

fields_lt : (x t y u H : ℕ) → t < H → x < y → scaled x t H < scaled y u H
fields_lt zero t zero u H k l = absurd (omega arith)
fields_lt zero t (suc y) u H k l =
    lt_of_lt_of_le k (le_trans (le-add_right H u) (le_trans (le_of_eq (sym (mul-one (H + u)))) (mul-le-mul_left (H + u) (pow_pos y))))
fields_lt (suc x) t zero u H k l = absurd (omega arith)
fields_lt (suc x) t (suc y) u H k l =
    let less : suc x ≤ y = omega arith in
    let double : H + t < H * 2 = omega arith in
    lt_of_lt_of_le (mul-lt-mul_of_pos_right double (pow_pos x))
    (le_trans (le_of_eq (mul_assoc H 2 (2 ^ x) ∙ ap (λ (z : ℕ). H * z) (sym (pow-succ' 2 x))))
    (le_trans (mul-le-mul_left H (pow_mono less)) (mul-le-mul_right (2 ^ y) (le-add_right H u))))

digits_lt : (x t u H : ℕ) → t < u → scaled x t H < scaled x u H
digits_lt zero t u H h = h
digits_lt (suc x) t u H h = let more : H + t < H + u = omega arith in mul-lt-mul_of_pos_right more (pow_pos x)

-- the value of the pattern b, in units
abbrev pub bit_val : Format → ℕ → ℕ
bit_val f b = scaled (b / hid f) (b % hid f) (hid f)

-- the weight of the exponent's field is above zero
pub hid_pos : (f : Format) → 0 < hid f
hid_pos f = pow_pos (prec f - 1)

digits_of : (x b c t u H : ℕ) → x * H + t ≡ b → x * H + u ≡ c → b < c → t < u
digits_of x b c t u H p q h = omega arith

-- a larger pattern has a larger value
pub val_lt : (f : Format) (b c : ℕ) → b < c → bit_val f b < bit_val f c
val_lt f b c h =
    elim (eq-or-lt_of_le (shr_mono (prec f - 1) (le_of_lt h))) [
      | inl e ↦
          subst (λ (x : ℕ). bit_val f b < scaled x (c % hid f) (hid f)) e
          (digits_lt (b / hid f) (b % hid f) (c % hid f) (hid f)
          (digits_of (b / hid f) b c (b % hid f) (c % hid f) (hid f) (div-add-mod' b (hid f))
          (ap (λ (x : ℕ). x * hid f + c % hid f) e ∙ div-add-mod' c (hid f)) h))
      | inr l ↦ fields_lt (b / hid f) (b % hid f) (c / hid f) (c % hid f) (hid f) (mod-lt b (hid_pos f)) l
    ]

-- the pattern 0 stands for no unit
pub val_zero : (f : Format) → bit_val f 0 ≡ 0
val_zero binary32 = refl
val_zero binary64 = refl

-- and every other for one or more
pub val_pos : (f : Format) (b : ℕ) → 0 < b → 0 < bit_val f b
val_pos f b h = subst (λ (z : ℕ). z < bit_val f b) (val_zero f) (val_lt f 0 b h)

-- `bitVal` keeps the order
pub val_le : (f : Format) (b c : ℕ) → b ≤ c → bit_val f b ≤ bit_val f c
val_le f b c h = elim (eq-or-lt_of_le h) [ inl e ↦ le_of_eq (ap (bit_val f) e) | inr l ↦ le_of_lt (val_lt f b c l) ]

-- ---- the patterns below the infinity's

-- the pattern of the infinity
abbrev pub endless : Format → ℕ
endless f = ones f * hid f

-- the value of a sign, an exponent's field x below the infinity's, and digits t
pub fields_val : (f : Format) (s : Bool) (x t : ℕ) → x < ones f → HasValue (of_fields f s x t) s (scaled x t (hid f)) (2 ^ low f)
unfolding of_fields
fields_val f s zero t h =
    subst (λ (z : ℕ). HasValue (odd (prec f) s t 0 (low f)) s z (2 ^ low f)) (mul-one t) (odd_sign (prec f) s t 0 (low f))
fields_val f s (suc x) t h =
    subst (λ (z : Float). HasValue z s ((hid f + t) * 2 ^ x) (2 ^ low f))
    (sym (cond_no (eqb (suc x) (ones f)) (cond (eqb t 0) (inf s) nan) (odd (prec f) s (hid f + t) x (low f))
    (not_T (eqb (suc x) (ones f)) (λ (u : T (eqb (suc x) (ones f))). differ (suc x) (ones f) h (eqb→eq (suc x) (ones f) u)))))
    (odd_sign (prec f) s (hid f + t) x (low f))
  where
    differ : (a b : ℕ) → a < b → a ≡ b → ⊥
    differ a b h e = omega arith

-- a pattern's value, by its fields
pub bits_open : (f : Format) (b : ℕ) → of_bits f b ≡ of_fields f (leb (top f) b) (b % top f / hid f) (b % hid f)
unfolding of_bits
bits_open f b = refl

-- a pattern below the infinity's has the sign bit clear
pub under_top : (f : Format) (b : ℕ) → b < endless f → b < top f
under_top f b h = lt_of_lt_of_le h (le_trans (le_of_eq (mul_comm (ones f) (hid f))) (mul-le-mul_left (hid f) (more (ones f))))
  where
    more : (n : ℕ) → n ≤ suc n
    more n = omega arith

sign_clear : (f : Format) (b : ℕ) → b < top f → leb (top f) b ≡ false
sign_clear f b h = is_false (leb (top f) b) (not_T (leb (top f) b) (λ (u : T (leb (top f) b)). not-le_of_lt h (leb→le (top f) b u)))

-- a pattern below the infinity's stands for `bitVal` units
pub bits_val : (f : Format) (b : ℕ) → b < endless f → HasValue (of_bits f b) false (bit_val f b) (2 ^ low f)
bits_val f b h =
    let t = under_top f b h in
    subst (λ (z : Float). HasValue z false (bit_val f b) (2 ^ low f))
    (sym (bits_open f b
    ∙ ap (λ (s : Bool). of_fields f s (b % top f / hid f) (b % hid f)) (sign_clear f b t)
    ∙ ap (λ (x : ℕ). of_fields f false (x / hid f) (b % hid f)) (mod-eq_of_lt t)))
    (fields_val f false (b / hid f) (b % hid f) ((div-lt_iff_lt-mul (hid_pos f)).1 h))

-- patterns in order have values in order
pub bits_le : (f : Format) (b c : ℕ) → b ≤ c → c < endless f → T (le (of_bits f b) (of_bits f c))
bits_le f b c h k =
    le_of_signed (of_bits f b) (of_bits f c) false (bit_val f b) (2 ^ low f) false (bit_val f c) (2 ^ low f) (pow_pos (low f)) (pow_pos (low f))
    (bits_val f b (lt_of_le_of_lt h k)) (bits_val f c k) (tidy (bit_val f b) (bit_val f c) (2 ^ low f) (val_le f b c h))
  where
    tidy : (a b L : ℕ) → a ≤ b → a * L + 0 * L ≤ b * L + 0 * L
    tidy a b L h = let k = mul-le-mul_right L h in omega arith

-- values in order have patterns in order
pub le_bits : (f : Format) (b c : ℕ) → b < endless f → c < endless f → T (le (of_bits f b) (of_bits f c)) → b ≤ c
le_bits f b c B C h =
    let l : b < suc c =
    lt_of_not-le (λ (k : suc c ≤ b). clash (bit_val f b) (bit_val f c) (2 ^ low f) (pow_pos (low f)) vals (val_lt f c b (omega arith))) in
    omega arith
  where
    vals : bit_val f b * 2 ^ low f + 0 * 2 ^ low f ≤ bit_val f c * 2 ^ low f + 0 * 2 ^ low f
    vals =
        signed_of_le (of_bits f b) (of_bits f c) false (bit_val f b) (2 ^ low f) false (bit_val f c) (2 ^ low f)
        (bits_val f b B) (bits_val f c C) h

    clash : (a b L : ℕ) → 0 < L → a * L + 0 * L ≤ b * L + 0 * L → b < a → ⊥
    clash a b L p h k = let q = mul-lt-mul_of_pos_right k p in omega arith

-- ---- the pattern of a finite value
amount : Format → ℕ → ℤ → ℕ
amount f m e = m * up e * 2 ^ low f / down e

to_bits_plus : (f : Format) (m : ℕ) (e : ℤ)
    → to_bits f (fin false m e) ≡ 0 + (size (amount f m e) - prec f) * hid f + amount f m e / 2 ^ (size (amount f m e) - prec f)
unfolding to_bits amount
to_bits_plus f m e = refl

amount_is : (f : Format) (m : ℕ) (e : ℤ) (j : ℕ) → m * up e * 2 ^ low f ≡ m * 2 ^ j * down e → amount f m e ≡ m * 2 ^ j
unfolding amount
amount_is f m e j h = ap (λ (x : ℕ). x / down e) h ∙ mul-div_cancel (m * 2 ^ j) (down_pos e)

-- k digits dropped at most, and prec digits kept, stay below the infinity
room : (f : Format) (k : ℕ) → k ≤ low f + suc (emax f) - prec f → k * hid f + 2 ^ prec f ≤ endless f
room f k h =
    rw (double f, ← add-mul k 2 (hid f)) (mul-le-mul_right (hid f) (count (emax f) (prec f) (two f) (reach f) h))
  where
    count : (e p : ℕ) → 2 ≤ p → p ≤ suc e → k ≤ e + p - 2 + suc e - p → k + 2 ≤ 2 * e + 1
    count e p a b h = omega arith

    double : (f : Format) → 2 ^ prec f ≡ 2 * hid f
    double f = ap (λ (z : ℕ). 2 ^ z) (next (prec f) (two f)) ∙ pow-succ' 2 (prec f - 1)
      where
        next : (p : ℕ) → 2 ≤ p → p ≡ suc (p - 1)
        next p h = omega arith

-- the pattern of a value with no minus sign is below the infinity's
pub to_bits_under : (f : Format) (m : ℕ) (e : ℤ) → T (fits f (fin false m e)) → to_bits f (fin false m e) < endless f
to_bits_under f m e F =
    let g = on_grid f false m e F in
    let n = amount f m e in
    let small : n < 2 ^ (low f + suc (emax f)) = rw (amount_is f m e g.0 g.1.0) g.1.2 in
    let z : size n ≤ low f + suc (emax f) = size-le n (low f + suc (emax f)) small in
    rw (to_bits_plus f m e)
    (tidy ((size n - prec f) * hid f) (n / 2 ^ (size n - prec f)) (2 ^ prec f) (endless f) (kept-lt (prec f) n)
    (room f (size n - prec f) (less (size n) (low f + suc (emax f)) (prec f) z)))
  where
    tidy : (a b p z : ℕ) → b < p → a + p ≤ z → 0 + a + b < z
    tidy a b p z h k = omega arith

    less : (a b p : ℕ) → a ≤ b → a - p ≤ b - p
    less a b p h = omega arith

-- ---- the sign bit
fields_not : (f : Format) (x t : ℕ) → of_fields f true x t ≡ neg (of_fields f false x t)
unfolding of_fields
fields_not f zero t = odd_not (prec f) false t 0 (low f)
fields_not f (suc x) t =
    ap (λ (z : Float). cond (eqb (suc x) (ones f)) (cond (eqb t 0) (inf true) nan) z) (odd_not (prec f) false (hid f + t) x (low f))
    ∙ ap (λ (z : Float). cond (eqb (suc x) (ones f)) z (neg (odd (prec f) false (hid f + t) x (low f)))) (ends (eqb t 0))
    ∙ cond_neg (eqb (suc x) (ones f)) (cond (eqb t 0) (inf false) nan) (odd (prec f) false (hid f + t) x (low f))
  where
    ends : (b : Bool) → cond b (inf true) nan ≡ neg (cond b (inf false) nan)
    ends true = unfold neg in refl
    ends false = unfold neg in refl

-- a pattern with the sign bit set stands for the negative
pub bits_neg : (f : Format) (b : ℕ) → b < top f → of_bits f (top f + b) ≡ neg (of_bits f b)
bits_neg f b h =
    bits_open f (top f + b)
    ∙ ap (λ (s : Bool). of_fields f s ((top f + b) % top f / hid f) ((top f + b) % hid f))
    (is_true (leb (top f) (top f + b)) (le→leb (top f) (top f + b) (le-add_right (top f) b)))
    ∙ ap (λ (x : ℕ). of_fields f true (x / hid f) ((top f + b) % hid f)) (add-mod_left (top f) b)
    ∙ ap (λ (x : ℕ). of_fields f true (b % top f / hid f) x) (mul-add-mod_self_left (hid f) (suc (ones f)) b)
    ∙ fields_not f (b % top f / hid f) (b % hid f)
    ∙ ap neg (sym (bits_open f b ∙ ap (λ (s : Bool). of_fields f s (b % top f / hid f) (b % hid f)) (sign_clear f b h)))

-- the pattern of a value with a minus sign
pub to_bits_neg : (f : Format) (m : ℕ) (e : ℤ) → to_bits f (fin true m e) ≡ top f + to_bits f (fin false m e)
unfolding to_bits
to_bits_neg f m e =
    let n = m * up e * 2 ^ low f / down e in
    regroup (top f) ((size n - prec f) * hid f) (n / 2 ^ (size n - prec f))
  where
    regroup : (a b c : ℕ) → a + b + c ≡ a + (0 + b + c)
    regroup a b c = omega arith
