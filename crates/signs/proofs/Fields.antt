-- What specs/Value says of the value of a bit pattern, by the pattern's fields, in either format. A finite value has finite bits (`finite_back`), and a NaN
-- a NaN's (`nan_back`). `Same x s a c` says of x what specs/Pattern says of a sign s and a size a / c, and holds of the value of every finite pattern
-- (`pattern_same`). Assumes nothing.
use mathlib.Core.Path.{◌≡◌, refl, sym, ap, ◌∙◌, subst}
use mathlib.Core.Logic.{◌⊎◌, inl, inr}
use Prim.Native.Nat.{ℕ, zero, suc, ◌+◌, ◌-◌, ◌*◌, ◌/◌, ◌%◌, ◌^◌, ◌<◌, ◌≤◌}
use native.Mathlib.Nat.{add-zero, zero-add, zero-mul, mul_comm, mul_assoc, mul-one, mul-pos, mul_right_comm, eq_of_mul-eq-mul_right, pow-succ'}
use native.Mathlib.Nat.{div-add-mod', mul-mod_left, mod-lt, div-eq_of_lt, pos_of_div-pos, zero-lt-suc, lt_irrefl, lt_of_lt_of_le, eq-or-lt_of_le, eq-zero-or-pos}
use native.Mathlib.Omega.{arith}
use mathlib.Core.Bool.{Bool, true, false, not, ◌&&◌, cond}
use lib.IntN.{ℤ}
use lib.Dec.{T, T_not, leb, eqb, eqb→eq}
use lib.Pow.{pow_mono}
use lib.Ieee.{Float, Format, nan, inf, fin, binary32, binary64, prec, low, hid, ones, top, up, down, is_nan, of_fields, of_bits, nan_bits}
use lib.Ieee.Bits.{nan_bits_is}
use lib.Ieee.Exact.{HasValue}
use lib.Ieee.Fits.{up_pos, down_pos, and_l, and_r, eq→eqb}
use lib.Ieee.Nearest.{div_same}
use Rattle.rounding.proofs.Signed.{value_longer}
use Rattle.rounding.proofs.BitOrder.{scaled, fields_val, bits_open, hid_pos}
use Rattle.words.proofs.PatternLaws.{field_rest}
use Rattle.signs.specs.Value.{Finite, Minus, whole_part, NegativeWhole}
use Rattle.signs.specs.Pattern.{exponent, fraction, FiniteBits, NanBits}

-- ---- which patterns are finite, and which are a NaN's
fields_of : (f : Format) (n : ℕ) → of_bits f n ≡ of_fields f (leb (top f) n) (exponent f n) (fraction f n)
fields_of f n = bits_open f n ∙ ap (λ (E : ℕ). of_fields f (leb (top f) n) E (fraction f n)) (field_rest f n)

-- a field of all ones is an infinity's or a NaN's
full : (f : Format) (s : Bool) (t : ℕ) → of_fields f s (ones f) t ≡ cond (eqb t 0) (inf s) nan
unfolding of_fields
full binary32 s t = refl
full binary64 s t = refl

full_is : (f : Format) (n : ℕ) → exponent f n ≡ ones f → of_bits f n ≡ cond (eqb (fraction f n) 0) (inf (leb (top f) n)) nan
full_is f n e =
    let s = leb (top f) n in
    fields_of f n ∙ ap (λ (E : ℕ). of_fields f s E (fraction f n)) e ∙ full f s (fraction f n)

-- and there is no field above it
field_range : (f : Format) (n : ℕ) → (exponent f n ≡ ones f) ⊎ (exponent f n < ones f)
field_range f n = eq-or-lt_of_le (within (mod-lt (n / hid f) (zero-lt-suc (ones f))))
  where
    within : {a b : ℕ} → a < suc b → a ≤ b
    within h = omega arith

pub finite_back : (f : Format) (n : ℕ) → Finite (of_bits f n) → FiniteBits f n
finite_back f n h =
    elim (field_range f n) [
      | inl e ↦ absurd (none (eqb (fraction f n) 0) (leb (top f) n) (subst Finite (full_is f n e) h))
      | inr l ↦ l
    ]
  where
    none : (b s : Bool) → Finite (cond b (inf s) nan) → ⊥
    none true s h = h
    none false s h = h

-- by the kit's law on which patterns are a NaN's
pub nan_back : (f : Format) (n : ℕ) → of_bits f n ≡ nan → NanBits f n
unfolding nan_bits is_nan
nan_back f n h =
    let E = eqb (n % top f / hid f) (ones f) in
    let D = not (eqb (fraction f n) 0) in
    let t : T (E && D) = subst T (sym (nan_bits_is f n ∙ ap is_nan h)) tt in (
      sym (field_rest f n) ∙ eqb→eq (n % top f / hid f) (ones f) (and_l E D t),
      elim (eq-zero-or-pos (fraction f n)) [ inl z ↦ absurd (T_not (eqb (fraction f n) 0) (and_r E D t) (eq→eqb z)) | inr p ↦ p ],
    )

value_of : (f : Format) (n : ℕ) → exponent f n < ones f
    → HasValue (of_bits f n) (leb (top f) n) (scaled (exponent f n) (fraction f n) (hid f)) (2 ^ low f)
value_of f n h =
    let s = leb (top f) n in
    subst (λ (z : Float). HasValue z s (scaled (exponent f n) (fraction f n) (hid f)) (2 ^ low f)) (sym (fields_of f n))
    (fields_val f s (exponent f n) (fraction f n) h)

-- ---- what is said of a finite one
pub record Same (x : Float) (s : Bool) (a c : ℕ) : Type 0 where
  pub finite : Finite x
  pub minus : Minus x → s ≡ true
  pub back : s ≡ true → Minus x
  pub part : whole_part x ≡ a / c
  pub whole : NegativeWhole x → (s ≡ true) × (0 < a / c) × (a % c ≡ 0)
  pub pole : (s ≡ true) × (0 < a / c) × (a % c ≡ 0) → NegativeWhole x

-- ---- two fractions of one size, a / b and c / d

-- with no remainder in the first there is none in the second
no_rest : (a b c d : ℕ) → 0 < b → a * d ≡ c * b → a % b ≡ 0 → c % d ≡ 0
no_rest a b c d B h z = ap (λ (n : ℕ). n % d) second ∙ mul-mod_left (a / b) d
  where
    first : a ≡ a / b * b
    first = sym (div-add-mod' a b) ∙ ap (λ (n : ℕ). a / b * b + n) z ∙ add-zero (a / b * b)

    second : c ≡ a / b * d
    second = eq_of_mul-eq-mul_right b B c (a / b * d) (sym h ∙ ap (λ (n : ℕ). n * d) first ∙ mul_right_comm (a / b) b d)

-- a / b is above zero where a is and no remainder is left
quotient_pos : (a b : ℕ) → 0 < a → a % b ≡ 0 → 0 < a / b
quotient_pos a b A z = go (a / b) (div-add-mod' a b)
  where
    go : (q : ℕ) → q * b + a % b ≡ a → 0 < q
    go zero h = absurd (lt_irrefl 0 (subst (λ (n : ℕ). 0 < n) (sym h ∙ ap (λ (n : ℕ). n + a % b) (zero-mul b) ∙ zero-add (a % b) ∙ z) A))
    go (suc q) h = zero-lt-suc q

numerator_pos : (m : ℕ) (e : ℤ) → 0 < m * up e / down e → 0 < m
numerator_pos zero e h = absurd (lt_irrefl 0 (subst (λ (n : ℕ). 0 < n) (zero-mul (up e)) (pos_of_div-pos (down e) h)))
numerator_pos (suc m) e h = zero-lt-suc m

-- ---- x is ±a / c
by_value : (x : Float) (s : Bool) (a c : ℕ) → 0 < c → HasValue x s a c → Same x s a c
by_value nan s a c C v = absurd v
by_value (inf t) s a c C v = absurd v
by_value (fin t m e) s a c C v =
    let M = m * up e in
    let D = down e in
    let q = div_same M D a c (down_pos e) C v.1 in
    record {
      finite = tt;
      minus = λ h. sym v.0 ∙ h;
      back = λ h. v.0 ∙ h;
      part = q;
      whole = λ h. (sym v.0 ∙ h.0, rw (← q) (quotient_pos M D (mul-pos h.1 (up_pos e)) h.2), no_rest M D a c (down_pos e) v.1 h.2);
      pole = λ h. (v.0 ∙ h.0, numerator_pos m e (rw q h.1), no_rest a c M D C (sym v.1) h.2);
    }

-- ---- an exponent's field E and digits F, H the weight of the field, L the units in 1
by_fields : (x : Float) (s : Bool) (E F H L : ℕ) → F < H → H ≤ L → HasValue x s (scaled E F H) L → Same x s ((H + F) * 2 ^ E) (L * 2)
by_fields x s (suc E) F H L f h v =
    by_value x s ((H + F) * 2 ^ suc E) (L * 2) (double L (lt_of_lt_of_le (more f) h))
    (subst (λ (a : ℕ). HasValue x s a (L * 2)) next (value_longer x s ((H + F) * 2 ^ E) L 2 v))
  where
    more : {a b : ℕ} → a < b → 0 < b
    more h = omega arith

    double : (L : ℕ) → 0 < L → 0 < L * 2
    double L h = omega arith

    next : (H + F) * 2 ^ E * 2 ≡ (H + F) * 2 ^ suc E
    next = mul_assoc (H + F) (2 ^ E) 2 ∙ ap (λ (n : ℕ). (H + F) * n) (mul_comm (2 ^ E) 2 ∙ sym (pow-succ' 2 E))
by_fields x s zero F H L f h v =
    let k = by_value x s F L (more F H L f h) v in
    record {
      finite = k.finite;
      minus = k.minus;
      back = k.back;
      part = k.part ∙ none ∙ sym less;
      whole = λ w. absurd (lt_irrefl 0 (subst (λ (n : ℕ). 0 < n) none (k.whole w).1));
      pole = λ w. absurd (lt_irrefl 0 (subst (λ (n : ℕ). 0 < n) less w.1));
    }
  where
    more : (F H L : ℕ) → F < H → H ≤ L → 0 < L
    more F H L f h = omega arith

    none : F / L ≡ 0
    none = div-eq_of_lt (lt_of_lt_of_le f h)

    below : (F H L : ℕ) → F < H → H ≤ L → H + F < L * 2
    below F H L f h = omega arith

    less : (H + F) * 2 ^ 0 / (L * 2) ≡ 0
    less = ap (λ (n : ℕ). n / (L * 2)) (mul-one (H + F)) ∙ div-eq_of_lt (below F H L f h)

-- ---- the pattern n
pub pattern_same : (f : Format) (n : ℕ) → FiniteBits f n
    → Same (of_bits f n) (leb (top f) n) ((hid f + fraction f n) * 2 ^ exponent f n) (2 ^ suc (low f))
pattern_same f n h =
    let s = leb (top f) n in
    let E = exponent f n in
    let F = fraction f n in
    subst (Same (of_bits f n) s ((hid f + F) * 2 ^ E)) (mul_comm (2 ^ low f) 2 ∙ sym (pow-succ' 2 (low f)))
    (by_fields (of_bits f n) s E F (hid f) (2 ^ low f) (mod-lt n (hid_pos f)) (pow_mono (room f)) (value_of f n h))
  where
    room : (f : Format) → prec f - 1 ≤ low f
    room binary32 = omega arith
    room binary64 = omega arith
