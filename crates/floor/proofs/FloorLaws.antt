-- floor from the fields of the bit pattern, over the format: no fraction possible, size below one, a fraction still present.
-- Assumes nothing.
use Rattle.std.proofs.Common.{◌≡◌, ℕ, zero, suc, ◌+◌, ◌-◌, ◌*◌, ◌/◌, ◌%◌, ◌^◌, ◌<◌, ◌≤◌, Bool, true, false, cond, T, eqb, leb, sym, refl, ap, ◌∙◌, subst, inl, inr, lt_trans, le_refl, lt_of_le_of_lt, add-zero, le_of_lt, add_assoc, add-le-add, lt_irrefl, mul-le-mul_right, mod-lt, mod-eq_of_lt, mul_assoc, lt-suc_self, suc-mul, div-lt_iff_lt-mul, add-mul, add_comm, eq-or-lt_of_le, mul-lt-mul_of_pos_right, mul-pos, one-mul, div-add-mod', zero-add, div-le_self, mul_right_comm, arith, lit<, pow_pos, pow-add, le-leb}
use native.Mathlib.Nat.{div-eq_of_lt, add-mul-div_right, add-mul-mod_self_right}
use lib.Arith.{digits_lt, digits_div}
use lib.Pow as Pow
use lib.Ieee.{Float, nan, inf, Format, binary32, binary64, prec, emax, low, hid, ones, top, of_fields, of_bits, fits}
use lib.Ieee.Bits.{of_bits-fits}
use lib.Ieee.Exact.{HasValue}
use borrow.Author.Tests.{lt-leb}
use Rattle.rounding.proofs.BitOrder.{bit_val, hid_pos, endless, bits_open, val_lt, val_zero, val_pos}
use Rattle.rounding.proofs.Grid.{pow_multiple}
use Rattle.rounding.proofs.Signed.{value_shorter}
use Rattle.floor.specs.Floor.{floor_s}
use Rattle.floor.proofs.FloorValues.{size_below, stays, falls}
use Rattle.words.proofs.PatternLaws.{weight, pattern_value, signed_value, field_of, rest_is, field_rest, carried}

-- ---- no fraction possible: from the field of 2 ^ (prec - 1) on
abbrev pub whole_from : Format → ℕ
whole_from f = emax f + (prec f - 1)

ends : (f : Format) (s b : Bool) → cond b (inf s) nan ≡ floor_s f (cond b (inf s) nan)
unfolding floor_s
ends f s true = refl
ends f s false = refl

not_finite : (f : Format) (s : Bool) (x t : ℕ) → x ≡ ones f → of_fields f s x t ≡ floor_s f (of_fields f s x t)
unfolding of_fields
not_finite binary32 s x t e = subst (λ (z : ℕ). of_fields binary32 s z t ≡ floor_s binary32 (of_fields binary32 s z t)) (sym e) (ends binary32 s (eqb t 0))
not_finite binary64 s x t e = subst (λ (z : ℕ). of_fields binary64 s z t ≡ floor_s binary64 (of_fields binary64 s z t)) (sym e) (ends binary64 s (eqb t 0))

-- the value of a pattern with the field x + 1, in units
pub value_at : (f : Format) (b x : ℕ) → field_of f b ≡ suc x → suc x < ones f → HasValue (of_bits f b) (leb (top f) b) ((hid f + b % hid f) * 2 ^ x) (2 ^ low f)
value_at f b x e h =
    let r : b % top f ≡ suc x * hid f + b % hid f = rest_is f b ∙ ap (λ (z : ℕ). z * hid f + b % hid f) e in
    let t = mod-lt b (hid_pos f) in
    subst (λ (n : ℕ). HasValue (of_bits f b) (leb (top f) b) n (2 ^ low f))
    (ap (bit_val f) r ∙ carried (hid f) x (b % hid f) (hid_pos f) (le_of_lt t))
    (pattern_value f b (subst (λ (n : ℕ). n < endless f) (sym r) (digits_lt h t)))

pub no_fraction : (f : Format) (b : ℕ) → whole_from f ≤ field_of f b → of_bits f b ≡ floor_s f (of_bits f b)
no_fraction f b h = elim (eq-or-lt_of_le (at_most f b)) [ inl e ↦ special e | inr l ↦ finite (field_of f b - 1) (back f (field_of f b) h) l ]
  where
    at_most : (f : Format) (b : ℕ) → field_of f b ≤ ones f
    at_most binary32 b = omega arith
    at_most binary64 b = omega arith

    back : (f : Format) (n : ℕ) → whole_from f ≤ n → n ≡ suc (n - 1)
    back binary32 n h = omega arith
    back binary64 n h = omega arith

    deep : (f : Format) (x : ℕ) → whole_from f ≤ suc x → low f ≤ x
    deep binary32 x h = omega arith
    deep binary64 x h = omega arith

    special : field_of f b ≡ ones f → of_bits f b ≡ floor_s f (of_bits f b)
    special e =
        subst (λ (z : Float). z ≡ floor_s f z) (sym (bits_open f b))
        (not_finite f (leb (top f) b) (b % top f / hid f) (b % hid f) (field_rest f b ∙ e))

    finite : (x : ℕ) → field_of f b ≡ suc x → field_of f b < ones f → of_bits f b ≡ floor_s f (of_bits f b)
    finite x e l =
        stays f (of_bits f b) (leb (top f) b) ((hid f + b % hid f) * 2 ^ x) (2 ^ low f) (pow_pos (low f))
        (value_at f b x e (subst (λ (n : ℕ). n < ones f) e l))
        (pow_multiple (hid f + b % hid f) x (low f) (deep f x (subst (λ (n : ℕ). whole_from f ≤ n) e h)))

-- ---- size below one
-- the pattern of 1
abbrev one : Format → ℕ
one f = emax f * hid f

one_value : (f : Format) → bit_val f (one f) ≡ 2 ^ low f
one_value binary32 = refl
one_value binary64 = refl

module _ (f : Format) (b : ℕ) (tiny : field_of f b < emax f) where
  rest_lt : b % top f < one f
  rest_lt = subst (λ (n : ℕ). n < one f) (sym (rest_is f b)) (digits_lt tiny (mod-lt b (hid_pos f)))

  pub size_lt : bit_val f (b % top f) < 2 ^ low f
  size_lt = subst (λ (n : ℕ). bit_val f (b % top f) < n) (one_value f) (val_lt f (b % top f) (one f) rest_lt)

  pub value : HasValue (of_bits f b) (leb (top f) b) (bit_val f (b % top f)) (2 ^ low f)
  value = pattern_value f b (lt_trans rest_lt (mul-lt-mul_of_pos_right (less f) (hid_pos f)))
    where
      less : (f : Format) → emax f < ones f
      less binary32 = lit< tt
      less binary64 = lit< tt

  -- a zero stays
  pub zero_stays : b % top f ≡ 0 → of_bits f b ≡ floor_s f (of_bits f b)
  zero_stays e =
      stays f (of_bits f b) (leb (top f) b) (bit_val f (b % top f)) (2 ^ low f) (pow_pos (low f)) value
      (mod-eq_of_lt size_lt ∙ ap (bit_val f) e ∙ val_zero f)

  -- any other falls to y: +0, or -1
  pub tiny_falls : (y : Float) → 0 < b % top f → T (fits f y) → HasValue y (leb (top f) b) (size_below (leb (top f) b) 0) 1 → y ≡ floor_s f (of_bits f b)
  tiny_falls y h F u =
      let none : bit_val f (b % top f) / 2 ^ low f ≡ 0 = div-eq_of_lt size_lt in
      let some : 0 < bit_val f (b % top f) = val_pos f (b % top f) h in
      falls f (of_bits f b) (leb (top f) b) (bit_val f (b % top f)) (2 ^ low f) (pow_pos (low f)) value
      (λ e. lt_irrefl 0 (subst (λ (n : ℕ). 0 < n) (sym (mod-eq_of_lt size_lt) ∙ e) some))
      (subst (λ (n : ℕ). n < 2 ^ prec f) (sym none) (pow_pos (prec f)))
      y F
      (subst (λ (n : ℕ). HasValue y (leb (top f) b) (size_below (leb (top f) b) n) 1) (sym none) u)

-- ---- a fraction still present: the last k digits, for a field x + 1 of emax or more
add_one_block : (b K : ℕ) → 0 < K → (b % K ≡ 0 → ⊥) → (b + (K - 1)) / K ≡ b / K + 1
add_one_block b K h n =
    let r : b / K * K + b % K ≡ b = div-add-mod' b K in
    let l = mod-lt b h in
    let m : b + (K - 1) ≡ (b / K + 1) * K + (b % K - 1) = rw (add-mul (b / K) 1 K, one-mul K) (parts (b / K * K) (b % K) b K r h n) in
    ap (λ (z : ℕ). z / K) m ∙ digits_div (b / K + 1) (less (b % K) K l)
  where
    parts : (q r b K : ℕ) → q + r ≡ b → 0 < K → (r ≡ 0 → ⊥) → b + (K - 1) ≡ q + K + (r - 1)
    parts q zero b K e h n = absurd (n refl)
    parts q (suc r) b K e h n = omega arith

    less : (r K : ℕ) → r < K → r - 1 < K
    less r K h = omega arith

-- what the Rust's tests say of such a pattern: its field is x + 1, and the digits are j before the point and k behind it
pub record Split (f : Format) (b k : ℕ) : Type 0 where
  pub x : ℕ
  pub j : ℕ
  pub field : field_of f b ≡ suc x
  pub next : suc (suc x) < ones f
  pub units : low f ≡ k + x
  pub digits : prec f - 1 ≡ j + k

pub split : (f : Format) (b k : ℕ) → emax f ≤ field_of f b → field_of f b + k ≡ whole_from f → Split f b k
split binary32 b k h e =
    record { x = field_of binary32 b - 1; j = 23 - k; field = omega arith; next = omega arith; units = omega arith; digits = omega arith }
split binary64 b k h e =
    record { x = field_of binary64 b - 1; j = 52 - k; field = omega arith; next = omega arith; units = omega arith; digits = omega arith }

module _ (f : Format) (b k : ℕ) (p : Split f b k) where
  K-pos : 0 < 2 ^ k
  K-pos = pow_pos k

  hid_is : hid f ≡ 2 ^ p.j * 2 ^ k
  hid_is = ap (λ (n : ℕ). 2 ^ n) p.digits ∙ pow-add 2 p.j k

  unit_is : 2 ^ low f ≡ 2 ^ k * 2 ^ p.x
  unit_is = ap (λ (n : ℕ). 2 ^ n) p.units ∙ pow-add 2 k p.x

  -- the digits behind the point are the last k of the pattern
  last : b % hid f % 2 ^ k ≡ b % 2 ^ k
  last = ap (λ (n : ℕ). b % 2 ^ n % 2 ^ k) p.digits ∙ Pow.mod-mod-pow b p.j k

  size_is : hid f + b % hid f ≡ 2 ^ p.j * 2 ^ k + b % hid f
  size_is = ap (λ (n : ℕ). n + b % hid f) hid_is

  fraction : (hid f + b % hid f) % 2 ^ k ≡ b % 2 ^ k
  fraction =
      ap (λ (n : ℕ). n % 2 ^ k) (size_is ∙ add_comm (2 ^ p.j * 2 ^ k) (b % hid f))
      ∙ add-mul-mod_self_right (b % hid f) (2 ^ p.j) (2 ^ k)
      ∙ last

  before : (hid f + b % hid f) / 2 ^ k ≡ 2 ^ p.j + b % hid f / 2 ^ k
  before =
      ap (λ (n : ℕ). n / 2 ^ k) (size_is ∙ add_comm (2 ^ p.j * 2 ^ k) (b % hid f))
      ∙ add-mul-div_right (b % hid f) (2 ^ p.j) K-pos
      ∙ add_comm (b % hid f / 2 ^ k) (2 ^ p.j)

  -- the size is (H + t) / 2 ^ k
  present : HasValue (of_bits f b) (leb (top f) b) (hid f + b % hid f) (2 ^ k)
  present =
      value_shorter (of_bits f b) (leb (top f) b) (hid f + b % hid f) (2 ^ k) (2 ^ p.x) (pow_pos p.x)
      (subst (λ (n : ℕ). HasValue (of_bits f b) (leb (top f) b) ((hid f + b % hid f) * 2 ^ p.x) n) unit_is
      (value_at f b p.x p.field (lt_trans (lt-suc_self (suc p.x)) p.next)))

  -- where the digits behind the point are clear, x stays
  pub clear_stays : b % 2 ^ k ≡ 0 → of_bits f b ≡ floor_s f (of_bits f b)
  clear_stays e = stays f (of_bits f b) (leb (top f) b) (hid f + b % hid f) (2 ^ k) K-pos present (fraction ∙ e)

  -- the pattern of ±(2 ^ j + v)
  at_most : (v : ℕ) → v ≤ 2 ^ p.j → v * 2 ^ k ≤ hid f
  at_most v h = subst (λ (n : ℕ). v * 2 ^ k ≤ n) (sym hid_is) (mul-le-mul_right (2 ^ k) h)

  whole_value : (s : Bool) (v : ℕ) → v ≤ 2 ^ p.j → HasValue (of_bits f (weight f s + (suc p.x * hid f + v * 2 ^ k))) s (2 ^ p.j + v) 1
  whole_value s v h =
      let n = suc p.x * hid f + v * 2 ^ k in
      let y = of_bits f (weight f s + n) in
      let e : (hid f + v * 2 ^ k) * 2 ^ p.x ≡ (2 ^ p.j + v) * (2 ^ k * 2 ^ p.x) =
      ap (λ (z : ℕ). (z + v * 2 ^ k) * 2 ^ p.x) hid_is
      ∙ ap (λ (z : ℕ). z * 2 ^ p.x) (sym (add-mul (2 ^ p.j) v (2 ^ k)))
      ∙ mul_assoc (2 ^ p.j + v) (2 ^ k) (2 ^ p.x) in
      value_shorter y s (2 ^ p.j + v) 1 (2 ^ k * 2 ^ p.x) (mul-pos K-pos (pow_pos p.x))
      (subst (λ (z : ℕ). HasValue y s ((2 ^ p.j + v) * (2 ^ k * 2 ^ p.x)) z) (unit_is ∙ sym (one-mul (2 ^ k * 2 ^ p.x)))
      (subst (λ (z : ℕ). HasValue y s z (2 ^ low f)) (carried (hid f) p.x (v * 2 ^ k) (hid_pos f) (at_most v h) ∙ e)
      (signed_value f s n (fine v h))))
    where
      fine : (v : ℕ) → v ≤ 2 ^ p.j → suc p.x * hid f + v * 2 ^ k < endless f
      fine v h = lt_of_le_of_lt (add-le-add (le_refl (suc p.x * hid f)) (at_most v h)) (subst (λ (z : ℕ). z < endless f) (suc-mul (suc p.x) (hid f)) (mul-lt-mul_of_pos_right p.next (hid_pos f)))

  -- the sign's weight and the field are a number A of blocks of 2 ^ k
  blocks : (s : Bool) → (A : ℕ) × (A * 2 ^ k ≡ weight f s + suc p.x * hid f)
  blocks true = (
    2 ^ p.j * suc (ones f) + suc p.x * 2 ^ p.j,
    add-mul (2 ^ p.j * suc (ones f)) (suc p.x * 2 ^ p.j) (2 ^ k)
        ∙ ap (λ (n : ℕ). n + suc p.x * 2 ^ p.j * 2 ^ k) (mul_right_comm (2 ^ p.j) (suc (ones f)) (2 ^ k) ∙ ap (λ (n : ℕ). n * suc (ones f)) (sym hid_is))
        ∙ ap (λ (n : ℕ). top f + n) (mul_assoc (suc p.x) (2 ^ p.j) (2 ^ k) ∙ ap (λ (n : ℕ). suc p.x * n) (sym hid_is)),
  )
  blocks false = (
    suc p.x * 2 ^ p.j,
    mul_assoc (suc p.x) (2 ^ p.j) (2 ^ k) ∙ ap (λ (n : ℕ). suc p.x * n) (sym hid_is) ∙ sym (zero-add (suc p.x * hid f)),
  )

  -- the pattern with the digits behind the point cleared, and one more block where x is negative
  cleared : (s : Bool) (a : ℕ) → b ≡ weight f s + b % top f → (b / 2 ^ k + a) * 2 ^ k ≡ weight f s + (suc p.x * hid f + (b % hid f / 2 ^ k + a) * 2 ^ k)
  cleared s a e =
      let A = blocks s in
      let t = b % hid f in
      let whole : b ≡ A.0 * 2 ^ k + t =
      e
      ∙ ap (λ (n : ℕ). weight f s + n) (rest_is f b ∙ ap (λ (n : ℕ). n * hid f + t) p.field)
      ∙ sym (add_assoc (weight f s) (suc p.x * hid f) t)
      ∙ ap (λ (n : ℕ). n + t) (sym A.1) in
      let quotient : b / 2 ^ k ≡ A.0 + t / 2 ^ k =
      ap (λ (n : ℕ). n / 2 ^ k) (whole ∙ add_comm (A.0 * 2 ^ k) t) ∙ add-mul-div_right t A.0 K-pos ∙ add_comm (t / 2 ^ k) A.0 in
      ap (λ (n : ℕ). (n + a) * 2 ^ k) quotient
      ∙ ap (λ (n : ℕ). n * 2 ^ k) (add_assoc A.0 (t / 2 ^ k) a)
      ∙ add-mul A.0 (t / 2 ^ k + a) (2 ^ k)
      ∙ ap (λ (n : ℕ). n + (t / 2 ^ k + a) * 2 ^ k) A.1
      ∙ add_assoc (weight f s) (suc p.x * hid f) ((t / 2 ^ k + a) * 2 ^ k)

  digits_before : b % hid f / 2 ^ k < 2 ^ p.j
  digits_before = (div-lt_iff_lt-mul K-pos).1 (subst (λ (n : ℕ). b % hid f < n) hid_is (mod-lt b (hid_pos f)))

  before_lt : (hid f + b % hid f) / 2 ^ k < 2 ^ prec f
  before_lt = lt_of_le_of_lt (div-le_self (hid f + b % hid f) (2 ^ k)) (full f (b % hid f) (mod-lt b (hid_pos f)))
    where
      full : (f : Format) (t : ℕ) → t < hid f → hid f + t < 2 ^ prec f
      full binary32 t h = omega arith
      full binary64 t h = omega arith

  falls_to : (s : Bool) (a : ℕ) → leb (top f) b ≡ s → b ≡ weight f s + b % top f → (b % 2 ^ k ≡ 0 → ⊥) → b % hid f / 2 ^ k + a ≤ 2 ^ p.j → 2 ^ p.j + (b % hid f / 2 ^ k + a) ≡ size_below s (2 ^ p.j + b % hid f / 2 ^ k) → of_bits f ((b / 2 ^ k + a) * 2 ^ k) ≡ floor_s f (of_bits f b)
  falls_to s a g e n l z =
      let y = of_bits f ((b / 2 ^ k + a) * 2 ^ k) in
      falls f (of_bits f b) s (hid f + b % hid f) (2 ^ k) K-pos
      (subst (λ (u : Bool). HasValue (of_bits f b) u (hid f + b % hid f) (2 ^ k)) g present)
      (λ q. n (sym fraction ∙ q))
      before_lt
      y
      (of_bits-fits f ((b / 2 ^ k + a) * 2 ^ k))
      (subst (λ (q : ℕ). HasValue y s q 1) (z ∙ ap (size_below s) (sym before))
      (subst (λ (c : ℕ). HasValue (of_bits f c) s (2 ^ p.j + (b % hid f / 2 ^ k + a)) 1) (sym (cleared s a e)) (whole_value s (b % hid f / 2 ^ k + a) l)))

  -- toward zero from above it, away from zero below it
  pub cut_positive : b < top f → (b % 2 ^ k ≡ 0 → ⊥) → of_bits f (b / 2 ^ k * 2 ^ k) ≡ floor_s f (of_bits f b)
  cut_positive h n =
      ap (λ (c : ℕ). of_bits f (c * 2 ^ k)) (sym (add-zero (b / 2 ^ k)))
      ∙ falls_to false 0 (lt-leb (top f) b h) (sym (zero-add (b % top f) ∙ mod-eq_of_lt h)) n
      (subst (λ (v : ℕ). v ≤ 2 ^ p.j) (sym (add-zero (b % hid f / 2 ^ k))) (le_of_lt digits_before))
      (ap (λ (v : ℕ). 2 ^ p.j + v) (add-zero (b % hid f / 2 ^ k)))

  pub cut_negative : top f ≤ b → b < 2 * top f → (b % 2 ^ k ≡ 0 → ⊥) → of_bits f ((b + (2 ^ k - 1)) / 2 ^ k * 2 ^ k) ≡ floor_s f (of_bits f b)
  cut_negative h l n =
      ap (λ (c : ℕ). of_bits f (c * 2 ^ k)) (add_one_block b (2 ^ k) K-pos n)
      ∙ falls_to true 1 (le-leb (top f) b h) (halves f b h l) n
      (above (b % hid f / 2 ^ k) (2 ^ p.j) digits_before)
      (more (2 ^ p.j) (b % hid f / 2 ^ k))
    where
      halves : (f : Format) (b : ℕ) → top f ≤ b → b < 2 * top f → b ≡ top f + b % top f
      halves binary32 b h l = omega arith
      halves binary64 b h l = omega arith

      above : (v g : ℕ) → v < g → v + 1 ≤ g
      above v g h = omega arith

      more : (g v : ℕ) → g + (v + 1) ≡ suc (g + v)
      more g v = omega arith
