-- The whole part and the fraction from the fields of the bit pattern b, over the format, as the code takes them apart: below 1 (`below_one`); from
-- 2 ^ 31 on (`large`), and from where on every number is whole (`no_fraction`); and between, as a quotient and its remainder (`inside`).
-- Assumes nothing.
use mathlib.Core.Path.{◌≡◌, refl, sym, ap, ◌∙◌, subst}
use mathlib.Core.Logic.{inl, inr}
use mathlib.Core.Bool.{Bool, true, false, not, cond}
use Prim.Native.Nat.{ℕ, suc, ◌+◌, ◌-◌, ◌*◌, ◌/◌, ◌%◌, ◌^◌, ◌<◌, ◌≤◌}
use native.Mathlib.Nat.{eq-zero-or-pos, eq-or-lt_of_le, le_trans, le_of_eq, div-eq_of_lt, mod-eq_of_lt, le-div_iff_mul-le, mul-le-mul_right, mul_right_comm, add_comm}
use native.Mathlib.Omega.{arith}
use lib.Dec.{eqb, leb}
use lib.IntN.{pos}
use lib.Pow.{pow-add, pow_pos, pow_mono}
use lib.Ieee.{Float, nan, inf, Format, binary32, binary64, prec, emax, hid, low, ones, top, of_fields, of_bits}
use lib.Ieee.Bits.{of_bits-fits}
use lib.Ieee.Exact.{HasValue}
use borrow.Author.Tests.{le-ltb, eq-eqb, ne_eqb}
use Rattle.rounding.proofs.BitOrder.{bits_open, bit_val, val_zero, val_pos}
use Rattle.rounding.proofs.Signed.{value_longer, value_shorter}
use Rattle.words.proofs.PatternLaws.{field_of, field_rest}
use Rattle.floor.proofs.FloorLaws as floor
use Rattle.floor.proofs.FloorLaws.{whole_from, value_at, size_lt, value}
use Rattle.whole.specs.Whole.{small, whole_s, has_fraction_s}
use Rattle.whole.proofs.WholeLaws.{whole_at}
use Rattle.whole.proofs.FractionLaws.{fraction_at, own_floor}

none : (s : Bool) → small s 0 ≡ pos 0
none true = refl
none false = refl

ends : (s b : Bool) → pos 0 ≡ whole_s (cond b (inf s) nan)
unfolding whole_s
ends s true = refl
ends s false = refl

-- the significand, moved up by g places so that every field within the range asks for a division; and the places behind the point
abbrev pub significand : Format → ℕ → ℕ → ℕ
significand f g b = (b % hid f + hid f) * 2 ^ g

abbrev pub places : Format → ℕ → ℕ → ℕ
places f g b = whole_from f + g - field_of f b

module _ (f : Format) (b : ℕ) where
  abbrev s : Bool
  s = leb (top f) b

  -- a size below one is all fraction, but for the zeros
  pub below_one_holds : field_of f b < emax f → (pos 0 ≡ whole_s (of_bits f b)) × (not (eqb (b % top f) 0) ≡ has_fraction_s (of_bits f b))
  below_one_holds h = (
    sym (whole_at (of_bits f b) s (bit_val f (b % top f)) (2 ^ low f) (pow_pos (low f)) (value f b h) ∙ ap (small s) (div-eq_of_lt (size_lt f b h)) ∙ none s),
    sym (fraction_at (of_bits f b) s (bit_val f (b % top f)) (2 ^ low f) (pow_pos (low f)) (value f b h)
        ∙ ap (λ (n : ℕ). not (eqb n 0)) (mod-eq_of_lt (size_lt f b h))
        ∙ ap not (zero-alone (b % top f))),
  )
    where
      zero-alone : (n : ℕ) → eqb (bit_val f n) 0 ≡ eqb n 0
      zero-alone n =
          elim (eq-zero-or-pos n) [
            | inl z ↦ rw z (eq-eqb (bit_val f 0) 0 (val_zero f))
            | inr p ↦ let v = val_pos f n p in ne_eqb (bit_val f n) 0 (λ z. omega arith) ∙ sym (ne_eqb n 0 (λ z. omega arith))
          ]

  not_finite : (f : Format) (x t : ℕ) → x ≡ ones f → pos 0 ≡ whole_s (of_fields f s x t)
  unfolding of_fields
  not_finite binary32 x t e = subst (λ (z : ℕ). pos 0 ≡ whole_s (of_fields binary32 s z t)) (sym e) (ends s (eqb t 0))
  not_finite binary64 x t e = subst (λ (z : ℕ). pos 0 ≡ whole_s (of_fields binary64 s z t)) (sym e) (ends s (eqb t 0))

  -- 0 from 2 ^ 31 on, an infinity and a NaN included
  pub large : emax f + 30 < field_of f b → pos 0 ≡ whole_s (of_bits f b)
  large h = elim (eq-or-lt_of_le (most f b)) [ inl e ↦ special e | inr l ↦ finite (field_of f b - 1) (back (emax f + 30) (field_of f b) h) l ]
    where
      most : (f : Format) (b : ℕ) → field_of f b ≤ ones f
      most binary32 b = omega arith
      most binary64 b = omega arith

      back : (a n : ℕ) → a < n → n ≡ suc (n - 1)
      back a n h = omega arith

      special : field_of f b ≡ ones f → pos 0 ≡ whole_s (of_bits f b)
      special e =
          subst (λ (z : Float). pos 0 ≡ whole_s z) (sym (bits_open f b))
          (not_finite f (b % top f / hid f) (b % hid f) (field_rest f b ∙ e))

      -- 2 ^ 31, where 2 ^ low stands for 1
      parts : (f : Format) (y : ℕ) → emax f + 30 ≤ y → 31 + low f ≤ prec f - 1 + y
      parts binary32 y k = omega arith
      parts binary64 y k = omega arith

      far : (y : ℕ) → emax f + 30 ≤ y → 2 ^ 31 * 2 ^ low f ≤ (hid f + b % hid f) * 2 ^ y
      far y k =
          le_trans (le_of_eq (sym (pow-add 2 31 (low f))))
          (le_trans (pow_mono (parts f y k)) (le_trans (le_of_eq (pow-add 2 (prec f - 1) y)) (mul-le-mul_right (2 ^ y) (more (hid f) (b % hid f)))))
        where
          more : (H t : ℕ) → H ≤ H + t
          more H t = omega arith

      finite : (y : ℕ) → field_of f b ≡ suc y → field_of f b < ones f → pos 0 ≡ whole_s (of_bits f b)
      finite y e l =
          let q = (hid f + b % hid f) * 2 ^ y / 2 ^ low f in
          let g : 2 ^ 31 ≤ q = (le-div_iff_mul-le (pow_pos (low f))).1 (far y (less (emax f + 30) y (subst (λ (n : ℕ). emax f + 30 < n) e h))) in
          sym (whole_at (of_bits f b) s ((hid f + b % hid f) * 2 ^ y) (2 ^ low f) (pow_pos (low f)) (value_at f b y e (subst (λ (n : ℕ). n < ones f) e l))
          ∙ rw (le-ltb q (2 ^ 31) g))
        where
          less : (a y : ℕ) → a < suc y → a ≤ y
          less a y k = omega arith

  pub no_fraction : whole_from f ≤ field_of f b → false ≡ has_fraction_s (of_bits f b)
  no_fraction h = sym (own_floor f (of_bits f b) (of_bits-fits f b) (floor.no_fraction f b h))

  -- from 1 on, up to the size whose point stands behind the last place
  module _ (g : ℕ) (h : emax f ≤ field_of f b) (k : field_of f b ≤ whole_from f + g) (l : field_of f b < ones f) where
    -- x is the significand, divided by 2 to the places behind the point
    quotient : HasValue (of_bits f b) s (significand f g b) (2 ^ places f g b)
    quotient = go (field_of f b - 1) (back f (field_of f b) h)
      where
        back : (f : Format) (n : ℕ) → emax f ≤ n → n ≡ suc (n - 1)
        back binary32 n h = omega arith
        back binary64 n h = omega arith

        point : (f : Format) (n y : ℕ) → n ≡ suc y → n ≤ whole_from f + g → low f + g ≡ whole_from f + g - n + y
        point binary32 n y e k = omega arith
        point binary64 n y e k = omega arith

        go : (y : ℕ) → field_of f b ≡ suc y → HasValue (of_bits f b) s (significand f g b) (2 ^ places f g b)
        go y e =
            let x = of_bits f b in
            let top : (hid f + b % hid f) * 2 ^ y * 2 ^ g ≡ significand f g b * 2 ^ y =
            mul_right_comm (hid f + b % hid f) (2 ^ y) (2 ^ g) ∙ ap (λ (n : ℕ). n * 2 ^ g * 2 ^ y) (add_comm (hid f) (b % hid f)) in
            let bottom : 2 ^ low f * 2 ^ g ≡ 2 ^ places f g b * 2 ^ y =
            sym (pow-add 2 (low f) g) ∙ ap (λ (n : ℕ). 2 ^ n) (point f (field_of f b) y e k) ∙ pow-add 2 (places f g b) y in
            value_shorter x s (significand f g b) (2 ^ places f g b) (2 ^ y) (pow_pos y)
            (subst (λ (n : ℕ). HasValue x s n (2 ^ places f g b * 2 ^ y)) top
            (subst (λ (n : ℕ). HasValue x s ((hid f + b % hid f) * 2 ^ y * 2 ^ g) n) bottom
            (value_longer x s ((hid f + b % hid f) * 2 ^ y) (2 ^ low f) (2 ^ g) (value_at f b y e (subst (λ (n : ℕ). n < ones f) e l)))))

    pub inside : (small s (significand f g b / 2 ^ places f g b) ≡ whole_s (of_bits f b))
        × (not (eqb (significand f g b % 2 ^ places f g b) 0) ≡ has_fraction_s (of_bits f b))
    inside =
        let W = pow_pos (places f g b) in
        (sym (whole_at (of_bits f b) s (significand f g b) (2 ^ places f g b) W quotient), sym (fraction_at (of_bits f b) s (significand f g b) (2 ^ places f g b) W quotient))
