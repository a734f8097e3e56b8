-- The Rust's way to floor, by masks on the bit pattern, comes to `floor_s` for every pattern of the format (`by_bits`). Assumes nothing.
use Rattle.std.specs.Prelude.{if◌then◌else◌}
use Rattle.std.proofs.Common.{◌≡◌, ℕ, ◌+◌, ◌-◌, ◌*◌, ◌/◌, ◌%◌, ◌^◌, ◌<◌, ◌≤◌, Bool, true, false, not, T, eqb, sym, ap, ◌∙◌, subst, inl, inr, mod-eq_of_lt, eq-zero-or-pos, pos_of_ne-zero, div-le_self, arith, eqb→eq, ltb→lt, leb→le, nltb→le, pow_pos, eq-eqb, le-leb}
use lib.Bits.{bit_and, and_mask, and_high}
use lib.Dec.{nleb→lt}
use lib.Pow as Pow
use lib.Ieee.{Format, binary32, binary64, prec, emax, hid, top, of_bits}
use lib.Ieee.Bits.{of_bits-fits}
use borrow.Author.Tests.{lt-leb}
use Rattle.words.specs.Tests.{◌<?◌, ◌≥?◌, ◌=?◌, ◌≠?◌}
use Rattle.words.proofs.PatternLaws.{field_of}
use Rattle.floor.specs.Floor.{floor_s}
use Rattle.floor.specs.FloorBits.{others, from_one, below_one, floor_bits_s}
use Rattle.floor.proofs.FloorLaws.{whole_from, no_fraction, zero_stays, tiny_falls, Split, split, clear_stays, cut_positive, cut_negative}
use Rattle.floor.proofs.FloorCode.{minus_one, zero_is, minus_one_is}

-- m, for an exponent's field e
abbrev mask_of : Format → ℕ → ℕ
mask_of f e = (hid f - 1) / 2 ^ (e - emax f)

-- ---- the masks as quotients and remainders
-- how many digits stand behind the point
abbrev behind : Format → ℕ → ℕ
behind f e = whole_from f - e

ones_shr : (i k : ℕ) → (2 ^ (k + i) - 1) / 2 ^ i ≡ 2 ^ k - 1
ones_shr i k = ap (λ (n : ℕ). n / 2 ^ i) (Pow.ones_split k i) ∙ Pow.high (2 ^ k - 1) i (Pow.ones_lt i)

mask_is : (f : Format) (e : ℕ) → emax f ≤ e → e < whole_from f → mask_of f e ≡ 2 ^ behind f e - 1
mask_is f e h l = ap (λ (n : ℕ). (2 ^ n - 1) / 2 ^ (e - emax f)) (parts f e h l) ∙ ones_shr (e - emax f) (behind f e)
  where
    parts : (f : Format) (e : ℕ) → emax f ≤ e → e < whole_from f → prec f - 1 ≡ behind f e + (e - emax f)
    parts binary32 e h l = omega arith
    parts binary64 e h l = omega arith

-- clearing the last k of w digits
clear_low : (c j k : ℕ) → c < 2 ^ (j + k) → bit_and c (2 ^ (j + k) - 1 - (2 ^ k - 1)) ≡ c / 2 ^ k * 2 ^ k
clear_low c j k h =
    ap (bit_and c) (less (2 ^ (j + k)) (2 ^ k) (pow_pos k))
    ∙ and_high c j k
    ∙ ap (λ (n : ℕ). n * 2 ^ k) (Pow.shr_mod j k h)
  where
    less : (a b : ℕ) → 0 < b → a - 1 - (b - 1) ≡ a - b
    less a b h = omega arith

by_width : (w c k : ℕ) → k ≤ w → c < 2 ^ w → bit_and c (2 ^ w - 1 - (2 ^ k - 1)) ≡ c / 2 ^ k * 2 ^ k
by_width w c k h l =
    let e : w ≡ w - k + k = omega arith in
    ap (λ (n : ℕ). bit_and c (2 ^ n - 1 - (2 ^ k - 1))) e
    ∙ clear_low c (w - k) k (subst (λ (n : ℕ). c < 2 ^ n) e l)

clears : (f : Format) (c e : ℕ) → emax f ≤ e → c < 2 * top f → bit_and c (others f (2 ^ behind f e - 1)) ≡ c / 2 ^ behind f e * 2 ^ behind f e
clears binary32 c e h w = by_width 32 c (behind binary32 e) (omega arith) w
clears binary64 c e h w = by_width 64 c (behind binary64 e) (omega arith) w

-- ---- each of its cases, and all of them
either : (t : Bool) (P : ℕ → Type 0) (a b : ℕ) → (T t → P a) → (T (not t) → P b) → P (if t then a else b)
either true P a b g h = g tt
either false P a b g h = h tt

differ : (m n : ℕ) → T (not (eqb m n)) → m ≡ n → ⊥
differ m n t e = subst (λ (b : Bool). T (not b)) (eq-eqb m n e) t

module _ (f : Format) (ix : ℕ) (width : ix < 2 * top f) where
  -- n is the pattern of the floor
  abbrev Floor : ℕ → Type 0
  Floor n = of_bits f n ≡ floor_s f (of_bits f ix)

  module _ (h : emax f ≤ field_of f ix) (l : field_of f ix < whole_from f) where
    abbrev k : ℕ
    k = behind f (field_of f ix)

    abbrev m : ℕ
    m = mask_of f (field_of f ix)

    here : Split f ix k
    here = split f ix k h (adds (field_of f ix) (whole_from f) l)
      where
        adds : (e w : ℕ) → e < w → e + (w - e) ≡ w
        adds e w h = omega arith

    masked : bit_and ix m ≡ ix % 2 ^ k
    masked = ap (bit_and ix) (mask_is f (field_of f ix) h l) ∙ and_mask ix k

    unmasked : (c : ℕ) → c < 2 * top f → bit_and c (others f m) ≡ c / 2 ^ k * 2 ^ k
    unmasked c w = ap (λ (n : ℕ). bit_and c (others f n)) (mask_is f (field_of f ix) h l) ∙ clears f c (field_of f ix) h w

    carried : ix + m < 2 * top f
    carried = room f ix m width l (div-le_self (hid f - 1) (2 ^ (field_of f ix - emax f)))
      where
        room : (f : Format) (b m : ℕ) → b < 2 * top f → field_of f b < whole_from f → m ≤ hid f - 1 → b + m < 2 * top f
        room binary32 b m w l h = omega arith
        room binary64 b m w l h = omega arith

    from_one_holds : Floor (from_one f ix m)
    from_one_holds =
        either (bit_and ix m =? 0) Floor ix (if ix ≥? top f then bit_and (ix + m) (others f m) else bit_and ix (others f m))
        (λ z. clear_stays f ix k here (sym masked ∙ eqb→eq (bit_and ix m) 0 z))
        (λ z. let n : ix % 2 ^ k ≡ 0 → ⊥ = λ e. differ (bit_and ix m) 0 z (masked ∙ e) in
        either (ix ≥? top f) Floor (bit_and (ix + m) (others f m)) (bit_and ix (others f m))
        (λ s.
        ap (of_bits f) (unmasked (ix + m) carried ∙ ap (λ (c : ℕ). (ix + c) / 2 ^ k * 2 ^ k) (mask_is f (field_of f ix) h l))
        ∙ cut_negative f ix k here (leb→le (top f) ix s) width n)
        (λ s. ap (of_bits f) (unmasked ix width) ∙ cut_positive f ix k here (nleb→lt (top f) ix s) n))

  below_one_holds : field_of f ix < emax f → Floor (below_one f ix)
  below_one_holds h =
      either (ix <? top f) Floor 0 (if ix % top f ≠? 0 then minus_one f else ix)
      (λ s. plus (ltb→lt ix (top f) s))
      (λ s. let g = le-leb (top f) ix (nltb→le ix (top f) s) in
      either (ix % top f ≠? 0) Floor (minus_one f) ix
      (λ z.
      tiny_falls f ix h (of_bits f (minus_one f)) (pos_of_ne-zero (differ (ix % top f) 0 z)) (of_bits-fits f (minus_one f))
      (rw g (minus_one_is f)))
      (λ z. zero_stays f ix h (eqb→eq (ix % top f) 0 (twice (eqb (ix % top f) 0) z))))
    where
      twice : (b : Bool) → T (not (not b)) → T b
      twice true t = tt
      twice false t = absurd t

      plus : ix < top f → Floor 0
      plus l =
          elim (eq-zero-or-pos ix) [
            | inl e ↦ ap (of_bits f) (sym e) ∙ zero_stays f ix h (mod-eq_of_lt l ∙ e)
            | inr p ↦
                tiny_falls f ix h (of_bits f 0) (subst (λ (n : ℕ). 0 < n) (sym (mod-eq_of_lt l)) p) (of_bits-fits f 0) (rw (lt-leb (top f) ix l) (zero_is f))
          ]

  pub by_bits : of_bits f (floor_bits_s f ix) ≡ floor_s f (of_bits f ix)
  by_bits =
      let e = field_of f ix in
      let large = from_one f ix (mask_of f e) in
      either (e ≥? whole_from f) Floor ix (if e ≥? emax f then large else below_one f ix)
      (λ g. no_fraction f ix (leb→le (whole_from f) e g))
      (λ g. either (e ≥? emax f) Floor large (below_one f ix)
      (λ h. from_one_holds (leb→le (emax f) e h) (nleb→lt (whole_from f) e g))
      (λ h. below_one_holds (nleb→lt (emax f) e h)))
