-- Clearing the low k bits of a value's pattern, `cut`, for k up to prec - 1:
--   `cut-le`, `le-cut`: it takes a value toward zero; `cut-neg`: it goes through a change of sign;
--   `cut-mono`: it keeps the order of finite values, whatever their signs;
--   `cut-near`: of a value of V units it takes off at most (V + 2 ^ (prec - 1)) / 2 ^ (prec - 1 - k) units.
-- Assumes nothing.
use mathlib.Core.Path.{◌≡◌, refl, sym, ap, ◌∙◌, subst}
use Prim.Native.Nat.{ℕ, zero, suc, ◌+◌, ◌-◌, ◌*◌, ◌/◌, ◌%◌, ◌^◌, ◌≤◌, ◌<◌}
use native.Mathlib.Nat.{lt_of_le_of_lt, mul_comm, mul_assoc, mul_right_comm, add-mul, add-zero, mul-le-mul_right, div-mul-le_self}
use native.Mathlib.Nat.{div-add-mod, div-add-mod', div-eq_of_lt, mod-lt, mod-eq_of_lt, mul-add-div, mul-add-mod_self_left}
use native.Mathlib.Omega.{arith}
use mathlib.Core.Bool.{Bool, true, false, not}
use lib.IntN.{ℤ}
use lib.Dec.{T}
use lib.Pow.{pow_pos, pow-add, shr_mono}
use lib.Ieee.{Float, nan, inf, fin, Format, prec, hid, ones, of_bits, to_bits, fits, le, neg}
use lib.Ieee.Bits.{of_bits-to_bits}
use lib.Ieee.Digits.{back}
use lib.Ieee.Fits.{neg-fits}
use lib.Ieee.Scale.{finite}
use Rattle.rounding.proofs.Signed.{Signed, value_signed, le_signed, le_neg}
use Rattle.rounding.proofs.Order.{le_trans}
use Rattle.rounding.proofs.BitOrder.{scaled, bit_val, hid_pos, under_top, bits_val, bits_le, le_bits}
use Rattle.rounding.proofs.BitOrder.{to_bits_under, bits_neg, to_bits_neg}

-- the value with the low k bits of its pattern cleared
unfoldable pub cut : Format → ℕ → Float → Float
cut f k x = of_bits f (to_bits f x / 2 ^ k * 2 ^ k)

pub cut_is : (f : Format) (k : ℕ) (x : Float) → cut f k x ≡ of_bits f (to_bits f x / 2 ^ k * 2 ^ k)
unfolding cut
cut_is f k x = refl

-- ---- values with no minus sign

-- a value with no minus sign is cut to at most itself
pub cut_le : (f : Format) (k m : ℕ) (e : ℤ) → T (fits f (fin false m e)) → T (le (cut f k (fin false m e)) (fin false m e))
cut_le f k m e F =
    let b = to_bits f (fin false m e) in
    rw (cut_is f k (fin false m e))
    (subst (λ (z : Float). T (le (of_bits f (b / 2 ^ k * 2 ^ k)) z)) (of_bits-to_bits f (fin false m e) F)
    (bits_le f (b / 2 ^ k * 2 ^ k) b (div-mul-le_self b (2 ^ k)) (to_bits_under f m e F)))

cut_mono_plus : (f : Format) (k m : ℕ) (e : ℤ) (n : ℕ) (d : ℤ) → T (fits f (fin false m e)) → T (fits f (fin false n d))
    → T (le (fin false m e) (fin false n d)) → T (le (cut f k (fin false m e)) (cut f k (fin false n d)))
cut_mono_plus f k m e n d F G h =
    let b = to_bits f (fin false m e) in
    let c = to_bits f (fin false n d) in
    let C = to_bits_under f n d G in
    let bc : b ≤ c = le_bits f b c (to_bits_under f m e F) C (rw (of_bits-to_bits f (fin false m e) F, of_bits-to_bits f (fin false n d) G) h) in
    rw (cut_is f k (fin false m e), cut_is f k (fin false n d))
    (bits_le f (b / 2 ^ k * 2 ^ k) (c / 2 ^ k * 2 ^ k) (mul-le-mul_right (2 ^ k) (shr_mono k bc))
    (lt_of_le_of_lt (div-mul-le_self c (2 ^ k)) C))

cut_plus : (f : Format) (k m : ℕ) (e : ℤ) → T (fits f (fin false m e)) → Signed false (cut f k (fin false m e))
cut_plus f k m e F =
    let b = to_bits f (fin false m e) in
    subst (λ (z : Float). Signed false z) (sym (cut_is f k (fin false m e)))
    (value_signed (of_bits f (b / 2 ^ k * 2 ^ k)) false _ _
    (bits_val f (b / 2 ^ k * 2 ^ k) (lt_of_le_of_lt (div-mul-le_self b (2 ^ k)) (to_bits_under f m e F))))

-- ---- the other sign

-- clearing low bits leaves a multiple of 2 ^ k alone
spread : (t b k c : ℕ) → 0 < k → t ≡ k * c → (t + b) / k * k ≡ t + b / k * k
spread t b k c K h =
    ap (λ (z : ℕ). (z + b) / k * k) h
    ∙ ap (λ (z : ℕ). z * k) (mul-add-div K c b)
    ∙ add-mul c (b / k) k
    ∙ ap (λ (z : ℕ). z + b / k * k) (mul_comm c k ∙ sym h)

hid_split : (f : Format) (k : ℕ) → k ≤ prec f - 1 → hid f ≡ 2 ^ k * 2 ^ (prec f - 1 - k)
hid_split f k h =
    ap (λ (z : ℕ). 2 ^ z) (sym (back (prec f - 1) k h)) ∙ pow-add 2 (prec f - 1 - k) k ∙ mul_comm (2 ^ (prec f - 1 - k)) (2 ^ k)

-- so it leaves what stands above the digits alone
spread_hid : (f : Format) (k x t : ℕ) → k ≤ prec f - 1 → (hid f * x + t) / 2 ^ k * 2 ^ k ≡ hid f * x + t / 2 ^ k * 2 ^ k
spread_hid f k x t K =
    spread (hid f * x) t (2 ^ k) (2 ^ (prec f - 1 - k) * x) (pow_pos k)
    (ap (λ (z : ℕ). z * x) (hid_split f k K) ∙ mul_assoc (2 ^ k) (2 ^ (prec f - 1 - k)) x)

-- a cut goes through a change of sign
pub cut_neg : (f : Format) (k m : ℕ) (e : ℤ) → k ≤ prec f - 1 → T (fits f (fin false m e))
    → cut f k (fin true m e) ≡ neg (cut f k (fin false m e))
cut_neg f k m e K F =
    let b = to_bits f (fin false m e) in
    cut_is f k (fin true m e)
    ∙ ap (λ (z : ℕ). of_bits f (z / 2 ^ k * 2 ^ k)) (to_bits_neg f m e)
    ∙ ap (of_bits f) (spread_hid f k (suc (ones f)) b K)
    ∙ bits_neg f (b / 2 ^ k * 2 ^ k) (lt_of_le_of_lt (div-mul-le_self b (2 ^ k)) (under_top f b (to_bits_under f m e F)))
    ∙ ap neg (sym (cut_is f k (fin false m e)))

neg_fin : (s : Bool) (m : ℕ) (e : ℤ) → neg (fin s m e) ≡ fin (not s) m e
unfolding neg
neg_fin s m e = refl

plus_fits : (f : Format) (m : ℕ) (e : ℤ) → T (fits f (fin true m e)) → T (fits f (fin false m e))
plus_fits f m e F = subst (λ (z : Float). T (fits f z)) (neg_fin true m e) (neg-fits f (fin true m e) F)

-- a value with a minus sign is cut to at least itself
pub le_cut : (f : Format) (k m : ℕ) (e : ℤ) → k ≤ prec f - 1 → T (fits f (fin true m e)) → T (le (fin true m e) (cut f k (fin true m e)))
le_cut f k m e K F =
    let G = plus_fits f m e F in
    rw (cut_neg f k m e K G)
    (subst (λ (z : Float). T (le z (neg (cut f k (fin false m e))))) (neg_fin false m e)
    (le_neg (cut f k (fin false m e)) (fin false m e) (cut_le f k m e G)))

flip_le : (m : ℕ) (e : ℤ) (n : ℕ) (d : ℤ) → T (le (fin true m e) (fin true n d)) → T (le (fin false n d) (fin false m e))
flip_le m e n d h = rw (neg_fin true m e, neg_fin true n d) at (le_neg (fin true m e) (fin true n d) h)

neg_signed : (x : Float) → Signed false x → Signed true (neg x)
unfolding neg
neg_signed nan p = p
neg_signed (inf s) p = ap not p
neg_signed (fin s m e) p = ap not p

-- ---- the order

-- a cut keeps the order of finite values
pub cut_mono : (f : Format) (k : ℕ) (x y : Float) → k ≤ prec f - 1 → T (fits f x) → T (fits f y) → T (finite x) → T (finite y)
    → T (le x y) → T (le (cut f k x) (cut f k y))
cut_mono f k nan y K F G X Y h = absurd X
cut_mono f k (inf s) y K F G X Y h = absurd X
cut_mono f k (fin s m e) nan K F G X Y h = absurd Y
cut_mono f k (fin s m e) (inf t) K F G X Y h = absurd Y
cut_mono f k (fin false m e) (fin false n d) K F G X Y h = cut_mono_plus f k m e n d F G h
cut_mono f k (fin false m e) (fin true n d) K F G X Y h =
    le_trans (cut f k (fin false m e)) (fin false m e) (cut f k (fin true n d)) (cut_le f k m e F)
    (le_trans (fin false m e) (fin true n d) (cut f k (fin true n d)) h (le_cut f k n d K G))
cut_mono f k (fin true m e) (fin false n d) K F G X Y h =
    let F+ = plus_fits f m e F in
    rw (cut_neg f k m e K F+)
    (le_signed (neg (cut f k (fin false m e))) (cut f k (fin false n d))
    (neg_signed (cut f k (fin false m e)) (cut_plus f k m e F+)) (cut_plus f k n d G))
cut_mono f k (fin true m e) (fin true n d) K F G X Y h =
    let F+ = plus_fits f m e F in
    let G+ = plus_fits f n d G in
    rw (cut_neg f k m e K F+, cut_neg f k n d K G+)
    (le_neg (cut f k (fin false n d)) (cut f k (fin false m e)) (cut_mono_plus f k n d m e G+ F+ (flip_le m e n d h)))

-- ---- how much a cut takes off
scaled_near : (x t u H K S : ℕ) → t ≤ u + K → K * S ≡ H → scaled x t H * S ≤ scaled x u H * S + scaled x t H + H
scaled_near zero t u H K S h e = let a = mul-le-mul_right S h in let b = add-mul u K S in omega arith
scaled_near (suc x) t u H K S h e =
    let g = 2 ^ x in
    let h' : H + t ≤ H + u + K = omega arith in
    let a : (H + t) * g * S ≤ (H + u + K) * g * S = mul-le-mul_right S (mul-le-mul_right g h') in
    let b : (H + u + K) * g * S ≡ (H + u) * g * S + H * g =
    ap (λ (z : ℕ). z * S) (add-mul (H + u) K g)
    ∙ add-mul ((H + u) * g) (K * g) S
    ∙ ap (λ (z : ℕ). (H + u) * g * S + z) (mul_right_comm K g S ∙ ap (λ (z : ℕ). z * g) e) in
    let first : H ≤ H + t = omega arith in
    let c : H * g ≤ (H + t) * g = mul-le-mul_right g first in
    omega arith

under : (t k : ℕ) → 0 < k → t ≤ t / k * k + k
under t k K = let a = div-add-mod' t k in let b = mod-lt t K in omega arith

-- the fields of the cleared pattern: the same exponent, and the digits cleared
cleared : (f : Format) (b k : ℕ) → k ≤ prec f - 1
    → (b / 2 ^ k * 2 ^ k / hid f ≡ b / hid f) × (b / 2 ^ k * 2 ^ k % hid f ≡ b % hid f / 2 ^ k * 2 ^ k)
cleared f b k K =
    let H = hid f in
    let x = b / H in
    let t = b % H in
    let e : b / 2 ^ k * 2 ^ k ≡ H * x + t / 2 ^ k * 2 ^ k =
    ap (λ (z : ℕ). z / 2 ^ k * 2 ^ k) (sym (div-add-mod b H)) ∙ spread_hid f k x t K in
    let s : t / 2 ^ k * 2 ^ k < H = lt_of_le_of_lt (div-mul-le_self t (2 ^ k)) (mod-lt b (hid_pos f)) in (
      ap (λ (z : ℕ). z / H) e ∙ mul-add-div (hid_pos f) x (t / 2 ^ k * 2 ^ k) ∙ ap (λ (z : ℕ). x + z) (div-eq_of_lt s) ∙ add-zero x,
      ap (λ (z : ℕ). z % H) e ∙ mul-add-mod_self_left H x (t / 2 ^ k * 2 ^ k) ∙ mod-eq_of_lt s,
    )

-- a value, times S = 2 ^ (prec - 1 - k), is at most that of the cleared pattern, times S, and itself and 2 ^ (prec - 1) more
pub cut_near : (f : Format) (b k : ℕ) → k ≤ prec f - 1
    → bit_val f b * 2 ^ (prec f - 1 - k) ≤ bit_val f (b / 2 ^ k * 2 ^ k) * 2 ^ (prec f - 1 - k) + bit_val f b + hid f
cut_near f b k K =
    let c = cleared f b k K in
    let S = 2 ^ (prec f - 1 - k) in
    let u = b % hid f / 2 ^ k * 2 ^ k in
    let n = scaled_near (b / hid f) (b % hid f) u (hid f) (2 ^ k) S (under (b % hid f) (2 ^ k) (pow_pos k)) (sym (hid_split f k K)) in
    subst (λ (z : ℕ). bit_val f b * S ≤ scaled z (b / 2 ^ k * 2 ^ k % hid f) (hid f) * S + bit_val f b + hid f) (sym c.0)
    (subst (λ (z : ℕ). bit_val f b * S ≤ scaled (b / hid f) z (hid f) * S + bit_val f b + hid f) (sym c.1) n)
