-- A bit pattern and its value, over the format: which patterns are a NaN's, what the sign bit is worth, and the pattern without it, which is that of the
-- size (`size-pattern`; the size itself: `fabs-fin`, `fabs-neg`). Assumes nothing.
use mathlib.Core.Path.{◌≡◌, refl, sym, ap, ◌∙◌, subst}
use mathlib.Core.Logic.{inl, inr}
use Prim.Native.Nat.{ℕ, zero, suc, ◌+◌, ◌-◌, ◌*◌, ◌/◌, ◌%◌, ◌^◌, ◌<◌, ◌≤◌}
use native.Mathlib.Nat.{add-zero, suc-mul, pow-succ', mul_assoc, eq-or-lt_of_le, zero-add, le-add_right, mod-eq_of_lt, add-mod_left, div-lt_iff_lt-mul, mul_right_comm, le_trans, mod-le, add-mul, div-add-mod', div-mul-le_self, mul-add-div_right, mul-add-mod_self_right}
use native.Mathlib.Omega.{arith}
use mathlib.Core.Bool.{Bool, true, false, not, cond}
use lib.IntN.{ℤ}
use lib.Dec.{T, leb}
use lib.Arith.{digits_div, digits_mod}
use lib.Pow as Pow
use lib.Ieee.{Float, nan, inf, fin, Format, binary32, binary64, prec, low, up, down, size, hid, ones, top, to_bits, of_fields, of_bits, is_nan, nan_bits, neg, ne, eq, fits}
use lib.Ieee.Bits.{is_false, of_bits-to_bits, nan_bits_is, nan_bits_above}
use lib.Ieee.Compare.{differs_from_itself}
use lib.Ieee.Exact.{HasValue}
use lib.Ieee.Fits.{down_pos}
use lib.Ieee.Nearest.{div_same}
use borrow.Author.Tests.{lt-ltb, le-ltb, le-leb, lt-leb, ltb-false}
use Rattle.rounding.proofs.BitOrder.{fields_val, to_bits_under, to_bits_neg, scaled, bit_val, hid_pos, endless, under_top, bits_open}
use Rattle.rounding.proofs.Cut.{cut, cut_is}
use Rattle.words.specs.Bits.{with_low_word_s, with_high_word_s}
use Rattle.words.specs.Fabs.{fabs_s}

-- ---- the NaN
-- x differs from itself: it is the NaN, and has the one pattern
pub nan_is : (x : Float) → ne x x ≡ true → x ≡ nan
nan_is x e = differs_from_itself x (subst T (sym e) tt)

pub not_nan : (x : Float) → ne x x ≡ false → T (not (is_nan x))
unfolding ne eq is_nan
not_nan nan e = subst T e tt
not_nan (inf s) e = tt
not_nan (fin s m d) e = tt

-- what keeps the NaN gives x back where x is one
pub nan_kept : (g : Float → Float) → g nan ≡ nan → (x : Float) → ne x x ≡ true → x ≡ g x
nan_kept g e x h = nan_is x h ∙ sym e ∙ ap g (sym (nan_is x h))

pub nan_pattern : (f : Format) (x : Float) → ne x x ≡ true → ones f * hid f + hid f / 2 ≡ to_bits f x
unfolding to_bits
nan_pattern f x e = ap (to_bits f) (sym (nan_is x e))

of_is_nan : (x : Float) → is_nan x ≡ true → x ≡ nan
unfolding is_nan
of_is_nan nan e = refl
of_is_nan (inf s) e = absurd (subst T (sym e) tt)
of_is_nan (fin s m d) e = absurd (subst T (sym e) tt)

-- the patterns past the infinity's are a NaN's, and no others are
pub pattern_nan : (f : Format) (n : ℕ) → ones f * hid f < n % top f → nan ≡ of_bits f n
pattern_nan f n h =
    sym (of_is_nan (of_bits f n) (sym (nan_bits_is f n) ∙ nan_bits_above f n ∙ lt-ltb _ _ h))

pub pattern_not_nan : (f : Format) (n : ℕ) → n % top f ≤ ones f * hid f → T (not (nan_bits f n))
pattern_not_nan f n h = subst (λ (b : Bool). T (not b)) (sym (nan_bits_above f n ∙ le-ltb _ _ h)) tt

-- ---- the sign bit
-- a sign neither makes a number fit nor keeps it from fitting
pub fits_any_sign : (f : Format) (s t : Bool) (m : ℕ) (e : ℤ) → T (fits f (fin s m e)) → T (fits f (fin t m e))
unfolding fits
fits_any_sign f s t zero e h = h
fits_any_sign f s t (suc m) e h = h

unsigned_lt : (f : Format) (m : ℕ) (e : ℤ) → T (fits f (fin false m e)) → to_bits f (fin false m e) < top f
unsigned_lt f m e h = under_top f (to_bits f (fin false m e)) (to_bits_under f m e h)

pub unsigned_rest : (f : Format) (s : Bool) (m : ℕ) (e : ℤ) → T (fits f (fin false m e)) → to_bits f (fin s m e) % top f ≡ to_bits f (fin false m e)
unsigned_rest f true m e h =
    ap (λ (n : ℕ). n % top f) (to_bits_neg f m e) ∙ add-mod_left (top f) _ ∙ mod-eq_of_lt (unsigned_lt f m e h)
unsigned_rest f false m e h = mod-eq_of_lt (unsigned_lt f m e h)

-- the bits of -x without the sign are those of x
pub rest_neg : (f : Format) (x : Float) → to_bits f (neg x) % top f ≡ to_bits f x % top f
unfolding neg to_bits
rest_neg f nan = refl
rest_neg binary32 (inf true) = refl
rest_neg binary32 (inf false) = refl
rest_neg binary64 (inf true) = refl
rest_neg binary64 (inf false) = refl
rest_neg f (fin true m e) = sym (ap (λ (n : ℕ). n % top f) (to_bits_neg f m e) ∙ add-mod_left (top f) (to_bits f (fin false m e)))
rest_neg f (fin false m e) = ap (λ (n : ℕ). n % top f) (to_bits_neg f m e) ∙ add-mod_left (top f) (to_bits f (fin false m e))

-- ---- the size
pub fabs_fin : (s : Bool) (m : ℕ) (e : ℤ) → fabs_s (fin s m e) ≡ fin false m e
unfolding fabs_s
fabs_fin s m e = refl

-- that of -x is that of x
pub fabs_neg : (x : Float) → fabs_s (neg x) ≡ fabs_s x
unfolding fabs_s neg
fabs_neg nan = refl
fabs_neg (inf s) = refl
fabs_neg (fin s m e) = refl

-- ---- the pattern without its sign bit is the size's
nan_rest : (f : Format) → of_bits f (to_bits f nan % top f) ≡ nan
unfolding to_bits of_bits
nan_rest binary32 = refl
nan_rest binary64 = refl

inf_rest : (f : Format) (s : Bool) → of_bits f (to_bits f (inf s) % top f) ≡ inf false
unfolding to_bits of_bits
inf_rest binary32 true = refl
inf_rest binary32 false = refl
inf_rest binary64 true = refl
inf_rest binary64 false = refl

pub size_pattern : (f : Format) (x : Float) → fits f x ≡ true → of_bits f (to_bits f x % top f) ≡ fabs_s x
unfolding fabs_s
size_pattern f nan q = nan_rest f
size_pattern f (inf s) q = inf_rest f s
size_pattern f (fin s m e) q =
    let h = fits_any_sign f s false m e (subst T (sym q) tt) in
    ap (of_bits f) (unsigned_rest f s m e h) ∙ of_bits-to_bits f (fin false m e) h

-- with no sign bit x is its own size
pub fabs_plus : (f : Format) (x : Float) → fits f x ≡ true → to_bits f x < top f → fabs_s x ≡ x
fabs_plus f x q h = sym (size_pattern f x q) ∙ ap (of_bits f) (mod-eq_of_lt h) ∙ of_bits-to_bits f x (subst T (sym q) tt)

-- ---- an f64 with one word cleared
pub low_cleared : (x : Float) → with_low_word_s x 0 ≡ cut binary64 32 x
low_cleared x = ap (of_bits binary64) (add-zero (to_bits binary64 x / 2 ^ 32 * 2 ^ 32)) ∙ sym (cut_is binary64 32 x)

pub high_alone : (hi : ℕ) → with_high_word_s (of_bits binary64 0) hi ≡ of_bits binary64 (hi * 2 ^ 32)
unfolding to_bits of_bits
high_alone hi = ap (of_bits binary64) (add-zero (hi * 2 ^ 32))

-- ---- the value of a pattern, in units of the format's smallest value
-- the digits' field is the same with the sign bit and without
pub digits_rest : (f : Format) (b : ℕ) → b % top f % hid f ≡ b % hid f
digits_rest binary32 b = Pow.mod-mod-pow b 8 23
digits_rest binary64 b = Pow.mod-mod-pow b 11 52

pub pattern_value : (f : Format) (b : ℕ) → b % top f < endless f → HasValue (of_bits f b) (leb (top f) b) (bit_val f (b % top f)) (2 ^ low f)
pattern_value f b h =
    subst (λ (z : Float). HasValue z (leb (top f) b) (bit_val f (b % top f)) (2 ^ low f))
    (sym (bits_open f b ∙ ap (of_fields f (leb (top f) b) (b % top f / hid f)) (sym (digits_rest f b))))
    (fields_val f (leb (top f) b) (b % top f / hid f) (b % top f % hid f) ((div-lt_iff_lt-mul (hid_pos f)).1 h))

-- the same of a pattern that is put together: the sign's weight, and n
abbrev pub weight : Format → Bool → ℕ
weight f s = cond s (top f) 0

pub signed_value : (f : Format) (s : Bool) (n : ℕ) → n < endless f → HasValue (of_bits f (weight f s + n)) s (bit_val f n) (2 ^ low f)
signed_value f s n h =
    let t : n < top f = under_top f n h in
    subst (λ (b : Bool). HasValue (of_bits f (weight f s + n)) b (bit_val f n) (2 ^ low f)) (sign s t)
    (subst (λ (r : ℕ). HasValue (of_bits f (weight f s + n)) (leb (top f) (weight f s + n)) (bit_val f r) (2 ^ low f)) (rest s t)
    (pattern_value f (weight f s + n) (subst (λ (r : ℕ). r < endless f) (sym (rest s t)) h)))
  where
    rest : (s : Bool) → n < top f → (weight f s + n) % top f ≡ n
    rest true t = add-mod_left (top f) n ∙ mod-eq_of_lt t
    rest false t = ap (λ (z : ℕ). z % top f) (zero-add n) ∙ mod-eq_of_lt t

    sign : (s : Bool) → n < top f → leb (top f) (weight f s + n) ≡ s
    sign true t = le-leb (top f) (top f + n) (le-add_right (top f) n)
    sign false t = ap (leb (top f)) (zero-add n) ∙ lt-leb (top f) n t

-- ---- the exponent's field
abbrev pub field_of : Format → ℕ → ℕ
field_of f b = b / hid f % suc (ones f)

-- a pattern is its sign's weight, its field and its digits
pub rest_is : (f : Format) (b : ℕ) → b % top f ≡ field_of f b * hid f + b % hid f
rest_is binary32 b = Pow.mod-pow-add b 8 23
rest_is binary64 b = Pow.mod-pow-add b 11 52

-- Field x + 1 and digits u: (H + u) * 2 ^ x units. That holds at u = H too, where the digits carry into the field.
pub carried : (H x u : ℕ) → 0 < H → u ≤ H → scaled ((suc x * H + u) / H) ((suc x * H + u) % H) H ≡ (H + u) * 2 ^ x
carried H x u h k = elim (eq-or-lt_of_le k) [ inl e ↦ full e | inr l ↦ part l ]
  where
    at : (q r : ℕ) → r < H → scaled ((q * H + r) / H) ((q * H + r) % H) H ≡ scaled q r H
    at q r l =
        ap (λ (z : ℕ). scaled z ((q * H + r) % H) H) (digits_div q l) ∙ ap (λ (z : ℕ). scaled q z H) (digits_mod q l)

    part : u < H → scaled ((suc x * H + u) / H) ((suc x * H + u) % H) H ≡ (H + u) * 2 ^ x
    part l = at (suc x) u l

    -- the next field, and no digits
    next : suc x * H + H ≡ suc (suc x) * H + 0
    next = sym (add-zero (suc (suc x) * H) ∙ suc-mul (suc x) H)

    twice : (H + 0) * 2 ^ suc x ≡ (H + H) * 2 ^ x
    twice =
        ap (λ (z : ℕ). z * 2 ^ suc x) (add-zero H)
        ∙ ap (λ (z : ℕ). H * z) (pow-succ' 2 x)
        ∙ sym (mul_assoc H 2 (2 ^ x))
        ∙ ap (λ (z : ℕ). z * 2 ^ x) (let q : H * 2 ≡ H + H = omega arith in q)

    full : u ≡ H → scaled ((suc x * H + u) / H) ((suc x * H + u) % H) H ≡ (H + u) * 2 ^ x
    full e =
        subst (λ (v : ℕ). scaled ((suc x * H + v) / H) ((suc x * H + v) % H) H ≡ (H + v) * 2 ^ x) (sym e)
        (ap (λ (z : ℕ). scaled (z / H) (z % H) H) next ∙ at (suc (suc x)) 0 h ∙ twice)

-- the exponent's field with the sign bit and without
pub field_rest : (f : Format) (b : ℕ) → b % top f / hid f ≡ field_of f b
field_rest binary32 b = Pow.field b 8 23
field_rest binary64 b = Pow.field b 11 52

-- ---- a format writes a value in one way: two that fit, with one sign and one size, are the same
pattern_of : Format → Bool → ℕ → ℕ
pattern_of f s n = let k = size n - prec f in cond s (top f) 0 + k * hid f + n / 2 ^ k

by_value : (f : Format) (x : Float) (s : Bool) (a c : ℕ) → 0 < c → HasValue x s a c → to_bits f x ≡ pattern_of f s (a * 2 ^ low f / c)
unfolding to_bits pattern_of
by_value f nan s a c C v = absurd v
by_value f (inf t) s a c C v = absurd v
by_value f (fin t m e) s a c C v =
    ap (λ (n : ℕ). pattern_of f t n)
    (div_same (m * up e * 2 ^ low f) (down e) (a * 2 ^ low f) c (down_pos e) C
    (mul_right_comm (m * up e) (2 ^ low f) c ∙ ap (λ (z : ℕ). z * 2 ^ low f) v.1 ∙ mul_right_comm a (down e) (2 ^ low f)))
    ∙ ap (λ (b : Bool). pattern_of f b (a * 2 ^ low f / c)) v.0

pub same_value : (f : Format) (x y : Float) (s : Bool) (a c : ℕ) → 0 < c → T (fits f x) → T (fits f y) → HasValue x s a c → HasValue y s a c → x ≡ y
same_value f x y s a c C p q v w =
    sym (of_bits-to_bits f x p)
    ∙ ap (of_bits f) (by_value f x s a c C v ∙ sym (by_value f y s a c C w))
    ∙ of_bits-to_bits f y q

-- ---- x, given its pattern b
module _ (f : Format) (x : Float) (b : ℕ) (held : fits f x ≡ true) (e : b ≡ to_bits f x) where
  pub of_pattern : of_bits f b ≡ x
  of_pattern = ap (of_bits f) e ∙ of_bits-to_bits f x (subst T (sym held) tt)

  -- x is no NaN: without the sign b is at most the infinity's pattern
  pub up_to_inf : ne x x ≡ false → b % top f ≤ endless f
  up_to_inf h =
      ltb-false (endless f) (b % top f)
      (sym (nan_bits_above f b) ∙ nan_bits_is f b ∙ ap is_nan of_pattern ∙ is_false (is_nan x) (not_nan x h))

  -- nor is it with its last k digits cleared
  pub cut_number : (k : ℕ) → k ≤ prec f - 1 → ne x x ≡ false → T (not (nan_bits f (b / 2 ^ k * 2 ^ k)))
  cut_number k l h =
      let K = 2 ^ k in
      let C = 2 ^ (prec f - 1 - k) * suc (ones f) in
      let t : top f ≡ C * K =
      ap (λ (n : ℕ). 2 ^ n * suc (ones f)) (parts (prec f - 1) k l)
      ∙ ap (λ (n : ℕ). n * suc (ones f)) (Pow.pow-add 2 (prec f - 1 - k) k)
      ∙ mul_right_comm (2 ^ (prec f - 1 - k)) K (suc (ones f)) in
      let q = b / top f in
      let r = b % top f in
      let e : b / K * K ≡ q * top f + r / K * K =
      ap (λ (n : ℕ). n / K * K) (sym (div-add-mod' b (top f)) ∙ ap (λ (n : ℕ). q * n + r) t ∙ ap (λ (n : ℕ). n + r) (sym (mul_assoc q C K)))
      ∙ ap (λ (n : ℕ). n * K) (mul-add-div_right (Pow.pow_pos k) (q * C) r)
      ∙ add-mul (q * C) (r / K) K
      ∙ ap (λ (n : ℕ). n + r / K * K) (mul_assoc q C K ∙ ap (λ (n : ℕ). q * n) (sym t)) in
      pattern_not_nan f (b / K * K)
      (subst (λ (n : ℕ). n ≤ endless f) (sym (ap (λ (n : ℕ). n % top f) e ∙ mul-add-mod_self_right q (top f) (r / K * K)))
      (le_trans (mod-le (r / K * K) (top f)) (le_trans (div-mul-le_self r K) (up_to_inf h))))
    where
      parts : (p k : ℕ) → k ≤ p → p ≡ p - k + k
      parts p k l = omega arith

  -- nor is its size
  pub size_number : ne x x ≡ false → T (not (nan_bits f (b % top f)))
  size_number h = pattern_not_nan f (b % top f) (le_trans (mod-le (b % top f) (top f)) (up_to_inf h))
