-- From a cut on the size to a cut on the bits, and back. A finite x = ±(m * 2 ^ e) has the bits b without the sign; a cut is the value with
-- the bits c, below the infinity's.
--   `size-under`: b is below the infinity's bits;
--   `bits-from`, `bits-upto`: a size from the cut on, or up to it, has b from c on, or up to c;
--   `from_bits`, `upto-bits`: and back; these five in either format;
--   `word-under`, `word-from`, `word-upto`, `from-word`, `upto-word`: the same five for the size word of an f64, which is b's upper half;
--   `sign-of`: the sign bit; `signed-bit`: the same of all that has a sign, the infinities too.
-- Assumes nothing.
use mathlib.Core.Path.{◌≡◌, refl, ◌∙◌, subst}
use Prim.Native.Nat.{ℕ, ◌*◌, ◌/◌, ◌%◌, ◌^◌, ◌<◌, ◌≤◌}
use native.Mathlib.Nat.{div-eq_of_lt}
use native.Mathlib.Omega.{arith}
use mathlib.Core.Bool.{Bool, true, false, cond}
use lib.IntN.{ℤ}
use lib.Dec.{T}
use lib.Ieee.{Float, nan, inf, fin, Format, binary32, binary64, top, to_bits, of_bits, le, fits}
use lib.Ieee.Bits.{is_true}
use Rattle.rounding.proofs.BitOrder.{endless, under_top, bits_le, le_bits, to_bits_under, to_bits_neg}
use Rattle.rounding.proofs.Signed.{Signed}
use Rattle.words.specs.Bits.{sign_s, size_word_s}
use Rattle.words.proofs.PatternLaws.{fits_any_sign, unsigned_rest, size_pattern, fabs_fin}

-- ---- the bits without the sign, in either format
module _ (f : Format) (s : Bool) (m : ℕ) (e : ℤ) (F : T (fits f (fin s m e))) where
  pub size_under : to_bits f (fin s m e) % top f < endless f
  size_under = let G = fits_any_sign f s false m e F in rw (unsigned_rest f s m e G) (to_bits_under f m e G)

  size_is : of_bits f (to_bits f (fin s m e) % top f) ≡ fin false m e
  size_is = size_pattern f (fin s m e) (is_true (fits f (fin s m e)) F) ∙ fabs_fin s m e

  -- a size from the cut on has its bits from c on
  pub bits_from : (c : ℕ) → c < endless f → T (le (of_bits f c) (fin false m e)) → c ≤ to_bits f (fin s m e) % top f
  bits_from c C h = le_bits f c (to_bits f (fin s m e) % top f) C size_under (rw size_is h)

  -- a size up to the cut has its bits up to c
  pub bits_upto : (c : ℕ) → c < endless f → T (le (fin false m e) (of_bits f c)) → to_bits f (fin s m e) % top f ≤ c
  bits_upto c C h = le_bits f (to_bits f (fin s m e) % top f) c size_under C (rw size_is h)

  -- bits from c on are those of a size from the cut on
  pub from_bits : (c : ℕ) → c ≤ to_bits f (fin s m e) % top f → T (le (of_bits f c) (fin false m e))
  from_bits c h = rw (← size_is) (bits_le f c (to_bits f (fin s m e) % top f) h size_under)

  -- bits up to c are those of a size up to the cut
  pub upto_bits : (c : ℕ) → c < endless f → to_bits f (fin s m e) % top f ≤ c → T (le (fin false m e) (of_bits f c))
  upto_bits c C h = rw (← size_is) (bits_le f (to_bits f (fin s m e) % top f) c h C)

-- ---- the size word of an f64
module _ (s : Bool) (m : ℕ) (e : ℤ) (F : T (fits binary64 (fin s m e))) where
  pub word_under : size_word_s (fin s m e) < 0x7FF00000
  word_under = omega (arith, size_under binary64 s m e F)

  -- a size from the cut on has its word from c's on
  pub word_from : (c : ℕ) → c < endless binary64 → T (le (of_bits binary64 c) (fin false m e)) → c / 2 ^ 32 ≤ size_word_s (fin s m e)
  word_from c C h = omega (arith, bits_from binary64 s m e F c C h)

  -- a size up to the cut has its word up to c's
  pub word_upto : (c : ℕ) → c < endless binary64 → T (le (fin false m e) (of_bits binary64 c)) → size_word_s (fin s m e) ≤ c / 2 ^ 32
  word_upto c C h = omega (arith, bits_upto binary64 s m e F c C h)

  -- a word from c's on, where c's lower half is 0, is that of a size from the cut on
  pub from_word : (c : ℕ) → c ≤ size_word_s (fin s m e) * 2 ^ 32 → T (le (of_bits binary64 c) (fin false m e))
  from_word c h = from_bits binary64 s m e F c (omega arith)

  -- a word below c's is that of a size up to the cut
  pub upto_word : (c : ℕ) → c < endless binary64 → size_word_s (fin s m e) < c / 2 ^ 32 → T (le (fin false m e) (of_bits binary64 c))
  upto_word c C h = upto_bits binary64 s m e F c C (omega arith)

-- ---- the sign bit: 1 with a minus sign, else 0
pub sign_of_is : (f : Format) (s : Bool) (m : ℕ) (e : ℤ) → T (fits f (fin s m e)) → sign_s f (fin s m e) ≡ cond s 1 0
sign_of_is f s m e F = go f s (under_top f (to_bits f (fin false m e)) (to_bits_under f m e (fits_any_sign f s false m e F)))
  where
    go : (f : Format) (s : Bool) → to_bits f (fin false m e) < top f → sign_s f (fin s m e) ≡ cond s 1 0
    go binary32 true h = omega (arith, to_bits_neg binary32 m e)
    go binary64 true h = omega (arith, to_bits_neg binary64 m e)
    go f false h = div-eq_of_lt h

infinity_bit : (f : Format) (s : Bool) → sign_s f (inf s) ≡ cond s 1 0
unfolding to_bits
infinity_bit binary32 true = refl
infinity_bit binary32 false = refl
infinity_bit binary64 true = refl
infinity_bit binary64 false = refl

-- of all that has the sign s, which a NaN has not
pub signed_bit : (f : Format) (s : Bool) (x : Float) → T (fits f x) → Signed s x → sign_s f x ≡ cond s 1 0
signed_bit f s nan F h = absurd h
signed_bit f s (inf t) F h = subst (λ (b : Bool). sign_s f (inf t) ≡ cond b 1 0) h (infinity_bit f t)
signed_bit f s (fin t m e) F h = subst (λ (b : Bool). sign_s f (fin t m e) ≡ cond b 1 0) h (sign_of_is f t m e F)
