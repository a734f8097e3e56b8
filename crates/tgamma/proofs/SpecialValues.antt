-- The gamma function at the values that ISO C's Annex F names: ±inf at ±0, NaN at every negative whole number and at -inf, +inf at +inf, NaN at a NaN.
-- `AnnexF` states them, of a function of either format; `tgamma_special`: tgamma has them. Assumes nothing.
use mathlib.Core.Path.{◌≡◌, refl}
use Prim.Native.Nat.{ℕ, ◌*◌, ◌%◌, ◌<◌, ◌≤◌}
use native.Mathlib.Nat.{mul-pos}
use native.Mathlib.Omega.{arith}
use mathlib.Core.Bool.{Bool, true, false}
use lib.IntN.{ℤ, pos}
use lib.Dec.{T}
use lib.Ieee.{Float, Format, nan, inf, fin, binary64, fits, up, down, add, div, to_bits, of_bits}
use lib.Ieee.Fits.{up_pos}
use borrow.Author.Tests.{lt-leb, le-ltb}
use Rattle.rounding.proofs.Signed.{Le→le}
use Rattle.words.specs.Bits.{size_word_s}
use Rattle.words.proofs.CutLaws.{word_under, word_from, sign_of_is}
use Rattle.floor.proofs.FloorValues.{floor_same}
use Rattle.tgamma.proofs.FactIndex.{one_le}
use Rattle.tgamma.specs.Tgamma.{tgamma_s, integer_s}

pub record AnnexF (f : Format) (g : Float → Float) : Type 0 where
  pub at_zero : (s : Bool) → g (fin s 0 (pos 0)) ≡ inf s
  pub at_infinity : g (inf false) ≡ inf false
  pub at_minus_infinity : g (inf true) ≡ nan
  pub at_nan : g nan ≡ nan
  pub at_negative_whole : (m : ℕ) (e : ℤ) → T (fits f (fin true m e)) → 0 < m → m * up e % down e ≡ 0 → g (fin true m e) ≡ nan

pub tgamma_zero : (s : Bool) → tgamma_s (fin s 0 (pos 0)) ≡ inf s
unfolding tgamma_s of_bits to_bits div
tgamma_zero false = refl
tgamma_zero true = refl

pub tgamma_infinity : tgamma_s (inf false) ≡ inf false
unfolding tgamma_s of_bits to_bits add
tgamma_infinity = refl

pub tgamma_minus_infinity : tgamma_s (inf true) ≡ nan
unfolding tgamma_s of_bits to_bits add
tgamma_minus_infinity = refl

pub tgamma_nan : tgamma_s nan ≡ nan
unfolding tgamma_s to_bits add
tgamma_nan = refl

-- ---- negative whole numbers

pub tgamma_negative_whole : (m : ℕ) (e : ℤ) → T (fits binary64 (fin true m e)) → 0 < m → m * up e % down e ≡ 0 → tgamma_s (fin true m e) ≡ nan
unfolding tgamma_s integer_s
tgamma_negative_whole m e F p h =
    simp (lt-leb _ _ (word_under true m e F), le-ltb _ _ above, floor_same binary64 true m e h, sign_of_is binary64 true m e F)
  where
    above : 0x3C900000 ≤ size_word_s (fin true m e)
    above =
        unfold of_bits in
        omega (
          arith,
          word_from true m e F 0x3FF0000000000000 (omega arith)
              (Le→le false 1 (pos 0) false m e (omega (arith, one_le (m * up e) (down e) (mul-pos p (up_pos e)) h))),
        )

-- ---- all of them
pub tgamma_special : AnnexF binary64 tgamma_s
tgamma_special = record {
  at_zero = tgamma_zero;
  at_infinity = tgamma_infinity;
  at_minus_infinity = tgamma_minus_infinity;
  at_nan = tgamma_nan;
  at_negative_whole = tgamma_negative_whole;
}
