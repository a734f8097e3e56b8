-- A NaN's pattern b gives the one pattern n of a NaN, for a function that is NaN at a NaN: `on-nan`; and for log-gamma that and the sign 1:
-- `signed-on-nan`. Assumes nothing.
use Prim.Native.Nat.{ℕ, ◌*◌, ◌%◌}
use mathlib.Core.Path.{◌≡◌, sym, ap, ◌∙◌}
use mathlib.Core.Bool.{true}
use lib.IntN.{pos}
use lib.Dec.{ltb}
use lib.Ieee.{Float, Format, nan, ones, hid, top, of_bits, to_bits, nan_bits}
use lib.Ieee.Bits.{nan_bits_above}
use borrow.Author.Tests.{ltb-true}
use Rattle.words.proofs.PatternLaws.{pattern_nan}
use Rattle.lgamma.specs.Plan.{Answer}
use Rattle.by_bits.specs.ByBits.{on_bits, value_on_bits, sign_on_bits}

-- the test, as the code makes it
pub nan_test : (f : Format) (b : ℕ) → ltb (ones f * hid f) (b % top f) ≡ nan_bits f b
nan_test f b = sym (nan_bits_above f b)

module _ (f : Format) (b n : ℕ) (N : n ≡ to_bits f nan) (h : nan_bits f b ≡ true) where
  nan_is : of_bits f b ≡ nan
  nan_is = sym (pattern_nan f b (ltb-true _ _ (nan_test f b ∙ h)))

  pub on_nan : (g : Float → Float) → g nan ≡ nan → n ≡ on_bits f g b
  on_nan g e = N ∙ sym (ap (to_bits f) (ap g nan_is ∙ e))

  pub signed_on_nan : (g : Float → Answer) → g nan ≡ record { value = nan; sign = pos 1 } → (n ≡ value_on_bits f g b) × (pos 1 ≡ sign_on_bits f g b)
  signed_on_nan g e = (
    N ∙ sym (ap (λ (a : Answer). to_bits f a.value) (ap g nan_is ∙ e)),
    sym (ap (λ (a : Answer). a.sign) (ap g nan_is ∙ e)),
  )
