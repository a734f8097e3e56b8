-- Narrowing keeps the sign of all that has one, and makes no NaN of it: an answer that overflows is the infinity of its sign, and one that vanishes the
-- zero of its sign (`narrow_signed`). So the sign bit of every f64 stays (`narrow_sign`). What comes out is an f32 (`narrow_fits`). Assumes nothing.
use mathlib.Core.Path.{◌≡◌, refl, sym, ◌∙◌, subst}
use Prim.Native.Nat.{◌*◌}
use mathlib.Core.Bool.{Bool}
use lib.Dec.{T}
use lib.Ieee.{Float, nan, inf, fin, binary32, binary64, up, down, round, fits, to_bits}
use lib.Ieee.Fits.{nan-fits, inf-fits, round-fits}
use Rattle.rounding.proofs.Signed.{Signed, round_signed}
use Rattle.words.specs.Bits.{sign_s}
use Rattle.words.proofs.CutLaws.{signed_bit}
use Rattle.narrow.specs.Narrow.{narrow_s}

pub narrow_fits : (x : Float) → T (fits binary32 (narrow_s x))
unfolding narrow_s
narrow_fits nan = nan-fits binary32
narrow_fits (inf s) = inf-fits binary32 s
narrow_fits (fin s m e) = round-fits binary32 s (m * up e) (down e)

pub narrow_signed : (s : Bool) (x : Float) → Signed s x → Signed s (narrow_s x)
unfolding narrow_s
narrow_signed s nan h = absurd h
narrow_signed s (inf t) h = h
narrow_signed s (fin t m e) h =
    subst (λ (b : Bool). Signed b (round binary32 t (m * up e) (down e))) h (round_signed binary32 t (m * up e) (down e))

-- the sign bit of a NaN is that of its one pattern, which is clear in both formats
pub narrow_sign : (x : Float) → T (fits binary64 x) → sign_s binary32 (narrow_s x) ≡ sign_s binary64 x
unfolding narrow_s to_bits
narrow_sign nan F = refl
narrow_sign (inf s) F = signed_bit binary32 s (inf s) (inf-fits binary32 s) refl ∙ sym (signed_bit binary64 s (inf s) F refl)
narrow_sign (fin s m e) F =
    let x = fin s m e in
    signed_bit binary32 s (narrow_s x) (narrow_fits x) (narrow_signed s x refl) ∙ sym (signed_bit binary64 s x F refl)
