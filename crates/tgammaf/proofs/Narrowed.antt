-- tgammaf's answer is an f32 (`tgammaf_fits`). It has the sign of tgamma's, where the answer overflows or vanishes in the narrowing too, and is no NaN
-- where tgamma's is none (`tgammaf_signed`); and so its sign bit is that of tgamma's answer, for every argument (`tgammaf_sign`). Assumes nothing.
use mathlib.Core.Path.{◌≡◌}
use mathlib.Core.Bool.{Bool}
use lib.Dec.{T}
use lib.Ieee.{Float, binary32, binary64, fits}
use Rattle.rounding.proofs.Signed.{Signed}
use Rattle.words.specs.Bits.{sign_s}
use Rattle.narrow.proofs.SignLaws.{narrow_fits, narrow_signed, narrow_sign}
use Rattle.tgamma.specs.Tgamma.{tgamma_s}
use Rattle.tgamma.proofs.Fits.{tgamma_fits}
use Rattle.tgammaf.specs.Tgammaf.{tgammaf_s}

pub tgammaf_fits : (x : Float) → T (fits binary32 (tgammaf_s x))
unfolding tgammaf_s
tgammaf_fits x = narrow_fits (tgamma_s x)

pub tgammaf_signed : (s : Bool) (x : Float) → Signed s (tgamma_s x) → Signed s (tgammaf_s x)
unfolding tgammaf_s
tgammaf_signed s x h = narrow_signed s (tgamma_s x) h

pub tgammaf_sign : (x : Float) → sign_s binary32 (tgammaf_s x) ≡ sign_s binary64 (tgamma_s x)
unfolding tgammaf_s
tgammaf_sign x = narrow_sign (tgamma_s x) (tgamma_fits x)
