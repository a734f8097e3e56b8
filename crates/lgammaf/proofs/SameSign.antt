-- lgammaf_r reports the sign that lgamma_r reports of the same number. An f32 is a number that an f64 holds too, and the sign that either function reports
-- depends on nothing but that number (`sign_of`): so there is no f32 at which the two differ, the zeros, the infinities, the poles and the NaN included.
-- Assumes nothing.
use Rattle.std.proofs.Common.{◌≡◌, T, sym, ◌∙◌}
use lib.Ieee.{Float, binary32, fits}
use lib.Ieee.Fits.{fits_widens}
use Rattle.lgamma.specs.Lgamma64.{lgamma_s}
use Rattle.lgamma.proofs.SignLaw.{lgamma_sign}
use Rattle.lgammaf.specs.Lgammaf.{lgammaf_s}
use Rattle.lgammaf.proofs.SignLaw.{lgammaf_sign}

-- for every x that an f32 holds
pub same_sign : (x : Float) → T (fits binary32 x) → (lgammaf_s x).sign ≡ (lgamma_s x).sign
same_sign x F = lgammaf_sign x F ∙ sym (lgamma_sign x (fits_widens x F))
