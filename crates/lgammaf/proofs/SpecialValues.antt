-- lgammaf_r at the values that ISO C's Annex F names, as `AnnexF` of lgamma/proofs/SpecialValues states them: `lgammaf_special`. (The poles, at every
-- negative whole number: `lgammaf_pole` of SignLaw.) Assumes nothing.
use Rattle.std.proofs.Common.{◌≡◌, ◌<◌, pos, true, false, refl, lit<, lit≤}
use lib.Ieee.{Float, fin, binary32, fits, ne, to_bits, of_bits}
use Rattle.logarithm.proofs.SpecialValues.{log_zero}
use Rattle.lgamma.proofs.SpecialValues.{AnnexF, annex_f}
use Rattle.lgamma.proofs.LgammaCode.{not_number}
use Rattle.lgammaf.specs.Lgammaf.{lgamma32, lgammaf_s}
use Rattle.lgammaf.proofs.SignLaw.{regular}

pub lgammaf_special : AnnexF lgamma32
unfolding fits to_bits of_bits
lgammaf_special = annex_f lgamma32 regular (record {
  one = record { known = refl; plus_sign = refl; not_tiny = lit≤ tt; finite_ix = lit< tt };
  two = record { known = refl; plus_sign = refl; not_tiny = lit≤ tt; finite_ix = lit< tt };
  zero_fits = λ s. tt;
  zero_ix = λ s. elim s as (λ k. lgamma32.ix (fin k 0 (pos 0)) < lgamma32.tiny) [ true ↦ lit< tt | false ↦ lit< tt ];
  log_of_zero = log_zero binary32 false;
})

-- of what is not equal to itself the value is that, and the sign is plus
pub lgammaf_nan : (x : Float) → ne x x ≡ true → (x ≡ (lgammaf_s x).value) × (pos 1 ≡ (lgammaf_s x).sign)
lgammaf_nan x h = not_number lgamma32 lgammaf_special.at_nan x h (refl, refl)
