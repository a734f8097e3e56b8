-- tgamma's Lanczos formula carries no minus sign and is no NaN, for a positive x from 2 ^ -54 to 184: `lanczos_sign`. Assumes nothing.
use mathlib.Core.Path.{◌≡◌, sym, subst}
use mathlib.Core.Bool.{false}
use lib.Dec.{T}
use lib.Ieee.{Float, binary64, neg, le, lt, fits, of_bits}
use lib.Ieee.Fits.{mul-fits}
use Rattle.rounding.proofs.Signed.{Signed}
use Rattle.rounding.proofs.Order.{le_trans, not_lt_of_le}
use Rattle.words.specs.F64.{bits}
use Rattle.exp.specs.Exp.{exp_s}
use Rattle.tgamma.specs.Lanczos.{s_s}
use Rattle.tgamma.specs.Tgamma.{lanczos_s}
use Rattle.tgamma.proofs.Regions.{from_54, Middle}
use Rattle.tgamma.proofs.Formula.{y_of, r_of, lanczos_plus}
use Rattle.signs.proofs.LanczosRange.{over_340, under100, r_range}
use Rattle.signs.proofs.Correction.{small, large}
use Rattle.signs.proofs.LastLine.{last_keeps}

wider : T (le small over_340)
unfolding le
wider = tt

wider_100 : T (le under100 large)
unfolding le
wider_100 = tt

not_minus : (x : Float) → Middle x → lt x (bits 0) ≡ false
unfolding of_bits le
not_minus x i = not_lt_of_le x (bits 0) (le_trans (bits 0) from_54 x tt i.0)

pub lanczos_sign : (x : Float) → T (fits binary64 x) → Middle x → Signed false (lanczos_s x 0)
lanczos_sign x F i =
    let k = r_range x i in
    subst (Signed false) (sym (lanczos_plus x (not_minus x i)))
    (last_keeps x F i false (r_of x) (mul-fits binary64 (s_s x) (exp_s (neg (y_of x))))
    (le_trans small over_340 (r_of x) wider k.0, le_trans (r_of x) under100 large k.1 wider_100)).0
