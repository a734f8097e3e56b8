-- tgamma at a point of each course of the Lanczos formula, worked out by the checker down to pow, exp and sinpi: S(x) from the last
-- coefficient on, from the first on, and the reflection (`tgamma_points`); and at f32 numbers whose answers leave f32's range, upwards and
-- downwards, or nearly so (`tgamma_far`). The values are the Rust's. Assumes nothing.
use mathlib.Core.Path.{◌≡◌, refl}
use lib.Ieee.{of_bits, to_bits, add, sub, mul, div, neg, eq, lt, le, of_int}
use Rattle.words.specs.F64.{bits}
use Rattle.words.specs.Fabs.{fabs_s}
use Rattle.floor.specs.Floor.{floor_s}
use Rattle.whole.specs.Whole.{whole_s}
use Rattle.poly.specs.Horner.{horner_s}
use Rattle.scalbn.specs.Scalbn.{scalbn_s}
use Rattle.exp.specs.Plan as exp
use Rattle.exp.specs.Plan.{primary_s, multiple_s, reduced_s}
use Rattle.exp.specs.Exp.{exp_s}
use Rattle.pow_log.specs.Log2.{series_s, interval_s, normal_s, log2_s}
use Rattle.pow_exp.specs.Exp2.{fraction_s, scaled_s, exp2_s, bounded_s, product_s}
use Rattle.pow.specs.Pow.{signed_s, plain_s, finite_s, special_y_s, pow_at_s, pow_s}
use Rattle.trig.specs.KSin.{k_sin_s}
use Rattle.trig.specs.KCos.{k_cos_s}
use Rattle.sinpi.specs.Sinpi.{turn_s, quarter_s, sinpi_s}
use Rattle.tgamma.specs.Lanczos.{down_s, up_s, s_s}
use Rattle.tgamma.specs.Tgamma.{dy_s, last_s, lanczos_s, general_s, integer_s, tgamma_s}

-- at 2.75, 9.5 and -2.75
pub tgamma_points : (tgamma_s (bits 0x4006000000000000) ≡ bits 0x3FF9BBD716DA431A)
    × (tgamma_s (bits 0x4023000000000000) ≡ bits 0x40FD1FC76454758D)
    × (tgamma_s (bits 0xC006000000000000) ≡ bits 0xBFF0126C7A2DF451)
unfolding tgamma_s general_s lanczos_s dy_s last_s s_s down_s up_s sinpi_s turn_s quarter_s k_sin_s k_cos_s of_bits to_bits add sub mul div neg eq lt le floor_s of_int fabs_s whole_s pow_s pow_at_s special_y_s finite_s plain_s signed_s log2_s normal_s interval_s series_s product_s bounded_s exp2_s scaled_s fraction_s horner_s scalbn_s exp_s exp.plain_s reduced_s multiple_s primary_s
tgamma_points = (refl, refl, refl)

-- at 36, -38.5, -40.5, -41.5, and at 2 ^ -130 with both signs
pub tgamma_far : (tgamma_s (bits 0x4042000000000000) ≡ bits 0x483E5DCBE8A8BC8B)
    × (tgamma_s (bits 0xC043400000000000) ≡ bits 0xB69608E628BA1959)
    × (tgamma_s (bits 0xC044400000000000) ≡ bits 0xB5EC357AA9AD5054)
    × (tgamma_s (bits 0xC044C00000000000) ≡ bits 0x3595C05E95575FDC)
    × (tgamma_s (bits 0x37D0000000000000) ≡ bits 0x4810000000000000)
    × (tgamma_s (bits 0xB7D0000000000000) ≡ bits 0xC810000000000000)
unfolding tgamma_s integer_s general_s lanczos_s dy_s last_s s_s down_s up_s sinpi_s turn_s quarter_s k_sin_s k_cos_s of_bits to_bits add sub mul div neg eq lt le floor_s of_int fabs_s whole_s pow_s pow_at_s special_y_s finite_s plain_s signed_s log2_s normal_s interval_s series_s product_s bounded_s exp2_s scaled_s fraction_s horner_s scalbn_s exp_s exp.plain_s reduced_s multiple_s primary_s
tgamma_far = (refl, refl, refl, refl, refl, refl)
