-- k_sin, the kernel of the sine, as the Rust's k_sin.rs has it, in rounded operations of f64.
use Rattle.std.specs.Prelude.{ℤ, nat_abs, Float, if◌then◌else◌}
use Rattle.words.specs.Tests.{◌=?◌}
use Rattle.words.specs.F64.{◌⊕◌, ◌⊖◌, ◌⊗◌, bits, 0·5}

abbrev pub S1 : Float
S1 = bits 0xBFC5555555555549  -- S1 -1.66666666666666324348e-01

abbrev pub S2 : Float
S2 = bits 0x3F8111111110F8A6  -- S2 8.33333333332248946124e-03

abbrev pub S3 : Float
S3 = bits 0xBF2A01A019C161D5  -- S3 -1.98412698298579493134e-04

abbrev pub S4 : Float
S4 = bits 0x3EC71DE357B1FE7D  -- S4 2.75573137070700676789e-06

abbrev pub S5 : Float
S5 = bits 0xBE5AE5E68A2B9CEB  -- S5 -2.50507602534068634195e-08

abbrev pub S6 : Float
S6 = bits 0x3DE5D93A5ACFD57C  -- S6 1.58969099521155010221e-10

-- sine of x + y; y counts where iy is not 0
unfoldable pub k_sin_s : Float → Float → ℤ → Float
k_sin_s x y iy =
    let z = x ⊗ x in
    let w = z ⊗ z in
    let r = S2 ⊕ z ⊗ (S3 ⊕ z ⊗ S4) ⊕ z ⊗ w ⊗ (S5 ⊕ z ⊗ S6) in
    let v = z ⊗ x in
    if nat_abs iy =? 0 then x ⊕ v ⊗ (S1 ⊕ z ⊗ r)
    else x ⊖ ((z ⊗ (0·5 ⊗ y ⊖ v ⊗ r) ⊖ y) ⊖ v ⊗ S1)
