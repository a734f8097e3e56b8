-- k_cos, the kernel of the cosine, as the Rust's k_cos.rs has it, in rounded operations of f64.
use Rattle.std.specs.Prelude.{Float}
use Rattle.words.specs.F64.{◌⊕◌, ◌⊖◌, ◌⊗◌, bits, 0·5, 1·0}

abbrev pub C1 : Float
C1 = bits 0x3FA555555555554C  -- C1 4.16666666666666019037e-02

abbrev pub C2 : Float
C2 = bits 0xBF56C16C16C15177  -- C2 -1.38888888888741095749e-03

abbrev pub C3 : Float
C3 = bits 0x3EFA01A019CB1590  -- C3 2.48015872894767294178e-05

abbrev pub C4 : Float
C4 = bits 0xBE927E4F809C52AD  -- C4 -2.75573143513906633035e-07

abbrev pub C5 : Float
C5 = bits 0x3E21EE9EBDB4B1C4  -- C5 2.08757232129817482790e-09

abbrev pub C6 : Float
C6 = bits 0xBDA8FAE9BE8838D4  -- C6 -1.13596475577881948265e-11

-- cosine of x + y
unfoldable pub k_cos_s : Float → Float → Float
k_cos_s x y =
    let z = x ⊗ x in
    let w = z ⊗ z in
    let r = z ⊗ (C1 ⊕ z ⊗ (C2 ⊕ z ⊗ C3)) ⊕ w ⊗ w ⊗ (C4 ⊕ z ⊗ (C5 ⊕ z ⊗ C6)) in
    let hz = 0·5 ⊗ z in
    let w = 1·0 ⊖ hz in
    w ⊕ (((1·0 ⊖ w) ⊖ hz) ⊕ (z ⊗ r ⊖ x ⊗ y))
