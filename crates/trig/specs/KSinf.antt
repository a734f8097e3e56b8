-- k_sinf, the kernel of the sine for f32, as the Rust's k_sinf.rs has it: in rounded operations of f64, narrowed to f32 at the end.
use Rattle.std.specs.Prelude.{Float}
use Rattle.words.specs.F64.{◌⊕◌, ◌⊗◌, bits}
use Rattle.narrow.specs.Narrow.{narrow_s}

abbrev pub S1 : Float
S1 = bits 0xBFC5555554CBAC77  -- S1 -0.166666666416265235595

abbrev pub S2 : Float
S2 = bits 0x3F811110896EFBB2  -- S2 0.0083333293858894631756

abbrev pub S3 : Float
S3 = bits 0xBF2A00F9E2CAE774  -- S3 -0.000198393348360966317347

abbrev pub S4 : Float
S4 = bits 0x3EC6CD878C3B46A7  -- S4 0.0000027183114939898219064

unfoldable pub k_sinf_s : Float → Float
k_sinf_s x =
    let z = x ⊗ x in
    let w = z ⊗ z in
    let r = S3 ⊕ z ⊗ S4 in
    let s = z ⊗ x in
    narrow_s ((x ⊕ s ⊗ (S1 ⊕ z ⊗ S2)) ⊕ s ⊗ w ⊗ r)
