-- k_cosf, the kernel of the cosine for f32, as the Rust's k_cosf.rs has it: in rounded operations of f64, narrowed to f32 at the end.
use Rattle.std.specs.Prelude.{Float}
use Rattle.words.specs.F64.{◌⊕◌, ◌⊗◌, bits, 1·0}
use Rattle.narrow.specs.Narrow.{narrow_s}

abbrev pub C0 : Float
C0 = bits 0xBFDFFFFFFD0C5E81  -- C0 -0.499999997251031003120

abbrev pub C1 : Float
C1 = bits 0x3FA55553E1053A42  -- C1 0.0416666233237390631894

abbrev pub C2 : Float
C2 = bits 0xBF56C087E80F1E27  -- C2 -0.00138867637746099294692

abbrev pub C3 : Float
C3 = bits 0x3EF99342E0EE5069  -- C3 0.0000243904487962774090654

unfoldable pub k_cosf_s : Float → Float
k_cosf_s x =
    let z = x ⊗ x in
    let w = z ⊗ z in
    let r = C2 ⊕ z ⊗ C3 in
    narrow_s (((1·0 ⊕ z ⊗ C0) ⊕ w ⊗ C1) ⊕ (w ⊗ z) ⊗ r)
