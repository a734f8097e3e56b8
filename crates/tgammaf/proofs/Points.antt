-- tgammaf at points, from tgamma at the same numbers: where the answer is rounded, has the smallest size of f32, and overflows and vanishes, with both
-- signs. The values are the Rust's. Assumes nothing.
use mathlib.Core.Path.{◌≡◌, ap}
use lib.Ieee.{of_bits, round}
use Rattle.words.specs.F32.{bits}
use Rattle.narrow.specs.Narrow.{narrow_s}
use Rattle.tgamma.proofs.Points.{tgamma_points, tgamma_far}
use Rattle.tgammaf.specs.Tgammaf.{tgammaf_s}

-- rounded at 2.75 and -2.75; +inf at 36; -2 ^ -149 at -38.5; -0 at -40.5, +0 at -41.5; +inf and -inf at 2 ^ -130 and -2 ^ -130
pub tgammaf_points : (tgammaf_s (bits 0x40300000) ≡ bits 0x3FCDDEB9)
    × (tgammaf_s (bits 0xC0300000) ≡ bits 0xBF809364)
    × (tgammaf_s (bits 0x42100000) ≡ bits 0x7F800000)
    × (tgammaf_s (bits 0xC21A0000) ≡ bits 0x80000001)
    × (tgammaf_s (bits 0xC2220000) ≡ bits 0x80000000)
    × (tgammaf_s (bits 0xC2260000) ≡ bits 0x00000000)
    × (tgammaf_s (bits 0x00080000) ≡ bits 0x7F800000)
    × (tgammaf_s (bits 0x80080000) ≡ bits 0xFF800000)
unfolding tgammaf_s narrow_s of_bits round
tgammaf_points = (
  ap narrow_s tgamma_points.0,
  ap narrow_s tgamma_points.2,
  ap narrow_s tgamma_far.0,
  ap narrow_s tgamma_far.1,
  ap narrow_s tgamma_far.2,
  ap narrow_s tgamma_far.3,
  ap narrow_s tgamma_far.4,
  ap narrow_s tgamma_far.5,
)
