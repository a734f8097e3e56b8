-- A whole number x from 2 ^ -54 to 23 has a whole part from 1 to 23, so x - 1 is a place in FACT (`fact_index`). Assumes nothing.
use mathlib.Core.Path.{◌≡◌, refl, sym}
use Prim.Native.Nat.{ℕ, zero, suc, ◌+◌, ◌*◌, ◌/◌, ◌%◌, ◌<◌, ◌≤◌}
use native.Mathlib.Nat.{div-add-mod', suc-mul, zero-mul}
use native.Mathlib.Omega.{arith}
use mathlib.Core.Bool.{true, false, true≢false}
use lib.IntN.{pos, negsuc}
use lib.Ieee.{Float, nan, inf, fin, binary64, up, down, to_bits, of_bits, eq, le, lt, fits}
use lib.Ieee.Fits.{down_pos}
use Rattle.rounding.proofs.Signed.{le→Le, Le→le}
use Rattle.words.specs.Bits.{size_word_s, sign_s}
use Rattle.floor.specs.Floor.{floor_s}
use Rattle.words.proofs.CutLaws.{from_word, sign_of_is}
use Rattle.floor.proofs.FloorValues.{floor_whole}
use Rattle.whole.proofs.WholeBounds.{Plus, whole_plus}
use Rattle.tgamma.specs.Tgamma.{23·0}

-- a whole number above zero is at least one
pub one_le : (M D : ℕ) → 0 < M → M % D ≡ 0 → D ≤ M
one_le M D h z = go (M / D) refl
  where
    go : (q : ℕ) → M / D ≡ q → D ≤ M
    go zero q = let n : M / D * D ≡ 0 = rw q (zero-mul D) in omega (arith, div-add-mod' M D)
    go (suc k) q = let d : M / D * D ≡ k * D + D = rw q (suc-mul k D) in omega (arith, div-add-mod' M D)

pub fact_index : (x : Float) → fits binary64 x ≡ true
    → (eq x (floor_s binary64 x) ≡ true) × (0x3C900000 ≤ size_word_s x) × (sign_s binary64 x ≡ 1 → ⊥) × (le x 23·0 ≡ true)
    → Plus 1 23 x
unfolding of_bits
fact_index nan F h = absurd (unfold eq in true≢false (sym h.0))
fact_index (inf false) F h = absurd (unfold le lt eq in true≢false (sym h.3))
fact_index (inf true) F h = absurd (unfold to_bits in h.2 refl)
fact_index (fin true m e) F h = absurd (h.2 (sign_of_is binary64 true m e (rw F tt)))
fact_index (fin false m e) F h =
    whole_plus 1 23 (fin false m e) (omega arith)
    (Le→le false 1 (pos 0) false m e (omega (arith, one_le (m * up e) (down e) above (floor_whole binary64 false m e (rw F tt) h.0))), rw h.3 tt)
  where
    above : 0 < m * up e
    above =
        omega (arith, down_pos e, le→Le false 1 (negsuc 53) false m e (from_word false m e (rw F tt) 0x3C90000000000000 (omega (arith, h.1))))
