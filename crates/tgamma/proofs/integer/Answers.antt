-- `tgamma::integer` meets its contract. Assumes nothing.
use mathlib.Core.Path.{◌≡◌, ◌∙◌}
use mathlib.Core.Bool.{true}
use Prim.Native.Nat.{ℕ, ◌≤◌}
use native.Mathlib.Omega.{arith}
use lib.IntN.{ℤ, pos}
use lib.Ieee.{Float, binary64, of_bits, eq, le, fits}
use mir.Syntax.{w32}
use mir.Val.{SFits, to_z, of_z}
use mir.ValLaws.{to_z-of_z}
use borrow.Author.Tests.{eq-eqb}
use Rattle.words.specs.Bits.{size_word_s, sign_s}
use Rattle.floor.specs.Floor.{floor_s}
use Rattle.whole.specs.Whole.{whole_s}
use Rattle.whole.proofs.WholeBounds.{Plus}
use Rattle.tgamma.specs.Tgamma.{23·0, integer_s}
use Rattle.tgamma.proofs.FactIndex.{fact_index}
use Rattle.tgamma.proofs.integer.Goals as goal

pub returns-then-sign-eq1 : goal.returns-then-sign-eq1
unfolding integer_s of_bits
returns-then-sign-eq1 c = simp (eq-eqb _ _ (rw c.sign.ensures at c.if-sign-eq1.true))

-- x is a whole number from 1 to 23, and n is that number
place : (x : Float) (n : ℤ) (ix : ℕ) → fits binary64 x ≡ true → SFits w32 n
    → (eq x (floor_s binary64 x) ≡ true) × (n ≡ whole_s x) × (0x3C900000 ≤ ix) × (ix ≡ size_word_s x)
    → (sign_s binary64 x ≡ 1 → ⊥) → le x 23·0 ≡ true → (p : Plus 1 23 x) × (to_z w32 (of_z w32 n) ≡ pos p.q)
place x n ix F r h s l =
    let p = fact_index x F (h.0, rw h.3 at h.2, s, l) in
    (p, to_z-of_z w32 n r ∙ h.1 ∙ p.is)

pub overflow_cast-result : goal.overflow_cast-result
overflow_cast-result c =
    let p = place _ _ _ c.well_formed.0.1 c.ranges.n c.requires (rw c.sign.ensures at c.if-sign-eq1.false) c.if-x.true in
    rw p.1 (tt, record { fits = omega (arith, p.0.upto) })

pub overflow_sub-result : goal.overflow_sub-result
overflow_sub-result c =
    let p = place _ _ _ c.well_formed.0.1 c.ranges.n c.requires (rw c.sign.ensures at c.if-sign-eq1.false) c.if-x.true in
    rw p.1 (omega (arith, p.0.from))

pub bounds-n : goal.bounds-n
bounds-n c =
    let p = place _ _ _ c.well_formed.0.1 c.ranges.n c.requires (rw c.sign.ensures at c.if-sign-eq1.false) c.if-x.true in
    rw p.1 (omega (arith, p.0.upto))
