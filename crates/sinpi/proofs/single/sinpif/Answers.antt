-- `sinpi::single::sinpif` meets its contract, case by case. Assumes nothing.
use mathlib.Core.Path.{◌≡◌, refl, sym, ap, ◌∙◌}
use mathlib.Core.Logic.{inl, inr}
use Prim.Native.Nat.{◌+◌, ◌/◌}
use lib.Dec.{T}
use lib.IntN.{nat_abs}
use mathlib.Core.Bool.{not}
use lib.Ieee.{Float, nan, binary32, binary64, of_bits, neg, fits, is_nan, add, sub, mul}
use lib.Ieee.Fits.{mul-fits, fits_widens, and_i}
use borrow.Author.Rules.{rules}
use Rattle.rounding.proofs.Fraction.{mul_commutes}
use Rattle.words.specs.F32 as F32
use Rattle.words.specs.F64.{◌⊖◌, ◌⊗◌, bits}
use Rattle.narrow.specs.Narrow.{narrow_s}
use Rattle.whole.specs.Whole.{whole_s}
use Rattle.words.proofs.PatternLaws.{nan_is, not_nan}
use Rattle.trig.specs.KSinf.{k_sinf_s}
use Rattle.trig.specs.KCosf.{k_cosf_s}
use Rattle.sinpi.specs.Sinpi.{PI}
use Rattle.sinpi.specs.Sinpif.{turn_s, quarter_s, sinpif_s}
use Rattle.sinpi.proofs.Reduction.{turnf_not_below}
use Rattle.sinpi.proofs.Exactness.{turn_of}
use Rattle.sinpi.proofs.Quarters as quarters
use Rattle.sinpi.proofs.single.sinpif.Goals as goal

turn_of_is : (x : Float) → turn_s x ≡ turn_of binary32 x
unfolding turn_s of_bits
turn_of_is x = refl

turn_fits : (x : Float) → T (fits binary32 (turn_s x))
unfolding turn_s
turn_fits x = mul-fits binary32 _ _

-- the definition takes the factors of 4.0 * t the other way round
quarter : (t : Float) → quarters.quarter_of binary32 t ≡ quarter_s t
unfolding quarter_s of_bits
quarter t = ap (λ (z : Float). (nat_abs (whole_s z) + 1) / 2) (mul_commutes binary32 (F32.bits 0x40800000) t)

by_turn : (x : Float) → quarters.by_turn k_sinf_s k_cosf_s binary32 (turn_s x) ≡ sinpif_s x
unfolding sinpif_s of_bits
by_turn x = rw (quarter (turn_s x)) refl

-- k_sinf of a NaN is one
sine_nan : k_sinf_s nan ≡ nan
unfolding k_sinf_s narrow_s add mul of_bits
sine_nan = refl

pub returns-then-t : goal.returns-then-t
unfolding sub add mul
returns-then-t c =
    let x = c.args.x in
    let n : turn_s x ≡ nan = sym c.turn-t.ensures ∙ nan_is _ c.if-t.true in
    c.turn-t.ensures ∙ n ∙ sym sine_nan
    ∙ ap (λ (z : Float). k_sinf_s ((z ⊖ bits 0x4000000000000000) ⊗ PI)) (sym n)
    ∙ quarters.case_nan k_sinf_s k_cosf_s binary32 (turn_s x) n
    ∙ by_turn x

pub float_to_float-d : goal.float_to_float-d
float_to_float-d c =
    let t = c.turn-t.result in
    and_i (fits binary64 t) (not (is_nan t)) (fits_widens t (search rules)) (not_nan t c.if-t.false)

pub returns-then-t-2 : goal.returns-then-t-2
unfolding of_bits
returns-then-t-2 c =
    let x = c.args.x in
    let t = c.turn-t.ensures in
    c.k_sinf.ensures ∙ ap k_sinf_s c.angle.ensures ∙ ap (λ (z : Float). k_sinf_s ((z ⊖ bits 0) ⊗ PI)) t
    ∙ quarters.case_0 k_sinf_s k_cosf_s binary32 (turn_s x) (turn_fits x) (turnf_not_below x) (rw t at c.if-t-2.true)
    ∙ by_turn x

pub returns-then-t-3 : goal.returns-then-t-3
unfolding of_bits
returns-then-t-3 c =
    let x = c.args.x in
    let t = c.turn-t.ensures in
    c.k_cosf.ensures ∙ ap k_cosf_s c.angle-then-t-3.ensures ∙ ap (λ (z : Float). k_cosf_s ((z ⊖ bits 0x3FE0000000000000) ⊗ PI)) t
    ∙ quarters.case_1 k_sinf_s k_cosf_s binary32 (turn_s x) (turn_fits x) (rw t at c.if-t-2.false) (rw t at c.if-t-3.true)
    ∙ by_turn x

pub returns-then-t-4 : goal.returns-then-t-4
unfolding of_bits
returns-then-t-4 c =
    let x = c.args.x in
    let t = c.turn-t.ensures in
    c.k_sinf-then-t-4.ensures ∙ ap (λ (z : Float). k_sinf_s (neg z)) c.angle-then-t-4.ensures ∙ ap (λ (z : Float). k_sinf_s (neg ((z ⊖ bits 0x3FF0000000000000) ⊗ PI))) t
    ∙ quarters.case_2 k_sinf_s k_cosf_s binary32 (turn_s x) (turn_fits x) (rw t at c.if-t-3.false) (rw t at c.if-t-4.true)
    ∙ by_turn x

pub returns-then-t-5 : goal.returns-then-t-5
unfolding of_bits
returns-then-t-5 c =
    let x = c.args.x in
    let t = c.turn-t.ensures in
    ap neg c.k_cosf-then-t-5.ensures ∙ ap (λ (z : Float). neg (k_cosf_s z)) c.angle-then-t-5.ensures ∙ ap (λ (z : Float). neg (k_cosf_s ((z ⊖ bits 0x3FF8000000000000) ⊗ PI))) t
    ∙ quarters.case_3 k_sinf_s k_cosf_s binary32 (turn_s x) (turn_fits x) (rw t at c.if-t-4.false) (rw t at c.if-t-5.true)
    ∙ by_turn x

pub returns : goal.returns
unfolding of_bits
returns c =
    let x = c.args.x in
    let t = c.turn-t.ensures in
    let h = rw t at c.if-t-5.false in
    c.k_sinf-2.ensures ∙ ap k_sinf_s c.angle-2.ensures ∙ ap (λ (z : Float). k_sinf_s ((z ⊖ bits 0x4000000000000000) ⊗ PI)) t
    ∙ elim (quarters.turn_at_most binary32 x) [
      | inl n ↦ quarters.case_nan k_sinf_s k_cosf_s binary32 (turn_s x) (turn_of_is x ∙ n)
      | inr l ↦ quarters.case_4 k_sinf_s k_cosf_s binary32 (turn_s x) (turn_fits x) h (rw (turn_of_is x) l)
    ]
    ∙ by_turn x
