-- `sinpi::sinpi` meets its contract, case by case. Assumes nothing.
use mathlib.Core.Path.{◌≡◌, refl, ap, ◌∙◌}
use mathlib.Core.Logic.{inl, inr}
use lib.Dec.{T}
use lib.IntN.{pos}
use lib.Ieee.{Float, binary64, of_bits, neg, fits}
use lib.Ieee.Fits.{mul-fits}
use Rattle.words.specs.F64.{◌⊖◌, ◌⊗◌, bits}
use Rattle.trig.specs.KSin.{k_sin_s}
use Rattle.trig.specs.KCos.{k_cos_s}
use Rattle.sinpi.specs.Sinpi.{PI, turn_s, quarter_s, sinpi_s}
use Rattle.sinpi.proofs.Octants.{turn_of_is}
use Rattle.sinpi.proofs.Reduction.{turn_not_below}
use Rattle.sinpi.proofs.Quarters as quarters
use Rattle.sinpi.proofs.sinpi.Goals as goal

-- the kernels
abbrev sine : Float → Float
sine y = k_sin_s y (bits 0) (pos 0)

abbrev cosine : Float → Float
cosine y = k_cos_s y (bits 0)

by_turn : (x : Float) → quarters.by_turn sine cosine binary64 (turn_s x) ≡ sinpi_s x
unfolding sinpi_s quarter_s of_bits
by_turn x = refl

turn_fits : (x : Float) → T (fits binary64 (turn_s x))
unfolding turn_s
turn_fits x = mul-fits binary64 _ _

pub returns-then-t : goal.returns-then-t
unfolding of_bits
returns-then-t c =
    let x = c.args.x in
    let t = c.turn-t.ensures in
    c.k_sin.ensures ∙ ap sine c.angle.ensures ∙ ap (λ (z : Float). sine ((z ⊖ bits 0) ⊗ PI)) t
    ∙ quarters.case_0 sine cosine binary64 (turn_s x) (turn_fits x) (turn_not_below x) (rw t at c.if-t.true)
    ∙ by_turn x

pub returns-then-t-2 : goal.returns-then-t-2
unfolding of_bits
returns-then-t-2 c =
    let x = c.args.x in
    let t = c.turn-t.ensures in
    c.k_cos.ensures ∙ ap cosine c.angle-then-t-2.ensures ∙ ap (λ (z : Float). cosine ((z ⊖ bits 0x3FE0000000000000) ⊗ PI)) t
    ∙ quarters.case_1 sine cosine binary64 (turn_s x) (turn_fits x) (rw t at c.if-t.false) (rw t at c.if-t-2.true)
    ∙ by_turn x

pub returns-then-t-3 : goal.returns-then-t-3
unfolding of_bits
returns-then-t-3 c =
    let x = c.args.x in
    let t = c.turn-t.ensures in
    c.k_sin-then-t-3.ensures ∙ ap (λ (z : Float). sine (neg z)) c.angle-then-t-3.ensures ∙ ap (λ (z : Float). sine (neg ((z ⊖ bits 0x3FF0000000000000) ⊗ PI))) t
    ∙ quarters.case_2 sine cosine binary64 (turn_s x) (turn_fits x) (rw t at c.if-t-2.false) (rw t at c.if-t-3.true)
    ∙ by_turn x

pub returns-then-t-4 : goal.returns-then-t-4
unfolding of_bits
returns-then-t-4 c =
    let x = c.args.x in
    let t = c.turn-t.ensures in
    ap neg c.k_cos-then-t-4.ensures ∙ ap (λ (z : Float). neg (cosine z)) c.angle-then-t-4.ensures ∙ ap (λ (z : Float). neg (cosine ((z ⊖ bits 0x3FF8000000000000) ⊗ PI))) t
    ∙ quarters.case_3 sine cosine binary64 (turn_s x) (turn_fits x) (rw t at c.if-t-3.false) (rw t at c.if-t-4.true)
    ∙ by_turn x

pub returns : goal.returns
unfolding of_bits
returns c =
    let x = c.args.x in
    let t = c.turn-t.ensures in
    let h = rw t at c.if-t-4.false in
    c.k_sin-2.ensures ∙ ap sine c.angle-2.ensures ∙ ap (λ (z : Float). sine ((z ⊖ bits 0x4000000000000000) ⊗ PI)) t
    ∙ elim (quarters.turn_at_most binary64 x) [
      | inl n ↦ quarters.case_nan sine cosine binary64 (turn_s x) (turn_of_is x ∙ n)
      | inr l ↦ quarters.case_4 sine cosine binary64 (turn_s x) (turn_fits x) h (rw (turn_of_is x) l)
    ]
    ∙ by_turn x
