-- `words::real::float_of` meets its contract. Assumes nothing.
use Rattle.std.proofs.Common.{◌≡◌, ◌^◌, false, T, ℤ, pos, negsuc, ap, ◌∙◌, arith, le→leb, lt→ltb, w32, to_z, of_z, ltb-false}
use lib.Signed.{lt_z}
use lib.Ieee.{binary32, in_float, of_int}
use mir.ValLaws.{to_z-of_z}
use Rattle.words.proofs.real.float_of.Goals as goal

-- f32 holds every whole number below 2 ^ 24 in size
exact : (z : ℤ) → lt_z (pos 16777215) z ≡ false → lt_z z (negsuc 16777214) ≡ false → T (in_float binary32 z)
unfolding in_float
exact (pos n) h l = le→leb n (2 ^ 24) (omega (arith, ltb-false 16777215 n h))
exact (negsuc n) h l = lt→ltb n (2 ^ 24) (omega (arith, ltb-false 16777214 n l))

pub returns-then-k-gt16777215 : goal.returns-then-k-gt16777215
returns-then-k-gt16777215 c = c.nearest_i32_to_f32.ensures ∙ ap (of_int binary32) (to_z-of_z w32 c.args.k c.ranges.k)

pub returns-then-k-ltminus16777215 : goal.returns-then-k-ltminus16777215
returns-then-k-ltminus16777215 c = c.nearest_i32_to_f32-then-k-ltminus16777215.ensures ∙ ap (of_int binary32) (to_z-of_z w32 c.args.k c.ranges.k)

pub int_to_float-result : goal.int_to_float-result
int_to_float-result c =
    let k = c.args.k in
    exact (to_z w32 (of_z w32 k)) c.if-k-gt16777215.false c.if-k-ltminus16777215.false
