-- `pow_exp::exp2` meets its contract. Assumes nothing.
use mathlib.Core.Path.{◌≡◌, sym, ap, ◌∙◌}
use Prim.Native.Nat.{ℕ, ◌+◌, ◌-◌, ◌*◌, ◌/◌, ◌%◌, ◌^◌, ◌<◌}
use lib.Ieee.{Float}
use lib.IntN.{pos, neg_ℤ, ◌-ℤ◌}
use mir.Syntax.{w32}
use mir.Val.{to_z, of_z}
use native.Mathlib.Omega.{arith}
use borrow.Author.Tests.{le-ltb}
use Rattle.words.specs.F64.{bits}
use Rattle.words.specs.Bits.{with_high_word_s}
use Rattle.pow_exp.specs.Exp2.{word, scaled_s, exp2_s}
use Rattle.pow_log.proofs.Integers.{small, fits_difference, held_difference, less_than_zero}
use Rattle.pow_exp.proofs.Half.{cut_back, half, below, amount, sum_word, field_fits, shift, below_is, amount_le, amount_pos}
use Rattle.pow_exp.proofs.Laws.{negative_word, rounded_up, rounded_down}
use Rattle.pow_exp.proofs.exp2.Goals as goal

-- n and -n, as an i32 holds them
as_plus : (j : ℕ) → to_z w32 (amount j) ≡ pos (amount j)
as_plus j = small (amount j) (omega (arith, amount_le j))

as_minus : (j : ℕ) → to_z w32 (of_z w32 (to_z w32 0 -ℤ to_z w32 (amount j))) ≡ neg_ℤ (pos (amount j))
as_minus j = held_difference 0 (amount j) (omega arith) (amount_le j) ∙ less_than_zero (amount j)

-- t, as the definition has it
cut : (j : ℕ) (t : Float) → j + half j < 0x100000000 → t ≡ with_high_word_s (bits 0) ((j + half j) / 2 ^ below j * 2 ^ below j % 0x100000000) → t ≡ with_high_word_s (bits 0) ((j + half j) / 2 ^ below j * 2 ^ below j)
cut j t h e = e ∙ ap (with_high_word_s (bits 0)) (cut_back (j + half j) (below j) h)

pub returns-then-i-le1071644672 : goal.returns-then-i-le1071644672
unfolding exp2_s
returns-then-i-le1071644672 c = simp (le-ltb _ _ c.if-i-le1071644672.true) (cc)

pub overflow_add-h : goal.overflow_add-h
overflow_add-h c = record { fits = sum_word c.args.j c.if-i-le1071644672.false c.requires c.ranges.j.fits }

pub overflow_sub-d : goal.overflow_sub-d
overflow_sub-d c = field_fits c.args.j c.if-i-le1071644672.false c.requires c.ranges.j.fits

pub overflow_shr-h-2 : goal.overflow_shr-h-2
overflow_shr-h-2 c = shift c.args.j c.if-i-le1071644672.false c.requires c.ranges.j.fits

pub overflow_shl-h : goal.overflow_shl-h
overflow_shl-h c = shift c.args.j c.if-i-le1071644672.false c.requires c.ranges.j.fits

pub overflow_shr-n : goal.overflow_shr-n
overflow_shr-n c = shift c.args.j c.if-i-le1071644672.false c.requires c.ranges.j.fits

pub overflow_cast-n : goal.overflow_cast-n
overflow_cast-n c = record { sfits = omega (arith, amount_le c.args.j) }

pub scaled-requires-then-j-lt2147483648 : goal.scaled-requires-then-j-lt2147483648
scaled-requires-then-j-lt2147483648 c = sym (ap word (as_plus c.args.j))

pub returns-then-j-lt2147483648 : goal.returns-then-j-lt2147483648
returns-then-j-lt2147483648 c = let j = c.args.j in
    rounded_up c.args.s c.args.p_h c.args.p_l j (below j) _ _ _ c.if-i-le1071644672.false (below_is j c.if-i-le1071644672.false c.requires c.ranges.j.fits) (cut j _ (sum_word j c.if-i-le1071644672.false c.requires c.ranges.j.fits) c.with_set_high_word-t.ensures) c.fraction-then-j-lt2147483648.ensures c.if-j-lt2147483648.true (c.scaled-then-j-lt2147483648.ensures ∙ ap (scaled_s c.fraction-then-j-lt2147483648.result) (as_plus j))

pub overflow_cast-n-2 : goal.overflow_cast-n-2
overflow_cast-n-2 c = record { sfits = omega (arith, amount_le c.args.j) }

pub overflow_sub-n : goal.overflow_sub-n
overflow_sub-n c = let j = c.args.j in
    fits_difference 0 (amount j) (omega arith) (amount_le j)

pub overflow_sub-n-2 : goal.overflow_sub-n-2
overflow_sub-n-2 c = omega (arith, amount_le c.args.j)

pub overflow_add-n-2 : goal.overflow_add-n-2
overflow_add-n-2 c = record { fits = omega (arith, amount_le c.args.j, amount_pos c.args.j c.if-i-le1071644672.false c.requires c.ranges.j.fits) }

pub scaled-requires-2 : goal.scaled-requires-2
scaled-requires-2 c = let j = c.args.j in
    let p : 0 < amount j = amount_pos j c.if-i-le1071644672.false c.requires c.ranges.j.fits in
    let w : 0xFFFFFFFF - amount j + 1 ≡ 0x100000000 - amount j = omega (arith, amount_le j) in
    w ∙ sym (negative_word (amount j) p) ∙ sym (ap word (as_minus j))

pub returns : goal.returns
returns c = let j = c.args.j in
    rounded_down c.args.s c.args.p_h c.args.p_l j (below j) _ _ _ c.if-i-le1071644672.false (below_is j c.if-i-le1071644672.false c.requires c.ranges.j.fits) (cut j _ (sum_word j c.if-i-le1071644672.false c.requires c.ranges.j.fits) c.with_set_high_word-t.ensures) c.fraction-2.ensures c.if-j-lt2147483648.false (c.scaled-2.ensures ∙ ap (scaled_s c.fraction-2.result) (as_minus j))
