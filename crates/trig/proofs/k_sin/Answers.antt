-- `trig::k_sin` meets its contract. Assumes nothing.
use mathlib.Core.Path.{◌≡◌, sym, ap, ◌∙◌}
use mir.Syntax.{w32}
use mir.Val.{to_z, of_z}
use mir.ValLaws.{to_z-of_z}
use lib.IntN.{ℤ, pos, negsuc, nat_abs}
use native.Mathlib.Omega.{arith}
use borrow.Author.Tests.{ne_eqb}
use Rattle.trig.specs.KSin.{k_sin_s}
use Rattle.trig.proofs.k_sin.Goals as goal

pub returns-then-iy-eq0 : goal.returns-then-iy-eq0
unfolding k_sin_s
returns-then-iy-eq0 c =
    let iy = c.args.iy in
    let e : iy ≡ pos 0 = sym (to_z-of_z w32 iy c.ranges.iy) ∙ ap (to_z w32) c.if-iy-eq0.true in
    rw e

only_zero : (z : ℤ) → nat_abs z ≡ 0 → z ≡ pos 0
only_zero (pos n) h = ap pos h
only_zero (negsuc n) h = absurd (omega (arith, h))

pub returns-else-iy-eq0 : goal.returns-else-iy-eq0
unfolding k_sin_s
returns-else-iy-eq0 c =
    let iy = c.args.iy in
    simp (ne_eqb _ _ (λ q. c.if-iy-eq0.false (ap (of_z w32) (only_zero iy q))))
