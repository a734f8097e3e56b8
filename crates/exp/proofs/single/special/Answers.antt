-- `exp::single::special` meets its contract. Assumes nothing.
use Rattle.std.proofs.Common.{◌<◌, inl, inr, arith, le-ltb, lt-ltb, eq-eqb, ne_eqb, le-leb}
use mathlib.Core.Bool.{and-false}
use lib.Ieee.{nan_bits}
use borrow.Author.Tests.{lt-leb}
use Rattle.exp.specs.Expf.{special_s}
use Rattle.exp.proofs.single.special.Goals as goal

pub returns-then-hx-gt2139095040 : goal.returns-then-hx-gt2139095040
unfolding special_s
returns-then-hx-gt2139095040 c = simp (lt-ltb _ _ c.if-hx-gt2139095040.true)

pub float_from_bits-result : goal.float_from_bits-result
unfolding nan_bits
float_from_bits-result c = tt

pub returns-then-sign-eq0 : goal.returns-then-sign-eq0
unfolding special_s
returns-then-sign-eq0 c = simp (le-ltb _ _ c.if-hx-gt2139095040.false, le-leb _ _ c.if-hx-ge1118925336.true, c.if-sign-eq0.true)

pub returns-then-sign-eq0-2 : goal.returns-then-sign-eq0-2
unfolding special_s
returns-then-sign-eq0-2 c =
    let below : c.args.hx < 0x42B17218 = elim c.else-hx-ge1118925336.either [ inl h ↦ absurd (h.1 c.if-sign-eq0-2.true) | inr h ↦ h ] in
    simp (le-ltb _ _ c.if-hx-gt2139095040.false, lt-leb _ _ below) (simp (eq-eqb _ _ c.if-sign-eq0-2.true) c.plain.ensures)

pub returns-then-hx-ge1120924085 : goal.returns-then-hx-ge1120924085
unfolding special_s
returns-then-hx-ge1120924085 c =
    let hx = c.args.hx in
    simp (le-ltb _ _ c.if-hx-gt2139095040.false, ne_eqb _ _ c.if-sign-eq0-2.false, and-false, le-leb 0x42CFF1B5 hx (omega (arith, c.if-hx-ge1120924085.true)))

pub returns : goal.returns
unfolding special_s
returns c =
    let hx = c.args.hx in
    simp (le-ltb _ _ c.if-hx-gt2139095040.false, ne_eqb _ _ c.if-sign-eq0-2.false, and-false, lt-leb 0x42CFF1B5 hx (omega (arith, c.if-hx-ge1120924085.false))) c.plain-2.ensures
