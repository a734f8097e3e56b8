-- `exp::special` meets its contract. Assumes nothing.
use lib.Ieee.{nan_bits}
use Rattle.exp.specs.Exp.{special_s}
use Rattle.exp.proofs.special.Goals as goal

pub returns-then-x : goal.returns-then-x
unfolding special_s
returns-then-x c = simp c.if-x.true

pub float_from_bits-result : goal.float_from_bits-result
unfolding nan_bits
float_from_bits-result c = tt

pub returns-then-x-2 : goal.returns-then-x-2
unfolding special_s
returns-then-x-2 c = simp (c.if-x.false, c.if-x-2.true)

pub returns-then-x-4 : goal.returns-then-x-4
unfolding special_s
returns-then-x-4 c =
    simp (c.if-x.false, c.if-x-2.false, c.if-x-3.true, c.if-x-4.true)

pub returns-then-x-3 : goal.returns-then-x-3
unfolding special_s
returns-then-x-3 c =
    simp
    (c.if-x.false, c.if-x-2.false, c.if-x-3.true, c.if-x-4.false)
    c.plain.ensures

pub returns : goal.returns
unfolding special_s
returns c =
    simp (c.if-x.false, c.if-x-2.false, c.if-x-3.false) c.plain-2.ensures
