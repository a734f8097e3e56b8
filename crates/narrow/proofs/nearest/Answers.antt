-- `narrow::nearest` meets its contract. Assumes nothing.
use native.Mathlib.Omega.{arith}
use Rattle.narrow.proofs.NarrowLaws.{shifted, to_even, quotient_lt}
use Rattle.narrow.proofs.nearest.Goals as goal

pub overflow_add-result-2 : goal.overflow_add-result-2
overflow_add-result-2 c = omega (arith, quotient_lt c.args.d _ c.args.w (shifted c.args.w c.requires.1) c.requires.0 (omega arith))

pub returns : goal.returns
returns c =
    to_even c.args.d _ c.args.w (shifted c.args.w c.requires.1) c.requires.0
    c.if-rest-u.false c.if-rest-u-2.false
