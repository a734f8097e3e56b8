-- `whole::wholef` meets its contract: below 1, from 2 ^ 31 on, and between as a quotient and its remainder. Assumes nothing.
use mathlib.Core.Path.{ap, ◌∙◌}
use native.Mathlib.Omega.{arith}
use lib.Ieee.{binary32}
use Rattle.whole.specs.Whole.{whole_s, has_fraction_s}
use Rattle.words.proofs.PatternLaws.{of_pattern}
use Rattle.whole.proofs.WholeBits as laws
use Rattle.whole.proofs.wholef.Goals as goal

pub returns-then-e-lt127 : goal.returns-then-e-lt127
returns-then-e-lt127 c =
    let held = of_pattern binary32 c.args.x c.bits_of-b.result c.well_formed.0.1 c.bits_of-b.ensures in
    let p = laws.below_one_holds binary32 c.bits_of-b.result c.if-e-lt127.true in
    (p.0 ∙ ap whole_s held, p.1 ∙ ap has_fraction_s held)

pub returns-then-e-gt157 : goal.returns-then-e-gt157
returns-then-e-gt157 c =
    let held = of_pattern binary32 c.args.x c.bits_of-b.result c.well_formed.0.1 c.bits_of-b.ensures in (
      laws.large binary32 c.bits_of-b.result (omega (arith, c.if-e-gt157.true)) ∙ ap whole_s held,
      laws.no_fraction binary32 c.bits_of-b.result (omega (arith, c.if-e-gt157.true)) ∙ ap has_fraction_s held,
    )

pub returns : goal.returns
returns c =
    let held = of_pattern binary32 c.args.x c.bits_of-b.result c.well_formed.0.1 c.bits_of-b.ensures in
    let upto = c.if-e-gt157.false in
    let p = laws.inside binary32 c.bits_of-b.result 7 c.if-e-lt127.false (omega (arith, upto)) (omega (arith, upto)) in
    (c.divided.ensures.0 ∙ p.0 ∙ ap whole_s held, c.divided.ensures.1 ∙ p.1 ∙ ap has_fraction_s held)
