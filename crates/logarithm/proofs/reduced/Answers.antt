-- `logarithm::reduced` meets its contract. Assumes nothing.
use mathlib.Core.Path.{refl}
use borrow.Author.Rules.{sfits_of}
use Rattle.logarithm.specs.Log.{log64}
use Rattle.logarithm.proofs.Reduction.{reduced_of}
use Rattle.logarithm.proofs.reduced.Goals as goal

pub returns : goal.returns
returns c =
    reduced_of
    log64
    c.args.ui
    _
    _
    c.args.k
    c.exponent-k.result
    c.of_bits.result
    _
    c.ranges.k
    (sfits_of c.exponent-k.type_inv)
    c.exponent-k.ensures
    c.of_bits.ensures
    (c.near.ensures log64)
    refl
    refl
