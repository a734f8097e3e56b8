-- `entries::pair::rvt_erf_erfc` meets its contract: a pair of its length gets both values. Assumes nothing.
use borrow.Author.Rules.{rules}
use Rattle.entries.proofs.PairLaws.{pair_given}
use Rattle.entries.proofs.pair.rvt_erf_erfc.Goals as goal

pub returns : goal.returns
returns c =
    pair_given c.args.x c.args.pair.now _ _ _ _ _ (search rules) c.from.ensures c.erf_erfc_bits-t.ensures.0 c.erf_erfc_bits-t.ensures.1 c.put.ensures c.put-2.ensures
