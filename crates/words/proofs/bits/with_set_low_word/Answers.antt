-- `words::bits::with_set_low_word` meets its contract. Assumes nothing.
use Rattle.words.proofs.bits.with_set_low_word.Goals as goal

pub returns : goal.returns
returns c = cc
