-- `words::bits::with_set_high_word` meets its contract. Assumes nothing.
use Rattle.words.proofs.bits.with_set_high_word.Goals as goal

pub returns : goal.returns
returns c = cc
