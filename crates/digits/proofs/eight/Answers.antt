-- `digits::eight` meets its contract: std's number of eight bytes is their word. Assumes nothing.
use native.Mathlib.Omega.{arith}
use Rattle.digits.proofs.DigitLaws.{from_le_word, word_take_all}
use Rattle.digits.proofs.eight.Goals as goal

pub returns-in-Some : goal.returns-in-Some
returns-in-Some c = rw (c.from_le_bytes.ensures, from_le_word _, c.in-Some.ensures.cases.same) (word_take_all 8 8 _ (omega arith))
