-- The number of a code, as C and the programs show it.
use Rattle.std.specs.Prelude.{ℕ}
use Rattle.records.specs.declared.Code.{Code}
use Rattle.records.specs.declared.Code.TheVariants.{Done, Unknown, Cut, Full}

-- Done: what was to be read is used up. Unknown: a kind that is in no row; of a text, a line that is bad. Cut: an incomplete body. Full: no room
-- for what is to be written.
abbrev pub number_s : Code → ℕ
number_s Done = 0
number_s Unknown = 1
number_s Cut = 2
number_s Full = 3
