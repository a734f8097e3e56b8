-- A table of kinds: any list of rows.
use Rattle.std.specs.Prelude.{ℕ, List, [], ◌∷◌, if◌then◌else◌}
use Rattle.words.specs.Tests.{◌=?◌}
use Rattle.records.specs.declared.Reply.{Reply}

-- a kind, how many bytes its body has (one at least), and the reply to the number that they make
pub record Row : Type 0 where
  pub kind : ℕ
  pub width : ℕ
  pub reply : ℕ → Reply

-- for a kind that is in no row: a body of no byte
abbrev pub no_row : ℕ → Row
no_row k = record { kind = k; width = 0; reply = λ b. record { head = 0; width = 0; bits = 0; more = 0; extra = 0 } }

-- the row of a kind
unfoldable pub row_in : List Row → ℕ → Row
row_in [] k = no_row k
row_in (r ∷ rs) k = if k =? r.kind then r else row_in rs k
