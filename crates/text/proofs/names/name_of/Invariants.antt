-- What the loop of `text::names::name_of` keeps: the rows passed are not of that kind.
use mathlib.Core.Path.{◌≡◌}
use lib.ListN.{drop}
use Rattle.text.specs.Names.{names}
use Rattle.text.specs.Rows.{head_for}
use Rattle.text.proofs.names.name_of.Given as goal

abbrev pub invariant-loop-row : goal.invariant-loop-row
invariant-loop-row l = head_for (drop l.row-index names) l.kind ≡ head_for names l.kind
