-- What the loop of `text::ask` keeps: the rows passed say nothing of the line.
use mathlib.Core.Path.{◌≡◌}
use lib.ListN.{drop}
use Rattle.text.specs.Names.{names}
use Rattle.text.specs.Line.{asked}
use Rattle.text.proofs.ask.Given as goal

abbrev pub invariant-loop-row : goal.invariant-loop-row
invariant-loop-row l = asked (drop l.row-index names) l.line ≡ asked names l.line
