-- What the loop of `hexadecimal::put` keeps: what is stored are the first of the digits.
use mathlib.Core.Path.{◌≡◌}
use lib.ListN.{take}
use Rattle.hexadecimal.specs.Hex.{hex}
use Rattle.hexadecimal.proofs.put.Given as goal

abbrev pub invariant-loop-i : goal.invariant-loop-i
invariant-loop-i l = take l.i l.part ≡ take l.i (hex l.width l.x)
