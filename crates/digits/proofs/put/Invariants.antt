-- What the loop of `digits::put` keeps: what is stored and what is left to store are all the digits.
use mathlib.Core.Path.{◌≡◌}
use mathlib.Core.List.{◌++◌}
use Prim.Native.Nat.{◌-◌}
use lib.ListN.{length, take}
use Rattle.digits.specs.Digits.{digits}
use Rattle.digits.proofs.put.Given as goal

abbrev pub invariant-loop-byte : goal.invariant-loop-byte
invariant-loop-byte l = take l.byte-index l.part ++ digits (length l.part - l.byte-index) l.left ≡ digits (length l.part) l.x
