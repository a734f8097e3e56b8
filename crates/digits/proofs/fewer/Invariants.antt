-- What the loop of `digits::fewer` keeps: the bytes still to come and those passed are all of them, and what was read so far is the word of
-- those passed.
use mathlib.Core.Path.{◌≡◌}
use mathlib.Core.List.{◌++◌}
use Prim.Native.Nat.{◌-◌, ◌^◌, ◌<◌}
use lib.ListN.{length, drop}
use Rattle.digits.specs.Digits.{word}
use Rattle.digits.proofs.fewer.Given as goal

abbrev pub invariant-loop-byte : goal.invariant-loop-byte
invariant-loop-byte l =
    let front = l.byte-iterator.iter.rest.now in
    let n = length front in
    (front ++ drop n l.s ≡ l.s) × ((l.x ≡ word (length l.s - n) (drop n l.s)) × (l.x < 256 ^ (length l.s - n)))
