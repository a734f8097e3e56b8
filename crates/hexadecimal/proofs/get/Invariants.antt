-- What the loop of `hexadecimal::get` keeps: the digits read, and that what the rest says behind them is what the text says.
use Rattle.std.specs.Prelude.{Option, Some, None, if◌then◌else◌}
use mathlib.Core.Path.{◌≡◌}
use mathlib.Core.List.{List}
use Prim.Native.Nat.{ℕ, ◌+◌, ◌*◌, ◌^◌, ◌<◌}
use lib.ListN.{length, drop}
use Rattle.hexadecimal.specs.Hex.{all_hex, value, number_s}
use Rattle.hexadecimal.proofs.get.Given as goal

-- what a text says behind digits that make x
unfoldable pub behind : ℕ → List ℕ → Option ℕ
behind x s = if all_hex s then Some (x * 16 ^ length s + value s) else None

abbrev pub invariant-loop-c : goal.invariant-loop-c
invariant-loop-c l = (l.x < 16 ^ l.c-index) × (behind l.x (drop l.c-index l.fn.s) ≡ number_s l.fn.s)
