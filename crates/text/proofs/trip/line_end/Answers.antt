-- `text::trip::line_end` meets its contract: the place of the first newline is the length of the first line. Assumes nothing.
use mathlib.Core.Path.{sym, ap, ◌∙◌}
use Prim.Native.Nat.{ℕ}
use lib.ListN.{length}
use Rattle.std.proofs.Common.{rules, tests, cond, Some, None}
use lib.Dec.{ltb}
use Rattle.std.proofs.lemmas.Iterator.{YieldsList-from_slice}
use Rattle.std.proofs.lemmas.Iterator.Search.{position_from_yields_List}
use Rattle.std.specs.Option.{unwrap_or}
use Rattle.words.specs.Tests.{◌=?◌}
use Rattle.text.specs.Text.{NEWLINE}
use Rattle.text.specs.Trip.{first_line}
use Rattle.text.proofs.PlaceLaws.{first_in, first_place, place_or_end}
use Rattle.text.proofs.trip.line_end.Goals as goal

pub returns : goal.returns
returns c =
    let s = c.args.text.now in
    let found = position_from_yields_List (λ (b : ℕ). b =? NEWLINE) _ _ _ c.position.ensures.ran (YieldsList-from_slice s cc) (λ x b q k. search (rules, tests)) in
    c.unwrap_or.ensures ∙ ap (λ p. unwrap_or p (length s)) found
    ∙ ap (λ (n : ℕ). unwrap_or (cond (ltb n (length s)) (Some n) None) (length s)) (sym (first_place s))
    ∙ place_or_end (length (first_line s)) (length s) (first_in s)
