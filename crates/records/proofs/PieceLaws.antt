-- A stream that is read in pieces, each answered with room enough behind what was left unread, is answered as in one batch over the whole
-- stream: the pieces do not show. Assumes nothing.
use mathlib.Core.Path.{◌≡◌, sym, ap, ◌∙◌}
use mathlib.Core.List.{List, [], ◌∷◌, ◌++◌, append_assoc, append-nil}
use Prim.Native.Nat.{ℕ, ◌+◌, ◌-◌, ◌*◌, ◌≤◌}
use native.Mathlib.Omega.{arith}
use lib.ListN.{length, drop, length-append, length-drop}
use Rattle.records.specs.Row.{Row}
use Rattle.records.specs.Run.{Out, ahead, run}
use Rattle.records.specs.Pieces.{whole}
use Rattle.records.proofs.RunLaws.{run_within}
use Rattle.records.proofs.SplitLaws.{run_more}
use Rattle.records.proofs.RoomLaws.{Light, run_easy, run_same}

-- a batch with so much room on what is left and each piece in turn, and on what is left at the end
abbrev pub pieces : List Row → ℕ → List ℕ → List (List ℕ) → Out
pieces T room rest [] = run T rest room
pieces T room rest (p ∷ ps) = ahead (run T (rest ++ p) room) (pieces T room (drop (run T (rest ++ p) room).tally.read (rest ++ p)) ps)

-- every batch has room for twice its requests
abbrev pub Roomy : List Row → ℕ → List ℕ → List (List ℕ) → Type 0
Roomy T room rest [] = 2 * length rest ≤ room
Roomy T room rest (p ∷ ps) = (2 * length (rest ++ p) ≤ room) × Roomy T room (drop (run T (rest ++ p) room).tally.read (rest ++ p)) ps

module _ (T : List Row) (h : Light T) (room : ℕ) where
  pub pieces_are_whole : (rest : List ℕ) (ps : List (List ℕ)) (large : ℕ) → Roomy T room rest ps → room + 2 * length (rest ++ whole ps) ≤ large →
      pieces T room rest ps ≡ run T (rest ++ whole ps) large
  pieces_are_whole rest [] large r l =
      let e : rest ++ [] ≡ rest = append-nil rest in
      run_same T h rest room large r (omega (arith, ap length e)) ∙ ap (λ (x : List ℕ). run T x large) (sym e)
  pieces_are_whole rest (p ∷ ps) large r l =
      let s = rest ++ p in
      let o = run T s room in
      let left = drop o.tally.read s in
      let w = run_easy T h s room r.0 in
      let i = (run_within T s room).read in
      let d = length-drop o.tally.read s in
      let a = length-append s (whole ps) in
      let b = length-append left (whole ps) in
      let e : rest ++ (p ++ whole ps) ≡ s ++ whole ps = sym (append_assoc rest p (whole ps)) in
      let n : length (rest ++ (p ++ whole ps)) ≡ length (s ++ whole ps) = ap length e in
      ap (ahead o) (pieces_are_whole left ps (large - o.tally.written) r.1 (omega arith))
      ∙ sym (run_more T s (whole ps) room large (omega arith))
      ∙ ap (λ (x : List ℕ). run T x large) (sym e)
