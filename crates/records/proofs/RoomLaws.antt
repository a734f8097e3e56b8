-- Where every answer takes at most twice the bytes of its request, room for twice the requests is room enough. Assumes nothing.
use mathlib.Core.Path.{◌≡◌, refl, sym, ap, ◌∙◌, subst}
use mathlib.Core.List.{List, [], ◌∷◌}
use mathlib.Core.Logic.{⊎_elim}
use Prim.Native.Nat.{ℕ, zero, suc, ◌+◌, ◌-◌, ◌*◌, ◌≤◌, ◌<◌}
use native.Mathlib.Omega.{arith}
use lib.ListN.{length, drop, length-drop}
use Rattle.digits.specs.Digits.{word}
use Rattle.records.specs.Reply.{bytes_of}
use Rattle.records.specs.Row.{Row, row_in}
use Rattle.records.specs.Codes.{number_s}
use Rattle.records.specs.Run.{Out, ahead, choose, one, run}
use Rattle.records.proofs.RunLaws.{choose_elim, sound, run_stop, run_go, onward}
use Rattle.records.proofs.StepLaws.{choose_unknown, choose_cut, choose_whole}
use Rattle.records.proofs.SplitLaws.{zero_or}

-- an answer takes at most twice the bytes of its request
abbrev pub Light : List Row → Type 0
Light T = (k b : ℕ) → length (bytes_of ((row_in T k).reply b)) ≤ 2 * (1 + (row_in T k).width)

-- what room enough gives
abbrev Easy : Out → Type 0
Easy o = (number_s o.code ≤ 2) × (o.tally.written ≤ 2 * o.tally.read)

one_easy : (T : List Row) → Light T → (s : List ℕ) (room : ℕ) → 2 * length s ≤ room → Easy (one T s room)
unfolding one
one_easy T h [] room l = (omega arith, omega arith)
one_easy T h (k ∷ s) room l =
    let r = row_in T k in
    let x = bytes_of (r.reply (word r.width s)) in
    let lx : length x ≤ 2 * (1 + r.width) = h k (word r.width s) in
    choose_elim Easy r.width (length s) room x
    (λ _. (omega arith, omega arith))
    (λ _ _. (omega arith, omega arith))
    (λ _ c f. absurd (omega arith))
    (λ _ _ _. (omega arith, lx))

-- and it answers a record as any other room that is enough
one_same : (T : List Row) → Light T → (s : List ℕ) (room large : ℕ) → 2 * length s ≤ room → 2 * length s ≤ large → one T s room ≡ one T s large
unfolding one
one_same T h [] room large l m = refl
one_same T h (k ∷ s) room large l m =
    let r = row_in T k in
    let x = bytes_of (r.reply (word r.width s)) in
    let lx : length x ≤ 2 * (1 + r.width) = h k (word r.width s) in
    choose_elim (λ (o : Out). o ≡ choose r.width (length s) large x) r.width (length s) room x
    (λ z. sym (choose_unknown r.width (length s) large x z))
    (λ z c. sym (choose_cut r.width (length s) large x z c))
    (λ _ c f. absurd (omega arith))
    (λ z c f. sym (choose_whole r.width (length s) large x z c (omega arith)))

-- what is so of every record that is taken, and of what stops, is so of a run with room enough
module _ (T : List Row) (h : Light T) where
  easy : (n : ℕ) (s : List ℕ) (room : ℕ) → length s < n → 2 * length s ≤ room → Easy (run T s room)
  easy zero s room f l = absurd (omega arith)
  easy (suc n) s room f l =
      let p = one T s room in
      let e = one_easy T h s room l in
      ⊎_elim
      (λ z. subst Easy (sym (run_stop T s room z)) e)
      (λ z.
      let g = (sound T s room).goes z in
      let d = length-drop p.tally.read s in
      let i : Easy (onward T s room p.tally) = easy n (drop p.tally.read s) (room - p.tally.written) (omega arith) (omega arith) in
      subst Easy (sym (run_go T s room z)) (i.0, omega arith))
      (zero_or p.tally.records)

  same : (n : ℕ) (s : List ℕ) (room large : ℕ) → length s < n → 2 * length s ≤ room → 2 * length s ≤ large → run T s room ≡ run T s large
  same zero s room large f l m = absurd (omega arith)
  same (suc n) s room large f l m =
      let p = one T s room in
      let q = one T s large in
      let e = one_easy T h s room l in
      let o : p ≡ q = one_same T h s room large l m in
      ⊎_elim
      (λ z. run_stop T s room z ∙ o ∙ sym (run_stop T s large (ap (λ (x : Out). x.tally.records) (sym o) ∙ z)))
      (λ z.
      let g = (sound T s room).goes z in
      let d = length-drop p.tally.read s in
      run_go T s room z
      ∙ ap (ahead p) (same n (drop p.tally.read s) (room - p.tally.written) (large - p.tally.written) (omega arith) (omega arith) (omega arith))
      ∙ ap (λ (x : Out). ahead x (onward T s large x.tally)) o
      ∙ sym (run_go T s large (λ y. z (ap (λ (x : Out). x.tally.records) o ∙ y))))
      (zero_or p.tally.records)

  -- a run never stops for want of room, and writes at most twice what it reads
  pub run_easy : (s : List ℕ) (room : ℕ) → 2 * length s ≤ room → (number_s (run T s room).code ≤ 2) × ((run T s room).tally.written ≤ 2 * (run T s room).tally.read)
  run_easy s room l = easy (suc (length s)) s room (omega arith) l

  -- more room changes nothing
  pub run_same : (s : List ℕ) (room large : ℕ) → 2 * length s ≤ room → 2 * length s ≤ large → run T s room ≡ run T s large
  run_same s room large l m = same (suc (length s)) s room large (omega arith) l m
