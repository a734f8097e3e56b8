-- Where a run stopped, over any table: an unknown kind stops it whatever follows; where the stream is used up or cut, less than a record is
-- left. Assumes nothing.
use mathlib.Core.Path.{◌≡◌, sym, ap, ◌∙◌}
use mathlib.Core.List.{List, [], ◌∷◌, ◌++◌}
use Prim.Native.Nat.{ℕ, suc, ◌-◌, ◌≤◌}
use native.Mathlib.Omega.{arith}
use lib.ListN.{length, drop}
use Rattle.digits.specs.Digits.{word}
use Rattle.records.specs.Reply.{bytes_of}
use Rattle.records.specs.Row.{Row, row_in}
use Rattle.records.specs.Codes.{number_s}
use Rattle.records.specs.declared.Code.{Code}
use Rattle.records.specs.declared.Code.TheVariants.{Unknown, Full}
use Rattle.records.specs.Run.{Out, stop, ahead, choose, one, run}
use Rattle.records.proofs.RunLaws.{choose_elim, sound, by_refused}
use Rattle.records.proofs.StepLaws.{choose_unknown}
use Rattle.records.proofs.SplitLaws.{ahead_stop, run_more, run_ends}

-- a record that is refused for its kind is refused so with more behind it and with any room
one_unknown : (T : List Row) (s t : List ℕ) (room large : ℕ) → (one T s room).code ≡ Unknown → one T (s ++ t) large ≡ stop Unknown
unfolding one
one_unknown T [] t room large e = let z : ◌≡◌ {A = ℕ} 0 1 = ap number_s e in absurd (omega arith)
one_unknown T (k ∷ s) t room large e =
    let w = (row_in T k).width in
    let x = bytes_of ((row_in T k).reply (word w s)) in
    let y = bytes_of ((row_in T k).reply (word w (s ++ t))) in
    choose_elim (λ (o : Out). o.code ≡ Unknown → choose w (length (s ++ t)) large y ≡ stop Unknown) w (length s) room x
    (λ z _. choose_unknown w (length (s ++ t)) large y z)
    (λ _ _ c. let z : ◌≡◌ {A = ℕ} 2 1 = ap number_s c in absurd (omega arith))
    (λ _ _ _ c. let z : ◌≡◌ {A = ℕ} 3 1 = ap number_s c in absurd (omega arith))
    (λ _ _ _ c. let z : ◌≡◌ {A = ℕ} 0 1 = ap number_s c in absurd (omega arith))
    e

-- an unknown kind stops a run whatever follows
pub stays_unknown : (T : List Row) (s t : List ℕ) (room large : ℕ) → room ≤ large → (run T s room).code ≡ Unknown → run T (s ++ t) large ≡ run T s room
stays_unknown T s t room large le e =
    let o = run T s room in
    let rest = drop o.tally.read s in
    let more = large - o.tally.written in
    let u : one T (rest ++ t) more ≡ stop Unknown =
    one_unknown T rest t (room - o.tally.written) more (ap (λ (x : Out). x.code) (run_ends T s room) ∙ e) in
    run_more T s t room large le
    ∙ ap (ahead o) (by_refused (one T) (sound T) (rest ++ t) more Unknown u)
    ∙ ahead_stop o Unknown ∙ (λ i. record { code = sym e i; tally = o.tally; bytes = o.bytes })

-- every body has at most n bytes
abbrev pub Narrow : ℕ → List Row → Type 0
Narrow n T = (k : ℕ) → (row_in T k).width ≤ n

-- what stands before a record that is refused, and neither for its kind nor for want of room
one_short : (n : ℕ) (T : List Row) → Narrow n T → (s : List ℕ) (room : ℕ) (c : Code) → one T s room ≡ stop c → (c ≡ Unknown → ⊥) → (c ≡ Full → ⊥) → length s ≤ n
unfolding one
one_short n T h [] room c e u f = omega arith
one_short n T h (k ∷ s) room c e u f =
    let w = (row_in T k).width in
    let x = bytes_of ((row_in T k).reply (word w s)) in
    let narrow = h k in
    choose_elim (λ (o : Out). o ≡ stop c → suc (length s) ≤ n) w (length s) room x
    (λ _ q. absurd (u (sym (ap (λ (y : Out). y.code) q))))
    (λ _ l _. omega arith)
    (λ _ _ _ q. absurd (f (sym (ap (λ (y : Out). y.code) q))))
    (λ _ _ _ q. let z : ◌≡◌ {A = ℕ} 1 0 = ap (λ (y : Out). y.tally.records) q in absurd (omega arith))
    e

-- what is left where the stream is used up or cut
pub left_short : (n : ℕ) (T : List Row) → Narrow n T → (s : List ℕ) (room : ℕ) → ((run T s room).code ≡ Unknown → ⊥) → ((run T s room).code ≡ Full → ⊥) →
    length (drop (run T s room).tally.read s) ≤ n
left_short n T h s room u f =
    one_short n T h (drop (run T s room).tally.read s) (room - (run T s room).tally.written) (run T s room).code (run_ends T s room) u f
