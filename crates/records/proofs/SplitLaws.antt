-- A run over a stream that comes in two pieces: what the first leaves unread goes before the second. Where a run stopped, the next record
-- is refused with the run's code. Assumes nothing.
use mathlib.Core.Path.{◌≡◌, refl, sym, ap, ◌∙◌, subst}
use mathlib.Core.List.{List, [], ◌∷◌, ◌++◌, append_assoc, append-nil}
use mathlib.Core.Logic.{◌⊎◌, inl, inr, ⊎_elim}
use Prim.Native.Nat.{ℕ, zero, suc, ◌+◌, ◌-◌, ◌≤◌, ◌<◌}
use native.Mathlib.Omega.{arith}
use lib.ListN.{length, drop, length-append, length-drop}
use lib.Seq.{drop-drop, drop-append-le}
use Rattle.digits.specs.Digits.{word}
use Rattle.digits.proofs.DigitLaws.{word_append}
use Rattle.records.specs.Reply.{bytes_of}
use Rattle.records.specs.Row.{Row, row_in}
use Rattle.records.specs.Tally.{nothing, ◌⊞◌}
use Rattle.records.specs.Run.{Out, stop, ahead, choose, one, run}
use Rattle.records.specs.declared.Code.{Code}
use Rattle.records.specs.declared.Tally.{Tally}
use Rattle.records.proofs.TallyLaws.{⊞_assoc, nothing_⊞, ⊞_nothing}
use Rattle.records.proofs.RunLaws.{sound, run_go, run_stop, onward, choose_elim}
use Rattle.records.proofs.StepLaws.{choose_whole}

pub ahead_assoc : (a b c : Out) → ahead (ahead a b) c ≡ ahead a (ahead b c)
ahead_assoc a b c = λ i. record { code = c.code; tally = ⊞_assoc a.tally b.tally c.tally i; bytes = append_assoc a.bytes b.bytes c.bytes i }

pub ahead_none : (a x : Out) → a.tally ≡ nothing → a.bytes ≡ [] → ahead a x ≡ x
ahead_none a x et eb = λ i. record {
  code = x.code;
  tally = (ap (λ (t : Tally). t ⊞ x.tally) et ∙ nothing_⊞ x.tally) i;
  bytes = ap (λ (l : List ℕ). l ++ x.bytes) eb i;
}

-- behind anything a refusal leaves its code
pub ahead_stop : (o : Out) (c : Code) → ahead o (stop c) ≡ record { code = c; tally = o.tally; bytes = o.bytes }
ahead_stop o c = λ i. record { code = c; tally = ⊞_nothing o.tally i; bytes = append-nil o.bytes i }

-- what a record that was answered passed
choose_goes : (w l room : ℕ) (x : List ℕ) → ((choose w l room x).tally.records ≡ 0 → ⊥) → (w ≡ 0 → ⊥) × ((w ≤ l) × (length x ≤ room))
choose_goes w l room x =
    choose_elim (λ (o : Out). (o.tally.records ≡ 0 → ⊥) → (w ≡ 0 → ⊥) × ((w ≤ l) × (length x ≤ room))) w l room x
    (λ _ h. absurd (h refl)) (λ _ _ h. absurd (h refl)) (λ _ _ _ h. absurd (h refl)) (λ z c f _. (z, (c, f)))

-- a whole record stays what it is, whatever follows
pub one_more : (T : List Row) (s t : List ℕ) (room large : ℕ) → room ≤ large → ((one T s room).tally.records ≡ 0 → ⊥) → one T (s ++ t) large ≡ one T s room
unfolding one
one_more T [] t room large le h = absurd (h refl)
one_more T (k ∷ s) t room large le h =
    let w = (row_in T k).width in
    let x = bytes_of ((row_in T k).reply (word w s)) in
    let g = choose_goes w (length s) room x h in
    let l = length-append s t in
    ap (λ (n : ℕ). choose w (length (s ++ t)) large (bytes_of ((row_in T k).reply n))) (word_append w s t g.1.0)
    ∙ choose_whole w (length (s ++ t)) large x g.0 (omega arith) (omega arith)
    ∙ sym (choose_whole w (length s) room x g.0 g.1.0 g.1.1)

pub zero_or : (k : ℕ) → (k ≡ 0) ⊎ (k ≡ 0 → ⊥)
zero_or zero = inl refl
zero_or (suc k) = inr (λ e. omega arith)

abbrev After : List Row → List ℕ → List ℕ → ℕ → Out → Type 0
After T s t room o = run T (s ++ t) room ≡ ahead o (run T (drop o.tally.read s ++ t) (room - o.tally.written))

after_stop : (T : List Row) (s t : List ℕ) (room : ℕ) (p : Out) → p.tally ≡ nothing → p.bytes ≡ [] → After T s t room p
after_stop T s t room p et eb =
    let l : room - 0 ≡ room = omega arith in
    sym (ahead_none p (run T (drop p.tally.read s ++ t) (room - p.tally.written)) et eb
    ∙ ap (λ (y : Tally). run T (drop y.read s ++ t) (room - y.written)) et ∙ ap (run T (s ++ t)) l)

after_go : (T : List Row) (s t : List ℕ) (room : ℕ) (p o : Out) → one T (s ++ t) room ≡ p → (p.tally.records ≡ 0 → ⊥) → p.tally.read ≤ length s →
    After T (drop p.tally.read s) t (room - p.tally.written) o → After T s t room (ahead p o)
after_go T s t room p o e z le ih =
    let go = run_go T (s ++ t) room (λ h. z (ap (λ (x : Out). x.tally.records) (sym e) ∙ h)) in
    let er : (room - p.tally.written) - o.tally.written ≡ room - (p.tally.written + o.tally.written) = omega arith in
    go ∙ ap (λ (x : Out). ahead x (onward T (s ++ t) room x.tally)) e
    ∙ ap (λ (x : List ℕ). ahead p (run T x (room - p.tally.written))) (drop-append-le p.tally.read s t le)
    ∙ ap (ahead p) ih
    ∙ sym (ahead_assoc p o (run T (drop o.tally.read (drop p.tally.read s) ++ t) ((room - p.tally.written) - o.tally.written)))
    ∙ ap (λ (x : List ℕ). ahead (ahead p o) (run T (x ++ t) ((room - p.tally.written) - o.tally.written))) (drop-drop o.tally.read p.tally.read s)
    ∙ ap (λ (k : ℕ). ahead (ahead p o) (run T (drop (p.tally.read + o.tally.read) s ++ t) k)) er

more : (T : List Row) (n : ℕ) (s t : List ℕ) (room large : ℕ) → length s < n → room ≤ large → After T s t large (run T s room)
more T zero s t room large h le = absurd (omega arith)
more T (suc n) s t room large h le =
    let p = one T s room in
    let q = sound T s room in
    ⊎_elim
    (λ z. subst (After T s t large) (sym (run_stop T s room z)) (after_stop T s t large p (q.stops z).0 (q.stops z).1))
    (λ z.
    let g = q.goes z in
    let d = length-drop p.tally.read s in
    subst (After T s t large) (sym (run_go T s room z))
    (after_go T s t large p (onward T s room p.tally) (one_more T s t room large le z) z g.1.1
    (more T n (drop p.tally.read s) t (room - p.tally.written) (large - p.tally.written) (omega arith) (omega arith))))
    (zero_or p.tally.records)

-- A run over more bytes and with more room goes on from where a run over fewer stopped, whatever the code.
pub run_more : (T : List Row) (s t : List ℕ) (room large : ℕ) → room ≤ large →
    run T (s ++ t) large ≡ ahead (run T s room) (run T (drop (run T s room).tally.read s ++ t) (large - (run T s room).tally.written))
run_more T s t room large le = more T (suc (length s)) s t room large (omega arith) le

-- Where a run stopped, the record at the front is refused, with the run's code.
abbrev pub Ended : List Row → List ℕ → ℕ → Out → Type 0
Ended T s room o = one T (drop o.tally.read s) (room - o.tally.written) ≡ stop o.code

ended_stop : (T : List Row) (s : List ℕ) (room : ℕ) (p : Out) → one T s room ≡ p → p.tally ≡ nothing → p.bytes ≡ [] → Ended T s room p
ended_stop T s room p e et eb =
    let l : room - 0 ≡ room = omega arith in
    ap (λ (y : Tally). one T (drop y.read s) (room - y.written)) et ∙ ap (one T s) l ∙ e
    ∙ (λ i. record { code = p.code; tally = et i; bytes = eb i })

ended_go : (T : List Row) (s : List ℕ) (room : ℕ) (p o : Out) → Ended T (drop p.tally.read s) (room - p.tally.written) o → Ended T s room (ahead p o)
ended_go T s room p o ih =
    let er : room - (p.tally.written + o.tally.written) ≡ (room - p.tally.written) - o.tally.written = omega arith in
    ap (one T (drop (p.tally.read + o.tally.read) s)) er
    ∙ ap (λ (x : List ℕ). one T x ((room - p.tally.written) - o.tally.written)) (sym (drop-drop o.tally.read p.tally.read s)) ∙ ih

ends : (T : List Row) (n : ℕ) (s : List ℕ) (room : ℕ) → length s < n → Ended T s room (run T s room)
ends T zero s room h = absurd (omega arith)
ends T (suc n) s room h =
    let p = one T s room in
    let q = sound T s room in
    ⊎_elim
    (λ z. subst (Ended T s room) (sym (run_stop T s room z)) (ended_stop T s room p refl (q.stops z).0 (q.stops z).1))
    (λ z.
    let g = q.goes z in
    let d = length-drop p.tally.read s in
    subst (Ended T s room) (sym (run_go T s room z))
    (ended_go T s room p (onward T s room p.tally) (ends T n (drop p.tally.read s) (room - p.tally.written) (omega arith))))
    (zero_or p.tally.records)

pub run_ends : (T : List Row) (s : List ℕ) (room : ℕ) → Ended T s room (run T s room)
run_ends T s room = ends T (suc (length s)) s room (omega arith)
