-- Laws of a run by any lawful step, and of `run` over any table: its one equation, that it stays within what it reads and the room, and that it
-- counts the bytes that it writes. Assumes nothing.
use mathlib.Core.Path.{◌≡◌, refl, sym, ap, ◌∙◌}
use mathlib.Core.List.{List, [], ◌∷◌}
use mathlib.Core.Bool.{Bool, true, false}
use Prim.Native.Nat.{ℕ, zero, suc, ◌+◌, ◌-◌, ◌≤◌, ◌<◌}
use native.Mathlib.Omega.{arith}
use borrow.Author.Tests.{ltb-true, ltb-false, eqb-true, eqb-false}
use lib.Dec.{eqb, ltb}
use lib.ListN.{length, drop, length-append, length-drop}
use Rattle.words.specs.Pick.{pick}
use Rattle.digits.specs.Digits.{word}
use Rattle.records.specs.Reply.{bytes_of}
use Rattle.records.specs.Row.{Row, row_in}
use Rattle.records.specs.declared.Code.{Code}
use Rattle.records.specs.declared.Code.TheVariants.{Done, Unknown, Cut, Full}
use Rattle.records.specs.Run.{Out, stop, ahead, took, choose, one, next, steps_by, run_by, run}
use Rattle.records.specs.Lawful.{Sound, Lawful}
use Rattle.records.specs.declared.Tally.{Tally}

-- what is so of both sides of a test, under its outcome, is so of its choice
pub pick_elim : {A : Type 0} (P : A → Type 0) (t : Bool) (a b : A) → (t ≡ true → P a) → (t ≡ false → P b) → P (pick t a b)
pick_elim P true a b f g = f refl
pick_elim P false a b f g = g refl

-- what is so of each outcome of the tests, under what led to it, is so of the outcome
pub choose_elim : (P : Out → Type 0) (w left room : ℕ) (x : List ℕ) → (w ≡ 0 → P (stop Unknown)) → ((w ≡ 0 → ⊥) → left < w → P (stop Cut)) →
    ((w ≡ 0 → ⊥) → w ≤ left → room < length x → P (stop Full)) → ((w ≡ 0 → ⊥) → w ≤ left → length x ≤ room → P (took w x)) → P (choose w left room x)
choose_elim P w left room x unknown cut full whole =
    let third = pick (ltb room (length x)) (stop Full) (took w x) in
    let second = pick (ltb left w) (stop Cut) third in
    pick_elim P (eqb w 0) (stop Unknown) second (λ z. unknown (eqb-true w 0 z))
    (λ z. pick_elim P (ltb left w) (stop Cut) third (λ c. cut (eqb-false w 0 z) (ltb-true left w c))
    (λ c. pick_elim P (ltb room (length x)) (stop Full) (took w x)
    (λ f. full (eqb-false w 0 z) (ltb-false left w c) (ltb-true room (length x) f))
    (λ f. whole (eqb-false w 0 z) (ltb-false left w c) (ltb-false room (length x) f))))

pub stop_sound : (s : List ℕ) (room : ℕ) (c : Code) → Sound s room (stop c)
stop_sound s room c = record { stops = λ h. (refl, refl); goes = λ h. absurd (h refl); fits = omega arith; counts = refl }

pub took_sound : (k : ℕ) (s : List ℕ) (room w : ℕ) (x : List ℕ) → w ≤ length s → length x ≤ room → Sound (k ∷ s) room (took w x)
took_sound k s room w x h l = record {
  stops = λ e. absurd (let z : ◌≡◌ {A = ℕ} 1 0 = e in omega arith);
  goes = λ _. (refl, (omega arith, omega arith));
  fits = l;
  counts = refl;
}

-- what the tests choose is so, of a body that stands behind a byte
pub choose_sound : (k : ℕ) (s : List ℕ) (room w : ℕ) (x : List ℕ) → Sound (k ∷ s) room (choose w (length s) room x)
choose_sound k s room w x =
    choose_elim (Sound (k ∷ s) room) w (length s) room x
    (λ _. stop_sound (k ∷ s) room Unknown)
    (λ _ _. stop_sound (k ∷ s) room Cut)
    (λ _ _ _. stop_sound (k ∷ s) room Full)
    (λ _ l f. took_sound k s room w x l f)

pub sound : (T : List Row) → Lawful (one T)
unfolding one
sound T [] room = stop_sound [] room Done
sound T (k ∷ s) room = let r = row_in T k in choose_sound k s room r.width (bytes_of (r.reply (word r.width s)))

-- what the rest is does not matter where there is none
next_same : (r : ℕ) (o a b : Out) → ((r ≡ 0 → ⊥) → a ≡ b) → next r o a ≡ next r o b
next_same zero o a b h = refl
next_same (suc r) o a b h = ap (ahead o) (h (λ e. omega arith))

next_elim : (P : Out → Type 0) (k : ℕ) (o rest : Out) → (k ≡ 0 → P o) → ((k ≡ 0 → ⊥) → P (ahead o rest)) → P (next k o rest)
next_elim P zero o rest f g = f refl
next_elim P (suc k) o rest f g = g (λ e. omega arith)

-- a run reads within the requests, writes within the room, and counts what it writes
pub record Within (s : List ℕ) (room : ℕ) (o : Out) : Type 0 where
  pub read : o.tally.read ≤ length s
  pub fits : o.tally.written ≤ room
  pub counts : o.tally.written ≡ length o.bytes

-- the rest behind an item that was taken
abbrev pub onward_by : (List ℕ → ℕ → Out) → List ℕ → ℕ → Tally → Out
onward_by S s room t = run_by S (drop t.read s) (room - t.written)

abbrev pub onward : List Row → List ℕ → ℕ → Tally → Out
onward T = onward_by (one T)

-- ---- by any lawful step
module _ (S : List ℕ → ℕ → Out) (q : Lawful S) where
  -- more fuel changes nothing
  enough : (n m : ℕ) (s : List ℕ) (room : ℕ) → length s < n → length s < m → steps_by S n s room ≡ steps_by S m s room
  unfolding steps_by
  enough zero m s room h l = absurd (omega arith)
  enough (suc n) zero s room h l = absurd (omega arith)
  enough (suc n) (suc m) s room h l =
      next_same _ _ _ _ (λ g.
      let t = (S s room).tally in
      let w = (q s room).goes g in
      let d = length-drop t.read s in
      enough n m (drop t.read s) (room - t.written) (omega arith) (omega arith))

  -- the one equation of a run
  by_law : (s : List ℕ) (room : ℕ) → run_by S s room ≡ next (S s room).tally.records (S s room) (onward_by S s room (S s room).tally)
  unfolding run_by steps_by
  by_law s room =
      next_same _ _ _ _ (λ g.
      let t = (S s room).tally in
      let w = (q s room).goes g in
      let d = length-drop t.read s in
      enough (length s) (suc (length (drop t.read s))) (drop t.read s) (room - t.written) (omega arith) (omega arith))

  pub by_stop : (s : List ℕ) (room : ℕ) → (S s room).tally.records ≡ 0 → run_by S s room ≡ S s room
  by_stop s room e = by_law s room ∙ ap (λ (r : ℕ). next r (S s room) (onward_by S s room (S s room).tally)) e

  pub by_go : (s : List ℕ) (room : ℕ) → ((S s room).tally.records ≡ 0 → ⊥) → run_by S s room ≡ ahead (S s room) (onward_by S s room (S s room).tally)
  by_go s room h = by_law s room ∙ ap (λ (r : ℕ). next r (S s room) (onward_by S s room (S s room).tally)) ((q s room).goes h).0

  -- where it is known what the step does
  pub by_refused : (s : List ℕ) (room : ℕ) (c : Code) → S s room ≡ stop c → run_by S s room ≡ stop c
  by_refused s room c e = by_stop s room (ap (λ (o : Out). o.tally.records) e) ∙ e

  pub by_took : (s : List ℕ) (room w : ℕ) (x : List ℕ) → S s room ≡ took w x → run_by S s room ≡ ahead (took w x) (run_by S (drop (1 + w) s) (room - length x))
  by_took s room w x e =
      by_go s room (λ y. let z : ◌≡◌ {A = ℕ} 0 1 = sym y ∙ ap (λ (o : Out). o.tally.records) e in omega arith)
      ∙ ap (λ (o : Out). ahead o (onward_by S s room o.tally)) e

  steps_within : (n : ℕ) (s : List ℕ) (room : ℕ) → Within s room (steps_by S n s room)
  unfolding steps_by
  steps_within zero s room = record { read = omega arith; fits = omega arith; counts = refl }
  steps_within (suc n) s room =
      let o = S s room in
      let l = q s room in
      let rest = steps_by S n (drop o.tally.read s) (room - o.tally.written) in
      let r = steps_within n (drop o.tally.read s) (room - o.tally.written) in
      next_elim (Within s room) o.tally.records o rest
      (λ z. let e = ap (λ (t : Tally). t.read) (l.stops z).0 in record { read = omega arith; fits = l.fits; counts = l.counts })
      (λ z.
      let g = l.goes z in
      let d = length-drop o.tally.read s in
      let a = length-append o.bytes rest.bytes in
      record { read = omega (arith, r.read); fits = omega (arith, l.fits, r.fits); counts = omega (arith, l.counts, r.counts) })

  pub by_within : (s : List ℕ) (room : ℕ) → Within s room (run_by S s room)
  unfolding run_by
  by_within s room = steps_within (suc (length s)) s room

-- ---- by a table
pub run_stop : (T : List Row) (s : List ℕ) (room : ℕ) → (one T s room).tally.records ≡ 0 → run T s room ≡ one T s room
run_stop T = by_stop (one T) (sound T)

pub run_go : (T : List Row) (s : List ℕ) (room : ℕ) → ((one T s room).tally.records ≡ 0 → ⊥) → run T s room ≡ ahead (one T s room) (onward T s room (one T s room).tally)
run_go T = by_go (one T) (sound T)

pub run_within : (T : List Row) (s : List ℕ) (room : ℕ) → Within s room (run T s room)
run_within T = by_within (one T) (sound T)
