-- What any program says over its events, turn by turn. Assumes nothing.
--     end_came, stop_came, more_came    a turn over an input that comes in pieces, where nothing fails
--     breaks_by_failure  no code tells of a failure, or of 2 ^ 64 - 1 turns
--     ends_whole         a code tells that the input ended, and that nothing failed before
--     coded, ended       what holds of the code of every turn, and of none, holds of what the program gives back
--     front_of, front_end    a turn, and a front of what the later turns should say, are a front of what should be said
use mathlib.Core.Path.{◌≡◌, refl, sym, ap, ◌∙◌, subst}
use mathlib.Core.Bool.{Bool, true, false}
use mathlib.Core.List.{List, [], ◌∷◌, ◌++◌, append_assoc, append-nil}
use mathlib.Core.Logic.{◌⊎◌, inl, inr, ⊎_elim}
use Prim.Native.Nat.{ℕ, ◌+◌, ◌-◌, ◌^◌, ◌≤◌, ◌<◌}
use native.Mathlib.Omega.{arith}
use borrow.Author.Tests.{eqb-true, eqb-false}
use lib.Dec.{eqb}
use lib.ListN.{length}
use Rattle.std.specs.Prelude.{Option, Some, None}
use Rattle.std.proofs.lemmas.Option.{none-some}
use Rattle.decide.specs.Decide.{after_s}
use Rattle.decide.specs.declared.Next.{Next}
use Rattle.decide.specs.declared.Next.TheVariants.{Go, Close, Break}
use Rattle.decide.proofs.DecideLaws.{at_unknown, at_end, at_more, not_broken, when_close, end_elim}
use Rattle.session.specs.Session.{Heard, brought, failed, returned, piece, Event, Turn, Program, turn_of, next_of, Said, says, session, StopsOr, Stops, came, delivered, NoneEmpty, FailsIn, Failing, Fits}
use Rattle.session.specs.Post.{Ran, Served}

-- a code is not none
pub some_none : (k : ℕ) → Some k ≡ None → ⊥
some_none k e = none-some k (sym e)

pub one_or : (k : ℕ) → (k ≡ 1) ⊎ (k ≡ 1 → ⊥)
one_or k = tested (eqb k 1) refl
  where
    tested : (b : Bool) → eqb k 1 ≡ b → (k ≡ 1) ⊎ (k ≡ 1 → ⊥)
    tested true e = inl (eqb-true k 1 e)
    tested false e = inr (eqb-false k 1 e)

-- the bytes that the reads brought
abbrev pub input : List Event → List ℕ
input [] = []
input (e ∷ es) = piece e.heard ++ input es

-- where the program breaks off, what it sent is a front of `all`
abbrev pub Front : List ℕ → Said → Type 0
Front all said = said.code ≡ None → (tail : List ℕ) × (all ≡ said.bytes ++ tail)

module _ (P : Program) where
  -- the last turn: its bytes and what closes the output
  abbrev pub last : Turn → Said
  last t = record { bytes = t.bytes ++ P.closing t.code; code = Some t.code }

  pub end_came : (rest : List ℕ) (es : List Event) → session P rest (came [] ∷ es) ≡ last (P.turn rest (brought []))
  unfolding session
  end_came rest es =
      let t = P.turn rest (brought []) in
      ap (λ (x : Next). says P x t.bytes (session P t.left es)) (at_end t.code (length t.left))

  module _ (rest p : List ℕ) (es : List Event) where
    abbrev first : Turn
    first = P.turn rest (brought p)

    abbrev later : Said
    later = session P first.left es

    pub stop_came : first.code ≡ 1 → session P rest (came p ∷ es) ≡ last first
    unfolding session
    stop_came u = ap (λ (x : Next). says P x first.bytes later) (at_unknown (length p) first.code (length first.left) u)

    pub more_came : (first.code ≡ 1 → ⊥) → 0 < length p →
        session P rest (came p ∷ es) ≡ record { bytes = first.bytes ++ later.bytes; code = later.code }
    unfolding session
    more_came u l = ap (λ (x : Next). says P x first.bytes later) (at_more (length p) first.code (length first.left) u l)

  -- The program says no code only where something failed: as long as it was not told to stop it would go on.
  by_failure : (rest : List ℕ) (es : List Event) → Stops P rest es → (session P rest es).code ≡ None → Failing es
  unfolding session Stops
  by_failure rest [] s z = absurd s
  by_failure rest (e ∷ es) s z = by-heard (λ rest s z. by_failure rest es s z) e.heard e.sent s z
    where
      by-heard : ((rest : List ℕ) → Stops P rest es → (session P rest es).code ≡ None → Failing es) → (h : Heard) (sent : Bool) →
          let x = next_of P rest (record { heard = h; sent = sent }) in
          let t = P.turn rest h in
          StopsOr x (Stops P t.left es) → (says P x t.bytes (session P t.left es)).code ≡ None → FailsIn h sent ⊎ Failing es
      by-heard later failed sent s z = inl tt
      by-heard later (brought p) false s z = inl tt
      by-heard later (brought p) true s z =
          let t = P.turn rest (brought p) in
          let said = session P t.left es in
          ⊎_elim (λ c. absurd (some_none t.code (ap (λ (x : Next). (says P x t.bytes said).code) (sym c) ∙ z)))
          (λ g.
          inr (later t.left (subst (λ (x : Next). StopsOr x (Stops P t.left es)) g s) (ap (λ (x : Next). (says P x t.bytes said).code) (sym g) ∙ z)))
          (not_broken (length p) t.code (length t.left))

  pub breaks_by_failure : (size : ℕ) (r : Ran P size None) → Failing r.events ⊎ (length r.events ≡ 2 ^ 64 - 1)
  breaks_by_failure size r = ⊎_elim (λ s. inl (by_failure [] r.events s (sym r.code))) (λ n. inr n) r.full

  -- Where no turn has code 1, it says a code only where the input came in pieces and ended, and nothing failed before.
  pub ends_whole : ((rest : List ℕ) (h : Heard) → (P.turn rest h).code ≡ 1 → ⊥) → (rest : List ℕ) (es : List Event) → ((session P rest es).code ≡ None → ⊥) →
      (ps : List (List ℕ)) × ((more : List Event) × (NoneEmpty ps × (es ≡ delivered ps ++ more)))
  unfolding session after_s
  ends_whole each rest [] z = absurd (z refl)
  ends_whole each rest (e ∷ es) z = by-heard (λ rest z. ends_whole each rest es z) e.heard e.sent z
    where
      by-heard : ((rest : List ℕ) → ((session P rest es).code ≡ None → ⊥) → (ps : List (List ℕ)) × ((more : List Event) × (NoneEmpty ps × (es ≡ delivered ps ++ more)))) →
          (h : Heard) (sent : Bool) →
          ((says P (next_of P rest (record { heard = h; sent = sent })) (P.turn rest h).bytes (session P (P.turn rest h).left es)).code ≡ None → ⊥) →
          (ps : List (List ℕ)) × ((more : List Event) × (NoneEmpty ps × (record { heard = h; sent = sent } ∷ es ≡ delivered ps ++ more)))
      by-heard later failed sent z = absurd (z refl)
      by-heard later (brought p) false z = absurd (z refl)
      by-heard later (brought []) true z = ([], (es, (tt, refl)))
      by-heard later (brought (c ∷ p)) true z =
          let t = P.turn rest (brought (c ∷ p)) in
          let g = at_more (length (c ∷ p)) t.code (length t.left) (each rest (brought (c ∷ p))) (omega arith) in
          let w = later t.left (λ y. z (ap (λ (x : Next). (says P x t.bytes (session P t.left es)).code) g ∙ y)) in
          ((c ∷ p) ∷ w.0, (w.1.0, ((omega arith, w.1.1.0), ap (λ (x : List Event). came (c ∷ p) ∷ x) w.1.1.1)))

  -- where it closes, it is with the turn's code
  close_code : (rest : List ℕ) (e : Event) (c : ℕ) → next_of P rest e ≡ Close c → c ≡ (turn_of P rest e).code
  close_code rest e c = when_close (returned e.heard) (turn_of P rest e).code (length (turn_of P rest e).left) e.sent c

  said_front : (x : Next) (b all follows : List ℕ) (later : Said) → all ≡ b ++ follows →
      Front follows later → Front all (says P x b later)
  said_front (Go k) b all follows later e f z =
      let t = f z in
      (t.0, e ∙ ap (λ (x : List ℕ). b ++ x) t.1 ∙ sym (append_assoc b later.bytes t.0))
  said_front (Close c) b all follows later e f z = absurd (some_none c z)
  said_front Break b all follows later e f z = (follows, e)

  -- at the end of the input nothing comes behind the turn
  pub front_end : (rest : List ℕ) (sent : Bool) (es : List Event) (all : List ℕ) → all ≡ (P.turn rest (brought [])).bytes → Front all (session P rest (record { heard = brought []; sent = sent } ∷ es))
  unfolding session after_s
  front_end rest true es all e z =
      let t = P.turn rest (brought []) in
      absurd (some_none t.code (ap (λ (x : Next). (says P x t.bytes (session P t.left es)).code) (sym (at_end t.code (length t.left))) ∙ z))
  front_end rest false es all e z = ([], e ∙ sym (append-nil (P.turn rest (brought [])).bytes))

  pub front_of : (rest : List ℕ) (e : Event) (es : List Event) (all follows : List ℕ) → all ≡ (turn_of P rest e).bytes ++ follows → Front follows (session P (turn_of P rest e).left es) → Front all (session P rest (e ∷ es))
  unfolding session
  front_of rest e es all follows =
      said_front (next_of P rest e) (turn_of P rest e).bytes all follows (session P (turn_of P rest e).left es)

  -- what holds of the code of every turn that fits, and of none
  module _ (size : ℕ) (Q : Option ℕ → Type 0) (none : Q None)
      (each : (rest : List ℕ) (e : Event) → length rest + length (piece e.heard) ≤ size → Q (Some (turn_of P rest e).code)) where
    said_code : (x : Next) (b : List ℕ) (later : Said) → ((c : ℕ) → x ≡ Close c → Q (Some c)) → Q later.code → Q (says P x b later).code
    said_code (Go k) b later h q = q
    said_code (Close c) b later h q = h c refl
    said_code Break b later h q = none

    pub coded : (rest : List ℕ) (es : List Event) → Fits P size rest es → Q (session P rest es).code
    unfolding session
    coded rest [] f = none
    coded rest (e ∷ es) f =
        let t = turn_of P rest e in
        said_code (next_of P rest e) t.bytes (session P t.left es)
        (λ c q. subst (λ (k : ℕ). Q (Some k)) (sym (close_code rest e c q)) (each rest e f.0))
        (coded t.left es f.1)

    pub ended : (r : Option ℕ) → Served P size r → Q r
    ended r s = subst Q (sym s.result) (end_elim Q (session P [] s.events).code s.closed (coded [] s.events s.fits) none)
