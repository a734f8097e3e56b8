-- What a loop over the turns keeps: the program over the events so far, and any later ones, is the program over the later ones from the
-- bytes that were carried over. Assumes nothing.
use mathlib.Core.Path.{◌≡◌, refl, sym, ap, ◌∙◌, subst}
use mathlib.Core.List.{List, [], ◌∷◌, ◌++◌, append_assoc}
use mathlib.Core.Logic.{inl, inr}
use Prim.Native.Nat.{ℕ, ◌+◌, ◌-◌, ◌^◌}
use native.Mathlib.Omega.{arith}
use lib.ListN.{length, take, length-append}
use Rattle.std.specs.Prelude.{Some, None}
use Rattle.decide.specs.declared.Next.{Next}
use Rattle.decide.specs.declared.Next.TheVariants.{Go, Close, Break}
use Rattle.decide.proofs.DecideLaws.{when_go}
use Rattle.session.specs.Session.{Event, returned, Turn, Program, turn_of, says, session, StopsOr, Stops, Fits}
use Rattle.session.specs.Post.{Passed, Took, Ran}

-- Where the loop stands, after so many turns and with the carried bytes in rest.
pub record Going (P : Program) (size turns : ℕ) (rest : List ℕ) : Type 0 where
  pub events : List Event
  pub used : length events ≡ turns
  pub stops : (later : List Event) → Stops P rest later → Stops P [] (events ++ later)
  pub fits : (later : List Event) → Fits P size rest later → Fits P size [] (events ++ later)
  pub code : (later : List Event) → (session P [] (events ++ later)).code ≡ (session P rest later).code

module _ (P : Program) (size : ℕ) where
  pub going_none : Going P size 0 []
  going_none = record { events = []; used = refl; stops = λ later h. h; fits = λ later h. h; code = λ later. refl }

  -- the turns are used up
  pub going_out : (turns : ℕ) (rest : List ℕ) → Going P size turns rest → 2 ^ 64 - 1 ≡ turns → Ran P size None
  unfolding session
  going_out turns rest g z =
      record {
        events = g.events ++ [];
        fits = g.fits [] tt;
        full = inr (length-append g.events [] ∙ omega (arith, g.used, z));
        code = sym (g.code []);
      }

  -- a turn after which the loop goes on: what is kept is what the turn left, and the code was no stop
  pub kept_is : (rest : List ℕ) (x : Next) (b : List ℕ) (p : Passed P size rest x b) (kept : ℕ) → x ≡ Go kept →
      (kept ≡ length (turn_of P rest p.event).left) × ((turn_of P rest p.event).code ≡ 1 → ⊥)
  kept_is rest x b p kept e =
      let t = turn_of P rest p.event in
      when_go (returned p.event.heard) t.code (length t.left) p.event.sent kept (sym p.next ∙ e)

  -- another turn, after which the buffer that carries is b
  module _ (turns : ℕ) (rest : List ℕ) (g : Going P size turns rest) (x : Next) (b : List ℕ) (p : Passed P size rest x b) where
    abbrev this : Turn
    this = turn_of P rest p.event

    -- the program from this turn on, by what comes next
    turn : (y : Next) → x ≡ y → (later : List Event) →
        (session P [] (g.events ++ (p.event ∷ later))).code ≡ (says P y this.bytes (session P this.left later)).code
    unfolding session
    turn y e later =
        g.code (p.event ∷ later) ∙ ap (λ (z : Next). (says P z this.bytes (session P this.left later)).code) (sym p.next ∙ e)

    inside : (later : List Event) → Fits P size this.left later → Fits P size [] (g.events ++ (p.event ∷ later))
    inside later f = g.fits (p.event ∷ later) (p.fits, f)

    stop : (y : Next) → x ≡ y → (later : List Event) → StopsOr y (Stops P this.left later) → Stops P [] (g.events ++ (p.event ∷ later))
    unfolding Stops
    stop y e later h = g.stops (p.event ∷ later) (subst (λ (z : Next). StopsOr z (Stops P this.left later)) (sym (sym p.next ∙ e)) h)

    pub going_close : (c : ℕ) → x ≡ Close c → Ran P size (Some c)
    going_close c e =
        record { events = g.events ++ (p.event ∷ []); fits = inside [] tt; full = inl (stop (Close c) e [] tt); code = sym (turn (Close c) e []) }

    pub going_break : x ≡ Break → Ran P size None
    going_break e =
        record { events = g.events ++ (p.event ∷ []); fits = inside [] tt; full = inl (stop Break e [] tt); code = sym (turn Break e []) }

    pub going_on : (kept : ℕ) → x ≡ Go kept → Going P size (turns + 1) (take kept b)
    going_on kept e =
        let carried : take kept b ≡ this.left = ap (λ (n : ℕ). take n b) (kept_is rest x b p kept e).0 ∙ p.carried in
        let so : (later : List Event) → (g.events ++ (p.event ∷ [])) ++ later ≡ g.events ++ (p.event ∷ later) =
        append_assoc g.events (p.event ∷ []) in
        subst (Going P size (turns + 1)) (sym carried) (record {
          events = g.events ++ (p.event ∷ []);
          used = omega (arith, length-append g.events (p.event ∷ []), g.used);
          stops = λ later f. subst (Stops P []) (sym (so later)) (stop (Go kept) e later f);
          fits = λ later f. subst (Fits P size []) (sym (so later)) (inside later f);
          code = λ later. ap (λ (y : List Event). (session P [] y).code) (so later) ∙ turn (Go kept) e later;
        })

-- A turn of a value that has turns, where the program and the room are those that the loop began with.
module _ (P Q : Program) (size room turns : ℕ) (rest later : List ℕ) (x : Next) (ep : Q ≡ P) (es : room ≡ size) (g : Going P size turns rest)
    (t : Took Q room rest x later) where
  same : Took P size rest x later
  same = subst (λ (y : Program). Took y size rest x later) ep (subst (λ (n : ℕ). Took Q n rest x later) es t)

  pub took_on : (kept : ℕ) → x ≡ Go kept → Going P size (turns + 1) later
  took_on kept e =
      subst (Going P size (turns + 1)) (sym (same.carried kept e)) (going_on P size turns rest g x same.buffer same.passed kept e)

  pub took_close : (code : ℕ) → x ≡ Close code → Ran P size (Some code)
  took_close = going_close P size turns rest g x same.buffer same.passed

  pub took_break : x ≡ Break → Ran P size None
  took_break = going_break P size turns rest g x same.buffer same.passed
