-- Laws of the decisions. Assumes nothing.
use mathlib.Core.Path.{◌≡◌, refl, ap, ◌∙◌}
use mathlib.Core.Bool.{Bool, true, false}
use mathlib.Core.Logic.{◌⊎◌, inl, inr}
use Prim.Native.Nat.{ℕ, ◌<◌}
use native.Mathlib.Omega.{arith}
use borrow.Author.Tests.{eq-eqb, ne_eqb, eqb-true, eqb-false}
use lib.Dec.{eqb}
use Rattle.std.specs.Prelude.{Option, None, Some}
use Rattle.words.specs.Pick.{pick}
use Rattle.decide.specs.Decide.{after_s, end_s}
use Rattle.decide.specs.declared.Next.TheVariants.{Go, Close}

-- where nothing fails: at an unknown kind, at the end of the input, and else
pub at_unknown : (n code kept : ℕ) → code ≡ 1 → after_s (Some n) code kept true ≡ Close code
unfolding after_s
at_unknown n code kept e = rw (eq-eqb code 1 e)

pub at_end : (code kept : ℕ) → after_s (Some 0) code kept true ≡ Close code
unfolding after_s
at_end code kept = tested (eqb code 1) refl
  where
    tested : (b : Bool) → eqb code 1 ≡ b → pick b (Close code) (Close code) ≡ Close code
    tested true e = refl
    tested false e = refl

pub at_more : (n code kept : ℕ) → (code ≡ 1 → ⊥) → 0 < n → after_s (Some n) code kept true ≡ Go kept
unfolding after_s
at_more n code kept e h = rw (ne_eqb code 1 e, ne_eqb n 0 (let q : n ≡ 0 → ⊥ = λ z. omega arith in q))

-- where nothing failed, the program closes with the turn's code or goes on with what it left
pub not_broken : (n code kept : ℕ) → (after_s (Some n) code kept true ≡ Close code) ⊎ (after_s (Some n) code kept true ≡ Go kept)
not_broken n code kept = tested (eqb code 1) (eqb n 0) refl refl
  where
    tested : (s t : Bool) → eqb code 1 ≡ s → eqb n 0 ≡ t → (after_s (Some n) code kept true ≡ Close code) ⊎ (after_s (Some n) code kept true ≡ Go kept)
    tested true t e f = inl (at_unknown n code kept (eqb-true code 1 e))
    tested false true e f = inl (ap (λ (m : ℕ). after_s (Some m) code kept true) (eqb-true n 0 f) ∙ at_end code kept)
    tested false false e f = inr (at_more n code kept (eqb-false code 1 e) (let q = eqb-false n 0 f in omega (arith, q)))

-- where the program goes on, it keeps what the batch left, which did not stop at an unknown kind
pub when_go : (got : Option ℕ) (code kept : ℕ) (sent : Bool) (k : ℕ) → after_s got code kept sent ≡ Go k → (k ≡ kept) × (code ≡ 1 → ⊥)
unfolding after_s
when_go None code kept sent k e = let z : ◌≡◌ {A = ℕ} 0 1 = cc in absurd (omega arith)
when_go (Some n) code kept false k e = let z : ◌≡◌ {A = ℕ} 0 1 = cc in absurd (omega arith)
when_go (Some n) code kept true k e = tested (eqb code 1) (eqb n 0) refl e
  where
    tested : (u z : Bool) → eqb code 1 ≡ u → pick u (Close code) (pick z (Close code) (Go kept)) ≡ Go k → (k ≡ kept) × (code ≡ 1 → ⊥)
    tested true z q e = let y : ◌≡◌ {A = ℕ} 0 1 = cc in absurd (omega arith)
    tested false true q e = let y : ◌≡◌ {A = ℕ} 0 1 = cc in absurd (omega arith)
    tested false false q e = (cc, eqb-false code 1 q)

-- where it closes, it is with the batch's code
pub when_close : (got : Option ℕ) (code kept : ℕ) (sent : Bool) (c : ℕ) → after_s got code kept sent ≡ Close c → c ≡ code
unfolding after_s
when_close None code kept sent c e = let z : ◌≡◌ {A = ℕ} 0 1 = cc in absurd (omega arith)
when_close (Some n) code kept false c e = let z : ◌≡◌ {A = ℕ} 0 1 = cc in absurd (omega arith)
when_close (Some n) code kept true c e = tested (eqb code 1) (eqb n 0) refl e
  where
    tested : (u z : Bool) → eqb code 1 ≡ u → pick u (Close code) (pick z (Close code) (Go kept)) ≡ Close c → c ≡ code
    tested true z q e = cc
    tested false true q e = cc
    tested false false q e = let y : ◌≡◌ {A = ℕ} 0 1 = cc in absurd (omega arith)

-- the program gives back the code, or none
pub end_elim : (P : Option ℕ → Type 0) (code : Option ℕ) (sent : Bool) → P code → P None → P (end_s code sent)
end_elim P code true a b = a
end_elim P code false a b = b
