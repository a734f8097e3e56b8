-- A turn: what the read brought stands behind the bytes that were carried over, and it was the end of the input where it brought none. Assumes
-- nothing.
use mathlib.Core.Path.{◌≡◌, sym, ap, ◌∙◌, subst}
use mathlib.Core.Bool.{Bool}
use mathlib.Core.List.{List, ◌++◌}
use Prim.Native.Nat.{ℕ, ◌+◌, ◌≤◌}
use native.Mathlib.Omega.{arith}
use lib.ListN.{length, take}
use Rattle.std.specs.Prelude.{Option, unwrap_or}
use Rattle.session.specs.Moved.{Moved}
use Rattle.replies.specs.Table.{table}
use Rattle.decide.specs.Decide.{after_s, at_end_s}
use Rattle.decide.specs.declared.Next.{Next}
use Rattle.decide.specs.declared.Next.TheVariants.{Go}
use Rattle.session.specs.Session.{returned, piece}
use Rattle.session.specs.Post.{Passed}
use Rattle.session.proofs.ReadLaws.{heard_of, returned_is, full, part, behind, behind_passed}
use Rattle.session.proofs.LoopLaws.{kept_is}
use Rattle.text.specs.Typing.{KEPT, turn_on, typing}
use Rattle.text.proofs.TypingLaws.{code_zero, carries_little}
use Rattle.console.specs.Post.{Turned}
use Rattle.console.specs.declared.relay.Round.{Round}

-- n bytes were read, and the turn was over those and the first `have`
module _ (have n : ℕ) (first ys b : List ℕ) (got : Option ℕ) (ended : Bool) (r : Round) (x : Next) where
  pub turn_passed : have ≤ length first → length ys ≡ length (part have first) → Moved (length ys) got → n ≡ unwrap_or got 0 → ended ≡ at_end_s got →
      Turned (turn_on table ended (take (have + n) (full have first ys))) r b → x ≡ after_s got 0 r.kept r.sent →
      Passed (typing table) (length first) (take have first) x b
  turn_passed h same m en ee t ex =
      let rest = take have first in
      let g = heard_of got ys in
      let e : ended ≡ at_end_s (returned g) = ee ∙ ap at_end_s (sym (returned_is got ys m)) in
      let s : take (have + n) (full have first ys) ≡ rest ++ piece g =
      ap (λ (k : ℕ). take (have + k) (full have first ys)) en ∙ behind have first ys got h same m in
      let u : Turned (turn_on table (at_end_s (returned g)) (rest ++ piece g)) r b =
      subst (λ (y : List ℕ). Turned (turn_on table (at_end_s (returned g)) y) r b) s
      (subst (λ (y : Bool). Turned (turn_on table y (take (have + n) (full have first ys))) r b) e t) in
      behind_passed have first ys got h same m (typing table) x b 0 r.kept r.sent
      (sym (code_zero table (at_end_s (returned g)) (rest ++ piece g))) u.kept u.rest ex

-- what is carried over is at most 26 bytes
pub kept_small : (size : ℕ) (rest : List ℕ) (x : Next) (b : List ℕ) → Passed (typing table) size rest x b → (kept : ℕ) → x ≡ Go kept → kept ≤ KEPT
kept_small size rest x b p kept e =
    let k = kept_is (typing table) size rest x b p kept e in
    omega (arith, k.0, carries_little table rest p.event.heard)
