-- What comes after a turn, from the tests as the code makes them. Assumes nothing.
use mathlib.Core.Path.{◌≡◌, refl, sym, ap, ◌∙◌}
use mathlib.Core.Bool.{Bool, true, false}
use Prim.Native.Nat.{ℕ, ◌<◌}
use native.Mathlib.Omega.{arith}
use Rattle.std.specs.Prelude.{Option, None, Some}
use Rattle.decide.specs.Decide.{after_s}
use Rattle.decide.specs.declared.Next.TheVariants.{Go, Close, Break}
use Rattle.decide.proofs.DecideLaws.{at_unknown, at_end, at_more}

apart : {X : Type 0} → true ≡ false → X
apart e = let z : ◌≡◌ {A = ℕ} 0 1 = cc in absurd (omega arith)

module _ (code kept : ℕ) where
  pub write_failed : (got : Option ℕ) (sent : Bool) → sent ≡ false → Break ≡ after_s got code kept sent
  unfolding after_s
  write_failed None sent e = refl
  write_failed (Some n) false e = refl
  write_failed (Some n) true e = apart e

  pub unknown : (got : Option ℕ) (sent : Bool) → (got ≡ None → ⊥) → sent ≡ true → code ≡ 1 → Close 1 ≡ after_s got code kept sent
  unknown None sent g s h = absurd (g refl)
  unknown (Some n) true g s h = ap Close (sym h) ∙ sym (at_unknown n code kept h)
  unknown (Some n) false g s h = apart (sym s)

  pub ended : (got : Option ℕ) (sent : Bool) → got ≡ Some 0 → sent ≡ true → (code ≡ 1 → ⊥) → Close code ≡ after_s got code kept sent
  ended got sent z s h = rw (z, s) (sym (at_end code kept))

  pub goes_on : (got : Option ℕ) (sent : Bool) → (got ≡ None → ⊥) → sent ≡ true → (code ≡ 1 → ⊥) → (got ≡ Some 0 → ⊥) →
      Go kept ≡ after_s got code kept sent
  goes_on None sent g s h z = absurd (g refl)
  goes_on (Some n) true g s h z =
      let q : n ≡ 0 → ⊥ = λ e. z (ap Some e) in
      sym (at_more n code kept h (omega (arith, q)))
  goes_on (Some n) false g s h z = apart (sym s)
