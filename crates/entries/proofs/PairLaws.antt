-- What `rvt_erf_erfc` leaves: a pair is written whole, so that nothing is left of what stood in it. Assumes nothing.
use mathlib.Core.Path.{◌≡◌, refl}
use mathlib.Core.List.{List}
use Prim.Native.Nat.{ℕ}
use borrow.Author.Tests.{eq-eqb}
use lib.ListN.{length}
use lib.Seq.{sets}
use lib.Ieee.{binary64}
use Rattle.erf.specs.Erf64.{erf_s, erfc_s}
use Rattle.by_bits.specs.ByBits.{on_bits}
use Rattle.digits.specs.Digits.{digits}
use Rattle.entries.specs.Pair.{pair_of, pair_s, Given}
use Rattle.entries.proofs.NumberLaws.{first, further, filled}

module _ (x : ℕ) (pair : List ℕ) where
  pub pair_given : (n erf erfc : ℕ) (b₁ b₂ : List ℕ) → length pair ≡ 16 → n ≡ 0 → erf ≡ on_bits binary64 erf_s x → erfc ≡ on_bits binary64 erfc_s x →
      b₁ ≡ sets pair 0 (digits 8 erf) → b₂ ≡ sets b₁ 8 (digits 8 erfc) → Given (pair_s x pair) n b₂
  unfolding pair_of
  pair_given n erf erfc b₁ b₂ h k e f p q =
      rw (eq-eqb (length pair) 16 h, ← e, ← f) (record { code = k; bytes = filled pair b₂ _ 16 h (further pair b₁ b₂ _ 8 erfc (first pair b₁ erf p) q) })
