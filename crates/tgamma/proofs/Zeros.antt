-- The zero that tgamma answers at -184 and below, where x is no whole number: -0 where the whole part of x's size is even (`vanished_even`), +0 where it is
-- odd (`vanished_odd`). With q that whole part, floor(x) / 2 is -(q + 1) / 2 and floor(x / 2) is -(q / 2 + 1), both exactly. Assumes nothing.
use mathlib.Core.Path.{◌≡◌, refl, sym, ap, ◌∙◌, subst}
use Prim.Native.Nat.{ℕ, suc, ◌+◌, ◌*◌, ◌/◌, ◌%◌, ◌^◌, ◌<◌, ◌≤◌}
use native.Mathlib.Nat.{mul_comm, mul-one, mul_assoc, mul-pos, div-div-eq-div-mul, div-le_self, lt_of_le_of_lt, lt_of_lt_of_le, mul-lt-mul_of_pos_right}
use native.Mathlib.Omega.{arith}
use mathlib.Core.Bool.{true, false}
use lib.Arith.{mod-mul}
use lib.IntN.{ℤ, negsuc}
use lib.Dec.{T, eqb, lit<, lit≤}
use lib.Pow.{pow_pos}
use lib.Ieee.{Float, fin, binary64, low, prec, emax, up, down, round, mul, eq, fits, of_bits}
use lib.Ieee.Exact.{HasValue, round_exact}
use lib.Ieee.Fits.{down_pos}
use borrow.Author.Tests.{eq-eqb, ne_eqb}
use Rattle.rounding.proofs.Order.{eq_values}
use Rattle.rounding.proofs.Fraction.{mul_is}
use Rattle.rounding.proofs.Units.{mul_units}
use Rattle.rounding.proofs.Grid.{on_grid, spare}
use Rattle.rounding.proofs.Exact.{shrink_exact}
use Rattle.words.specs.Pick.{pick}
use Rattle.words.specs.F64.{bits}
use Rattle.floor.specs.Floor.{floor_s}
use Rattle.floor.proofs.FloorValues.{part_small, floor_part}
use Rattle.tgamma.specs.Tgamma.{vanished_s}

abbrev half+ : Float
half+ = fin false 1 (negsuc 0)

-- half of a whole number -n below 2 ^ 53 is exact
half_whole : (y : Float) (n : ℕ) → n < 2 ^ 53 → HasValue y true n 1 → HasValue (mul binary64 y half+) true n 2
half_whole y n h v =
    subst (λ (z : Float). HasValue z true n 2)
    (sym (mul_units binary64 y half+ true n 1 false 1 2 (pow_pos 0) (pow_pos 1) v (refl, refl) ∙ ap (λ (z : ℕ). round binary64 true z 2) (mul-one n)))
    (round_exact binary64 true n 2 n 1073 (pow_pos 1) h (small n h) (sym (mul_assoc n (2 ^ 1073) 2)))
  where
    small : (n : ℕ) → n < 2 ^ 53 → n * 2 ^ 1073 < 2 ^ (low binary64 + suc (emax binary64))
    small n h = lt_of_lt_of_le (mul-lt-mul_of_pos_right h (pow_pos 1073)) (lit≤ tt)

module _ (m : ℕ) (e : ℤ) (F : T (fits binary64 (fin true m e))) (one : down e ≤ m * up e) (broken : m * up e % down e ≡ 0 → ⊥) where
  -- x / 2 is exact
  half_x : HasValue (mul binary64 (fin true m e) half+) true (m * up e) (down e * 2)
  half_x =
      let g = on_grid binary64 true m e F in
      subst (λ (z : Float). HasValue z true (m * up e) (down e * 2))
      (sym (mul_is binary64 true m e false 1 (negsuc 0) ∙ ap (λ (z : ℕ). round binary64 true z (down e * 2)) (mul-one (m * up e))))
      (shrink_exact binary64 true m e g.0 1 g.1
      (room g.0 (spare binary64 m e g.0 0 g.1 (subst (λ (z : ℕ). down e ≤ z) (sym (mul-one (m * up e))) one))))
    where
      room : (j : ℕ) → low binary64 < prec binary64 + j + 0 → 1 ≤ j
      room j h = omega arith

  -- and no whole number either
  half_broken : m * up e % (down e * 2) ≡ 0 → ⊥
  half_broken z =
      broken (last (m * up e / down e % 2 * down e) (m * up e % down e)
      (sym (mod-mul (m * up e) (lit< tt) (down_pos e)) ∙ ap (λ (k : ℕ). m * up e % k) (mul_comm 2 (down e)) ∙ z))
    where
      last : (a b : ℕ) → a + b ≡ 0 → b ≡ 0
      last a b h = omega arith

  -- the test of vanished_s
  test_is : (q : ℕ) → m * up e / down e ≡ q
      → eq (mul binary64 (floor_s binary64 (fin true m e)) half+) (floor_s binary64 (mul binary64 (fin true m e) half+)) ≡ eqb (suc q * 1) (suc (q / 2) * 2)
  test_is q e' =
      let M = m * up e in
      let D = down e in
      let small : q < 2 ^ 52 = subst (λ (k : ℕ). k < 2 ^ 52) e' (part_small binary64 true m e F broken) in
      let part : M / (D * 2) ≡ q / 2 = sym (div-div-eq-div-mul M D 2) ∙ ap (λ (k : ℕ). k / 2) e' in
      let a = subst (λ (k : ℕ). HasValue (floor_s binary64 (fin true m e)) true (suc k) 1) e'
      (floor_part binary64 (fin true m e) true M D (down_pos e) (refl, refl) broken (wide (M / D) (part_small binary64 true m e F broken))) in
      let b = subst (λ (k : ℕ). HasValue (floor_s binary64 (mul binary64 (fin true m e) half+)) true (suc k) 1) part
      (floor_part binary64 (mul binary64 (fin true m e) half+) true M (D * 2) (mul-pos (down_pos e) (pow_pos 1)) half_x half_broken
      (subst (λ (k : ℕ). k < 2 ^ 53) (sym part) (wide (q / 2) (lt_of_le_of_lt (div-le_self q 2) small)))) in
      eq_values (mul binary64 (floor_s binary64 (fin true m e)) half+) (floor_s binary64 (mul binary64 (fin true m e) half+)) true
      (suc q) 2 (suc (q / 2)) 1 (pow_pos 1) (pow_pos 0) (half_whole (floor_s binary64 (fin true m e)) (suc q) (next q small) a) b
    where
      next : (q : ℕ) → q < 2 ^ 52 → suc q < 2 ^ 53
      next q h = omega arith

      wide : (q : ℕ) → q < 2 ^ 52 → q < 2 ^ 53
      wide q h = omega arith

  vanished_by : (q : ℕ) → m * up e / down e ≡ q → vanished_s (fin true m e) ≡ pick (eqb (suc q * 1) (suc (q / 2) * 2)) (bits 0) (bits 0x8000000000000000)
  unfolding vanished_s of_bits
  vanished_by q h = rw (test_is q h) refl

  -- an even whole part
  pub vanished_even : m * up e / down e % 2 ≡ 0 → vanished_s (fin true m e) ≡ bits 0x8000000000000000
  vanished_even h = go (m * up e / down e) (vanished_by (m * up e / down e) refl) h
    where
      go : (q : ℕ) → vanished_s (fin true m e) ≡ pick (eqb (suc q * 1) (suc (q / 2) * 2)) (bits 0) (bits 0x8000000000000000) → q % 2 ≡ 0
          → vanished_s (fin true m e) ≡ bits 0x8000000000000000
      go q k d = k ∙ rw (ne_eqb (suc q * 1) (suc (q / 2) * 2) (λ z. omega arith)) refl

  -- an odd whole part
  pub vanished_odd : m * up e / down e % 2 ≡ 1 → vanished_s (fin true m e) ≡ bits 0
  vanished_odd h = go (m * up e / down e) (vanished_by (m * up e / down e) refl) h
    where
      go : (q : ℕ) → vanished_s (fin true m e) ≡ pick (eqb (suc q * 1) (suc (q / 2) * 2)) (bits 0) (bits 0x8000000000000000) → q % 2 ≡ 1
          → vanished_s (fin true m e) ≡ bits 0
      go q k d = k ∙ rw (eq-eqb (suc q * 1) (suc (q / 2) * 2) (omega arith)) refl
