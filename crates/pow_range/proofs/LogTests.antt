-- t1 lies from -8 to 8 and t2 from -1 to 1, for an x from 4 to below 256: a computed test for each of the three intervals and each n from
-- 2 to 7, and `tests`, which takes them apart. Assumes nothing.
use Prim.Native.Nat.{ℕ, zero, suc, ◌+◌, ◌≤◌, ◌<◌}
use mathlib.Core.Path.{subst}
use mathlib.Core.Bool.{Bool, true, false, ◌&&◌}
use mathlib.Core.Logic.{inl, inr}
use native.Mathlib.Nat.{eq-or-lt_of_le}
use lib.Ieee.Fits.{and_l, and_r}
use native.Mathlib.Omega.{arith}
use lib.IntN.{pos}
use lib.Dec.{T}
use lib.Ieee.{Float, binary64, add, sub, mul, div, le, neg, fits, of_bits, to_bits, of_int}
use lib.Ieee.Scale.{finite}
use Rattle.rounding.proofs.Cut.{cut}
use Rattle.rounding.proofs.Range.{ieval}
use Rattle.pow_log.specs.Log2.{BP, DP_H, DP_L}
use Rattle.pow_range.proofs.ProductSign.{one1, eight}
use Rattle.poly.proofs.HornerExpr.{horner_e}
use Rattle.pow_log.proofs.SeriesExpr.{t1_e, t2_e}
use Rattle.pow_range.proofs.LogCells.{cells, both}

abbrev pub number : ℕ → Float
number n = of_int binary64 (pos n)

abbrev pub low_t1 : ℕ → Bool
low_t1 n = cells (t1_e (BP 0) (DP_H 0) (DP_L 0)) 0x20080000 (number n) (neg eight) eight 0xE624 4 0x3FF00000

abbrev pub low_t2 : ℕ → Bool
low_t2 n = cells (t2_e (BP 0) (DP_H 0) (DP_L 0)) 0x20080000 (number n) (neg one1) one1 0x996E 6 0x3FF00000

abbrev pub middle_t1 : ℕ → Bool
middle_t1 n = cells (t1_e (BP 1) (DP_H 1) (DP_L 1)) 0x200C0000 (number n) (neg eight) eight 0xAD29 12 0x3FF3988F

abbrev pub middle_t2 : ℕ → Bool
middle_t2 n = cells (t2_e (BP 1) (DP_H 1) (DP_L 1)) 0x200C0000 (number n) (neg one1) one1 0x15A52 6 0x3FF3988F

abbrev pub high_t1 : ℕ → Bool
high_t1 n = cells (t1_e (BP 0) (DP_H 0) (DP_L 0)) 0x20080000 (number n) (neg eight) eight 0x11262 4 0x3FEBB67A

abbrev pub high_t2 : ℕ → Bool
high_t2 n = cells (t2_e (BP 0) (DP_H 0) (DP_L 0)) 0x20080000 (number n) (neg one1) one1 0xB6EC 6 0x3FEBB67A

-- what is asked of n as a float
abbrev pub plain : ℕ → Bool
plain n = finite (number n) && le (number n) (number n)

-- a test passes at c numbers, from n on
unfoldable pub every : (ℕ → Bool) → ℕ → ℕ → Bool
every p zero n = true
every p (suc c) n = elim (p n) [ true ↦ every p c (suc n) | false ↦ false ]

every_at : (p : ℕ → Bool) (c n k : ℕ) → T (every p c n) → n ≤ k → k < n + c → T (p k)
unfolding every
every_at p zero n k h a b = absurd (omega arith)
every_at p (suc c) n k h a b =
    let t = both (p n) (every p c (suc n)) h in
    elim (eq-or-lt_of_le a) [ inl q ↦ subst (λ (z : ℕ). T (p z)) q t.0 | inr l ↦ every_at p c (suc n) k t.1 l (omega arith) ]

plains : T (every plain 6 2)
unfolding every le of_int
plains = tt

low_t1s : T (every low_t1 6 2)
unfolding every cells ieval horner_e cut add sub mul div le neg fits of_bits to_bits of_int
low_t1s = tt

low_t2s : T (every low_t2 6 2)
unfolding every cells ieval horner_e cut add sub mul div le neg fits of_bits to_bits of_int
low_t2s = tt

middle_t1s : T (every middle_t1 6 2)
unfolding every cells ieval horner_e cut add sub mul div le neg fits of_bits to_bits of_int
middle_t1s = tt

middle_t2s : T (every middle_t2 6 2)
unfolding every cells ieval horner_e cut add sub mul div le neg fits of_bits to_bits of_int
middle_t2s = tt

high_t1s : T (every high_t1 6 2)
unfolding every cells ieval horner_e cut add sub mul div le neg fits of_bits to_bits of_int
high_t1s = tt

high_t2s : T (every high_t2 6 2)
unfolding every cells ieval horner_e cut add sub mul div le neg fits of_bits to_bits of_int
high_t2s = tt

-- the tests of one n
pub record Tests (n : ℕ) : Type 0 where
  pub finite_n : T (finite (number n))
  pub le_n : T (le (number n) (number n))
  pub low1 : T (low_t1 n)
  pub low2 : T (low_t2 n)
  pub middle1 : T (middle_t1 n)
  pub middle2 : T (middle_t2 n)
  pub high1 : T (high_t1 n)
  pub high2 : T (high_t2 n)

pub tests : (n : ℕ) → 2 ≤ n → n < 8 → Tests n
tests n a b =
    let p = every_at plain 6 2 n plains a b in
    record {
      finite_n = and_l (finite (number n)) (le (number n) (number n)) p;
      le_n = and_r (finite (number n)) (le (number n) (number n)) p;
      low1 = every_at low_t1 6 2 n low_t1s a b;
      low2 = every_at low_t2 6 2 n low_t2s a b;
      middle1 = every_at middle_t1 6 2 n middle_t1s a b;
      middle2 = every_at middle_t2 6 2 n middle_t2s a b;
      high1 = every_at high_t1 6 2 n high_t1s a b;
      high2 = every_at high_t2 6 2 n high_t2s a b;
    }
