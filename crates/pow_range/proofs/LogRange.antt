-- t1 lies from -8 to 8 and t2 from -1 to 1, for an x whose high word is from 0x40100000 to 0x4067C000: `log_range`. Assumes nothing.
use Prim.Native.Nat.{ℕ, ◌+◌, ◌-◌, ◌*◌, ◌/◌, ◌%◌, ◌≤◌, ◌<◌}
use mathlib.Core.Path.{◌≡◌, refl, sym, ap, ◌∙◌, subst}
use mathlib.Core.Bool.{Bool, true, false}
use native.Mathlib.Omega.{arith}
use native.Mathlib.Nat.{mod-lt}
use lib.IntN.{ℤ, pos}
use lib.Dec.{T, lit<, ltb, leb}
use lib.Ieee.{Float, binary64, le, neg, to_bits, of_int}
use lib.Ieee.Scale.{finite}
use borrow.Author.Tests.{leb-true, leb-false, ltb-true, ltb-false}
use Rattle.rounding.proofs.Range.{In}
use Rattle.words.specs.F64.{bits}
use Rattle.words.specs.Bits.{low_word_s, with_high_word_s}
use Rattle.words.proofs.PatternLaws.{high_alone}
use Rattle.pow_log.specs.declared.Parts.{Parts}
use Rattle.pow_log.specs.Log2.{BP, DP_H, DP_L, series_s, interval_s, log2_s}
use Rattle.pow_log.proofs.Laws.{interval_by}
use Rattle.pow_log.proofs.Courses.{log2_low, log2_middle, log2_high}
use Rattle.pow_log.proofs.SeriesExpr.{t1_e, t2_e, t1_is, t2_is}
use Rattle.pow_range.proofs.ProductSign.{one1, eight}
use Rattle.pow_range.proofs.LogCells.{at, cells, cells_range}
use Rattle.pow_range.proofs.LogTests.{number, Tests, tests}

-- what is wanted of t1 and t2
abbrev pub Small : Parts → Type 0
Small t = In (neg eight) eight t.t1 × In (neg one1) one1 t.t2

-- t_h, by its word
interval_is : (ax : Float) (ix k K : ℕ) (n : ℤ) → ix / 2 + 0x20080000 + k * 0x40000 ≡ ix / 2 + K
    → series_s (bits (ix * 0x100000000 + low_word_s ax)) (BP k) (at (ix / 2 + K)) (DP_H k) (DP_L k) (of_int binary64 n) ≡ interval_s ax ix k n
interval_is ax ix k K n e =
    interval_by ax ix n _ _ _ refl k (sym (high_alone (ix / 2 + K)) ∙ ap (λ (w : ℕ). with_high_word_s (bits 0) w) (sym e)) refl

-- from the tests of one k, on the words from w on
module _ (ax : Float) (k K : ℕ) (n : ℕ) (F : T (finite (number n))) (R : T (le (number n) (number n))) (ix : ℕ) (room : K ≤ 0x20100000)
    (word : ix / 2 + 0x20080000 + k * 0x40000 ≡ ix / 2 + K) (d c d' c' w : ℕ) (a : w ≤ ix) (b : ix < w + c * d) (b' : ix < w + c' * d')
    (m : w + c * d ≤ 0x40000000) (m' : w + c' * d' ≤ 0x40000000) where
  from_tests : T (cells (t1_e (BP k) (DP_H k) (DP_L k)) K (number n) (neg eight) eight d c w) → T (cells (t2_e (BP k) (DP_H k) (DP_L k)) K (number n) (neg one1) one1 d' c' w)
      → Small (interval_s ax ix k (pos n))
  from_tests p q =
      let x = bits (ix * 0x100000000 + low_word_s ax) in
      let th = at (ix / 2 + K) in
      let t = number n in
      let l : low_word_s ax < 0x100000000 = mod-lt (to_bits binary64 ax) (lit< tt) in
      subst Small (interval_is ax ix k K (pos n) word) (
        subst (In (neg eight) eight) (t1_is x (BP k) th (DP_H k) (DP_L k) t)
            (cells_range (t1_e (BP k) (DP_H k) (DP_L k)) K t (neg eight) eight d c w ix (low_word_s ax) p F R a b l m room),
        subst (In (neg one1) one1) (t2_is x (BP k) th (DP_H k) (DP_L k) t)
            (cells_range (t2_e (BP k) (DP_H k) (DP_L k)) K t (neg one1) one1 d' c' w ix (low_word_s ax) q F R a b' l m' room),
      )

module _ (ax : Float) (n : ℕ) (p : Tests n) (j : ℕ) where
  low_range : j ≤ 0x3988E → Small (interval_s ax (j + 0x3FF00000) 0 (pos n))
  low_range h = from_tests ax 0 0x20080000 n p.finite_n p.le_n (j + 0x3FF00000) (omega arith) (omega arith) 0xE624 4 0x996E 6 0x3FF00000 (omega arith) (omega arith) (omega arith) (omega arith) (omega arith) p.low1 p.low2

  middle_range : 0x3988E < j → j < 0xBB67A → Small (interval_s ax (j + 0x3FF00000) 1 (pos n))
  middle_range h k = from_tests ax 1 0x200C0000 n p.finite_n p.le_n (j + 0x3FF00000) (omega arith) (omega arith) 0xAD29 12 0x15A52 6 0x3FF3988F (omega arith) (omega arith) (omega arith) (omega arith) (omega arith) p.middle1 p.middle2

  high_range : 0xBB67A ≤ j → j < 0x100000 → Small (interval_s ax (j + 0x3FE00000) 0 (pos n))
  high_range h k = from_tests ax 0 0x20080000 n p.finite_n p.le_n (j + 0x3FE00000) (omega arith) (omega arith) 0x11262 4 0xB6EC 6 0x3FEBB67A (omega arith) (omega arith) (omega arith) (omega arith) (omega arith) p.high1 p.high2

-- by the interval of the digits j of the word
pub log_range : (ax : Float) (ix : ℕ) → 0x40100000 ≤ ix → ix ≤ 0x4067C000 → Small (log2_s ax ix)
log_range ax ix a b = go (leb j 0x3988E) refl (ltb j 0xBB67A) refl
  where
    n : ℕ
    n = ix / 0x100000 - 0x3FF

    j : ℕ
    j = ix % 0x100000

    go : (u : Bool) → leb j 0x3988E ≡ u → (v : Bool) → ltb j 0xBB67A ≡ v → Small (log2_s ax ix)
    go true e v f =
        let h = leb-true j 0x3988E e in
        rw (log2_low ax ix (omega arith) h) (low_range ax n (tests n (omega arith) (omega arith)) j h)
    go false e true f =
        let h = leb-false j 0x3988E e in
        let k = ltb-true j 0xBB67A f in
        rw (log2_middle ax ix (omega arith) h k) (middle_range ax n (tests n (omega arith) (omega arith)) j h k)
    go false e false f =
        let h = ltb-false j 0xBB67A f in
        rw (log2_high ax ix (omega arith) h) (high_range ax (n + 1) (tests (n + 1) (omega arith) (omega arith)) j h (mod-lt ix (lit< tt)))
