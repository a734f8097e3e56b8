-- log2 of an ax from 1 on, by its high word ix: the exponent is n, and j are the digits of the word. `log2_low`: up to 0x3988E the interval at 1;
-- `log2_middle`: below 0xBB67A that at 1.5; `log2_high`: from there on that at 1 again, of half of ax. Assumes nothing.
use Prim.Native.Nat.{ℕ, ◌+◌, ◌-◌, ◌/◌, ◌%◌, ◌^◌, ◌≤◌, ◌<◌}
use mathlib.Core.Path.{◌≡◌, refl, sym, ◌∙◌}
use native.Mathlib.Omega.{arith}
use lib.IntN.{pos, ◌-ℤ◌}
use lib.Ieee.{Float}
use borrow.Author.Tests.{le-ltb}
use Rattle.pow_log.specs.Log2.{interval_s, normal_s, log2_s}
use Rattle.pow_log.proofs.Laws.{near_one, near_three_halves, near_two}

-- the exponent of a field from that of 1 on
unbiased : (e : ℕ) → 0x3FF ≤ e → pos (e - 0x3FF) ≡ pos e -ℤ pos 0x3FF
unbiased e h = simp (le-ltb e 0x3FF h)

module _ (ax : Float) (ix : ℕ) (from1 : 0x3FF00000 ≤ ix) where
  abbrev n : ℕ
  n = ix / 2 ^ 20 - 0x3FF

  abbrev j : ℕ
  j = ix % 2 ^ 20

  normal : log2_s ax ix ≡ normal_s ax ix (pos 0)
  unfolding log2_s
  normal = simp (le-ltb ix 0x00100000 (omega arith))

  exponent : pos n ≡ pos (ix / 2 ^ 20) -ℤ pos 0x3FF
  exponent = unbiased (ix / 2 ^ 20) (omega arith)

  pub log2_low : j ≤ 0x3988E → log2_s ax ix ≡ interval_s ax (j + 0x3FF00000) 0 (pos n)
  log2_low h = normal ∙ sym (near_one ax ix 0x3FF (pos n) _ h exponent refl)

  pub log2_middle : 0x3988E < j → j < 0xBB67A → log2_s ax ix ≡ interval_s ax (j + 0x3FF00000) 1 (pos n)
  log2_middle h k = normal ∙ sym (near_three_halves ax ix 0x3FF (pos n) _ h k exponent refl)

  pub log2_high : 0xBB67A ≤ j → log2_s ax ix ≡ interval_s ax (j + 0x3FE00000) 0 (pos (n + 1))
  log2_high h = normal ∙ sym (near_two ax ix 0x3FF (pos (n + 1)) _ h next refl)
    where
      more : n + 1 ≡ ix / 2 ^ 20 + 1 - 0x3FF
      more = omega arith

      next : pos (n + 1) ≡ pos (ix / 2 ^ 20 + 1) -ℤ pos 0x3FF
      next = rw more (unbiased (ix / 2 ^ 20 + 1) (omega arith))
