-- What the functions of `pow_log` give, over plain values. Assumes nothing.
use Prim.Native.Nat.{ℕ, ◌+◌, ◌-◌, ◌*◌, ◌/◌, ◌%◌, ◌^◌, ◌≤◌, ◌<◌}
use mathlib.Core.Path.{◌≡◌}
use native.Mathlib.Omega.{arith}
use lib.IntN.{ℤ, pos, ◌-ℤ◌}
use lib.Ieee.{Float, binary64, of_int}
use borrow.Author.Tests.{le-leb, lt-leb, lt-ltb, le-ltb}
use Rattle.words.specs.F64.{◌⊕◌, ◌⊖◌, ◌⊗◌, ◌⊘◌, bits}
use Rattle.words.specs.Bits.{with_high_word_s, with_low_word_s}
use Rattle.poly.specs.Horner.{horner_s}
use Rattle.pow_log.specs.declared.Parts.{Parts}
use Rattle.pow_log.specs.Log2.{L, CP, CP_H, CP_L, BP, DP_H, DP_L, series_s, interval_s, normal_s}
use Rattle.pow_log.proofs.Integers.{through, one_more}

pub series :
    (ax bp t_h dp_h dp_l t s_h hn r_h p_h t1 : Float) →
    (let u = ax ⊖ bp in
    let v = bits 0x3FF0000000000000 ⊘ (ax ⊕ bp) in
    let ss = u ⊗ v in
    let t_l = ax ⊖ (t_h ⊖ bp) in
    let s_l = v ⊗ ((u ⊖ s_h ⊗ t_h) ⊖ s_h ⊗ t_l) in
    let s2 = ss ⊗ ss in
    let r = s2 ⊗ s2 ⊗ hn ⊕ s_l ⊗ (s_h ⊕ ss) in
    let q2 = s_h ⊗ s_h in
    let r_l = r ⊖ ((r_h ⊖ bits 0x4008000000000000) ⊖ q2) in
    let uu = s_h ⊗ r_h in
    let vv = s_l ⊗ r_h ⊕ r_l ⊗ ss in
    let p_l = vv ⊖ (p_h ⊖ uu) in
    let z_h = CP_H ⊗ p_h in
    let z_l = CP_L ⊗ p_h ⊕ p_l ⊗ CP ⊕ dp_l in
    s_h ≡ with_low_word_s ss 0 → hn ≡ horner_s binary64 L s2 → r_h ≡ with_low_word_s (bits 0x4008000000000000 ⊕ q2 ⊕ r) 0 →
    p_h ≡ with_low_word_s (uu ⊕ vv) 0 → t1 ≡ with_low_word_s (((z_h ⊕ z_l) ⊕ dp_h) ⊕ t) 0 →
    ◌≡◌ {A = Parts} (record { t1 = t1; t2 = z_l ⊖ (((t1 ⊖ t) ⊖ dp_h) ⊖ z_h) }) (series_s ax bp t_h dp_h dp_l t))
unfolding series_s
series ax bp t_h dp_h dp_l t s_h hn r_h p_h t1 e1 e2 e3 e4 e5 = rw (e5, e4, e3, e2, e1)

module _ (ax : Float) (ix : ℕ) (n : ℤ) (a t_h : Float) (r : Parts) (is_a : a ≡ with_high_word_s ax ix) where
  pub interval_by : (k : ℕ)
      → t_h ≡ with_high_word_s (bits 0) (ix / 2 + 0x20080000 + k * 0x40000)
      → r ≡ series_s a (BP k) t_h (DP_H k) (DP_L k) (of_int binary64 n) → r ≡ interval_s ax ix k n
  unfolding interval_s
  interval_by k is_t q =
      let w : ix / 2 + 0x20080000 + k * 0x40000 ≡ ix / 2 + 0x20000000 + 0x00080000 + k * 2 ^ 18 = omega arith in
      rw (q, is_a, is_t, w)

module _ (ax : Float) (ix bias : ℕ) (n : ℤ) (r : Parts) where
  pub near_one : ix % 2 ^ 20 ≤ 0x3988E → n ≡ pos (ix / 2 ^ 20) -ℤ pos bias → r ≡ interval_s ax (ix % 2 ^ 20 + 0x3FF00000) 0 n → r ≡ normal_s ax ix (pos 0x3FF -ℤ pos bias)
  unfolding normal_s
  near_one h e q = simp (le-leb _ _ h, through (pos 0x3FF) (pos bias) (pos (ix / 2 ^ 20))) (rw (← e) q)

  pub near_three_halves : 0x3988E < ix % 2 ^ 20 → ix % 2 ^ 20 < 0xBB67A → n ≡ pos (ix / 2 ^ 20) -ℤ pos bias → r ≡ interval_s ax (ix % 2 ^ 20 + 0x3FF00000) 1 n → r ≡ normal_s ax ix (pos 0x3FF -ℤ pos bias)
  unfolding normal_s
  near_three_halves h k e q = simp (lt-leb _ _ h, lt-ltb _ _ k, through (pos 0x3FF) (pos bias) (pos (ix / 2 ^ 20))) (rw (← e) q)

  pub near_two : 0xBB67A ≤ ix % 2 ^ 20 → n ≡ pos (ix / 2 ^ 20 + 1) -ℤ pos bias → r ≡ interval_s ax (ix % 2 ^ 20 + 0x3FE00000) 0 n → r ≡ normal_s ax ix (pos 0x3FF -ℤ pos bias)
  unfolding normal_s
  near_two h e q =
      let w : ix % 2 ^ 20 + 0x3FE00000 ≡ ix % 2 ^ 20 + 0x3FF00000 - 0x00100000 = omega arith in
      simp (lt-leb (ix % 2 ^ 20) 0x3988E (omega arith), le-ltb _ _ h, through (pos 0x3FF) (pos bias) (pos (ix / 2 ^ 20)), one_more (ix / 2 ^ 20) (pos bias)) (rw (← e, ← w) q)
