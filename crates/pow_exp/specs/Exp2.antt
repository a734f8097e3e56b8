-- The second half of the Rust's pow.rs: 2 to the power of y times log2 of |x|, with the sign s, in rounded operations of f64. product_s is what
-- `product` promises; the others serve it, and are what the private functions of their names promise. To read them in the Rust's order, from
-- product_s at the end up: product_s, bounded_s, large_s, small_s, exp2_s, fraction_s, scaled_s.
-- j and i are the words of z, natural numbers below 2 ^ 32; an i32 is negative where its word is 2 ^ 31 or more.
use Rattle.std.specs.Prelude.{ℕ, suc, ◌+◌, ◌-◌, ◌*◌, ◌/◌, ◌%◌, ◌^◌, not, ◌&&◌, ◌||◌, List, [], ◌∷◌, ℤ, pos, negsuc, neg_ℤ, Float, if◌then◌else◌}
use Rattle.std.specs.Float.{binary64}
use Rattle.words.specs.Tests.{◌<?◌, ◌>?◌, ◌≥?◌, ◌=?◌, ◌>·◌, ◌≤·◌}
use Rattle.words.specs.F64.{◌⊕◌, ◌⊖◌, ◌⊗◌, ◌⊘◌, bits, 0·0, 1·0, 2·0}
use Rattle.words.specs.Bits.{high_word_s, low_word_s, with_high_word_s, with_low_word_s}
use Rattle.poly.specs.Horner.{horner_s}
use Rattle.scalbn.specs.Scalbn.{scalbn_s}
use Rattle.pow_log.specs.declared.Parts.{Parts}

abbrev pub HUGE : Float
HUGE = bits 0x7E37E43C8800759C  -- HUGE 1.0e300

abbrev pub TINY : Float
TINY = bits 0x01A56E1FC2F8F359  -- TINY 1.0e-300

-- P1 to P5
abbrev pub P : List Float
P =
    bits 0x3FC555555555553E ∷  -- P1 1.66666666666666019037e-01
    bits 0xBF66C16C16BEBD93 ∷  -- P2 -2.77777777770155933842e-03
    bits 0x3F11566AAF25DE2C ∷  -- P3 6.61375632143793436117e-05
    bits 0xBEBBBD41C5D26BF1 ∷  -- P4 -1.65339022054652515390e-06
    bits 0x3E66376972BEA4D0 ∷  -- P5 4.13813679705723846039e-08
    []

abbrev pub LG2 : Float
LG2 = bits 0x3FE62E42FEFA39EF  -- LG2 6.93147180559945286227e-01

abbrev pub LG2_H : Float
LG2_H = bits 0x3FE62E4300000000  -- LG2_H 6.93147182464599609375e-01

abbrev pub LG2_L : Float
LG2_L = bits 0xBE205C610CA86C39  -- LG2_L -1.90465429995776804525e-09

abbrev pub OVT : Float
OVT = bits 0x3C971547652B82FE  -- OVT 8.0085662595372944372e-017

-- the word of an i32
abbrev pub word : ℤ → ℕ
word (pos m) = m
word (negsuc m) = 2 ^ 32 - suc m

-- j += n << 20, on the words; and `(j >> 20) <= 0`, which is j < 2 ^ 20 as a signed number
unfoldable pub scaled_s : Float → ℤ → Float
scaled_s z n =
    let j = high_word_s z in
    let j = (j + word n * 2 ^ 20) % 2 ^ 32 in
    if j <? 2 ^ 20 || j ≥? 2 ^ 31 then scalbn_s binary64 z n else with_high_word_s z j

-- 2 ** (p_h + p_l) after n is taken off: from `let t: f64 = with_set_low_word(p_l + p_h, 0)` to `z = 1.0 - (r - z)`
unfoldable pub fraction_s : Float → Float → Float
fraction_s p_h p_l =
    let t = with_low_word_s (p_l ⊕ p_h) 0 in
    let u = t ⊗ LG2_H in
    let v = (p_l ⊖ (t ⊖ p_h)) ⊗ LG2 ⊕ t ⊗ LG2_L in
    let z = u ⊕ v in
    let w = v ⊖ (z ⊖ u) in
    let t = z ⊗ z in
    let t1 = z ⊖ t ⊗ horner_s binary64 P t in
    let r = (z ⊗ t1) ⊘ (t1 ⊖ 2·0) ⊖ (w ⊕ z ⊗ w) in
    1·0 ⊖ (r ⊖ z)

-- compute 2**(p_h+p_l). Where |z| > 0.5, n is j plus a half in the digits of j's exponent:
-- `0x00100000 >> (k + 1)` is 2 ^ 20 / 2 ^ (i / 2 ^ 20 - 0x3FE), and `n & !(0x000fffff >> k)` has the lower 20 - k digits cut off.
unfoldable pub exp2_s : Float → Float → Float → ℕ → Float
exp2_s s p_h p_l j =
    let i = j % 2 ^ 31 in
    if i >? 0x3FE00000 then
    (let n = j + 2 ^ 20 / 2 ^ (i / 2 ^ 20 - 0x3FE) in
    let k = n % 2 ^ 31 / 2 ^ 20 - 0x3FF in
    let t = with_high_word_s 0·0 (n / 2 ^ (20 - k) * 2 ^ (20 - k)) in
    let n = pos ((n % 2 ^ 20 + 2 ^ 20) / 2 ^ (20 - k)) in
    let n = if j ≥? 2 ^ 31 then neg_ℤ n else n in
    s ⊗ scaled_s (fraction_s (p_h ⊖ t) p_l) n)
    else s ⊗ scaled_s (fraction_s p_h p_l) (pos 0)

-- z >= 1024. `(j - 0x40900000) | i` is 0 where j is 0x40900000 and i is 0.
unfoldable pub large_s : Float → Float → Float → Float → ℕ → ℕ → Float
large_s s p_h p_l z j i =
    if not (j =? 0x40900000 && i =? 0) then s ⊗ HUGE ⊗ HUGE
    else if p_l ⊕ OVT >· z ⊖ p_h then s ⊗ HUGE ⊗ HUGE
    else exp2_s s p_h p_l j

-- z <= -1075
unfoldable pub small_s : Float → Float → Float → Float → ℕ → ℕ → Float
small_s s p_h p_l z j i =
    if not (j =? 0xC090CC00 && i =? 0) then s ⊗ TINY ⊗ TINY
    else if p_l ≤· z ⊖ p_h then s ⊗ TINY ⊗ TINY
    else exp2_s s p_h p_l j

-- `j >= 0x40900000` is of an i32
unfoldable pub bounded_s : Float → Float → Float → Float → ℕ → ℕ → Float
bounded_s s p_h p_l z j i =
    if j ≥? 0x40900000 && j <? 2 ^ 31 then large_s s p_h p_l z j i
    else if j % 2 ^ 31 ≥? 0x4090CC00 then small_s s p_h p_l z j i
    else exp2_s s p_h p_l j

-- split up y into y1+y2 and compute (y1+y2)*(t1+t2)
unfoldable pub product_s : Float → Float → Parts → Float
product_s s y t =
    let y1 = with_low_word_s y 0 in
    let p_l = (y ⊖ y1) ⊗ t.t1 ⊕ y ⊗ t.t2 in
    let p_h = y1 ⊗ t.t1 in
    let z = p_l ⊕ p_h in
    let j = high_word_s z in
    let i = low_word_s z in
    bounded_s s p_h p_l z j i
