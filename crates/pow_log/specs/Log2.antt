-- The first half of the Rust's pow.rs: t1 and t2, which together are log2 of ax, in rounded operations of f64. near_one_s and log2_s are what
-- `near_one` and `log2` promise; the others serve log2_s, and are what the private functions of their names promise (normal_s besides what `find`
-- does). To read them in the Rust's order, from log2_s at the end up: log2_s, normal_s, interval_s, series_s.
-- ax is the size of x, and ix the high word of ax. An i32 that is never negative, as ix, j and k, is a natural number here: a mask or a shift of
-- it is `%` or `/` by a power of 2, and `|` with a bit that is not set is `+`. n, which can be negative, is an integer.
use Rattle.std.specs.Prelude.{ℕ, ◌+◌, ◌-◌, ◌*◌, ◌/◌, ◌%◌, ◌^◌, List, [], ◌∷◌, ℤ, pos, neg_ℤ, ◌+ℤ◌, ◌-ℤ◌, Float, if◌then◌else◌}
use Rattle.std.specs.Float.{binary64}
use Rattle.std.specs.Float.Ieee.{of_int}
use Rattle.words.specs.Tests.{◌<?◌, ◌≤?◌, ◌=?◌}
use Rattle.words.specs.F64.{◌⊕◌, ◌⊖◌, ◌⊗◌, ◌⊘◌, bits, 0·0, 0·25, 0·5, 1·0, 1·5, 3·0}
use Rattle.words.specs.Bits.{high_word_s, with_high_word_s, with_low_word_s}
use Rattle.poly.specs.Horner.{horner_s}
use Rattle.pow_log.specs.declared.Parts.{Parts}

-- BP[k], DP_H[k] and DP_L[k], for a k of 0 or 1
abbrev pub BP : ℕ → Float
BP k = if k =? 0 then 1·0 else 1·5

abbrev pub DP_H : ℕ → Float
DP_H k = if k =? 0 then 0·0 else bits 0x3FE2B80340000000  -- DP_H[1] 5.84962487220764160156e-01

abbrev pub DP_L : ℕ → Float
DP_L k = if k =? 0 then 0·0 else bits 0x3E4CFDEB43CFD006  -- DP_L[1] 1.35003920212974897128e-08

abbrev pub TWO53 : Float
TWO53 = bits 0x4340000000000000  -- TWO53 9007199254740992.0

-- L1 to L6
abbrev pub L : List Float
L =
    bits 0x3FE3333333333303 ∷  -- L1 5.99999999999994648725e-01
    bits 0x3FDB6DB6DB6FABFF ∷  -- L2 4.28571428578550184252e-01
    bits 0x3FD55555518F264D ∷  -- L3 3.33333329818377432918e-01
    bits 0x3FD17460A91D4101 ∷  -- L4 2.72728123808534006489e-01
    bits 0x3FCD864A93C9DB65 ∷  -- L5 2.30660745775561754067e-01
    bits 0x3FCA7E284A454EEF ∷  -- L6 2.06975017800338417784e-01
    []

abbrev pub CP : Float
CP = bits 0x3FEEC709DC3A03FD  -- CP 9.61796693925975554329e-01

abbrev pub CP_H : Float
CP_H = bits 0x3FEEC709E0000000  -- CP_H 9.61796700954437255859e-01

abbrev pub CP_L : Float
CP_L = bits 0xBE3E2FE0145B01F5  -- CP_L -7.02846165095275826516e-09

abbrev pub IVLN2 : Float
IVLN2 = bits 0x3FF71547652B82FE  -- IVLN2 1.44269504088896338700e+00

abbrev pub IVLN2_H : Float
IVLN2_H = bits 0x3FF7154760000000  -- IVLN2_H 1.44269502162933349609e+00

abbrev pub IVLN2_L : Float
IVLN2_L = bits 0x3E54AE0BF85DDF44  -- IVLN2_L 1.92596299112661746887e-08

abbrev pub 0·3333333333333333333333 : Float
0·3333333333333333333333 = bits 0x3FD5555555555555  -- 0.3333333333333333333333

-- |1-x| is TINY <= 2**-20, suffice to compute log(x) by x-x^2/2+x^3/3-x^4/4
unfoldable pub near_one_s : Float → Parts
near_one_s ax =
    let t = ax ⊖ 1·0 in
    let w = (t ⊗ t) ⊗ (0·5 ⊖ t ⊗ (0·3333333333333333333333 ⊖ t ⊗ 0·25)) in
    let u = IVLN2_H ⊗ t in
    let v = t ⊗ IVLN2_L ⊖ w ⊗ IVLN2 in
    let t1 = with_low_word_s (u ⊕ v) 0 in
    let t2 = v ⊖ (t1 ⊖ u) in
    record { t1 = t1; t2 = t2 }

-- From `compute ss` to t2. bp, dp_h and dp_l stand for BP[k], DP_H[k] and DP_L[k]; t_h is `ax+bp[k] High`, and t is n.
unfoldable pub series_s : Float → Float → Float → Float → Float → Float → Parts
series_s ax bp t_h dp_h dp_l t =
    let u = ax ⊖ bp in
    let v = 1·0 ⊘ (ax ⊕ bp) in
    let ss = u ⊗ v in
    let s_h = with_low_word_s ss 0 in
    let t_l = ax ⊖ (t_h ⊖ bp) in
    let s_l = v ⊗ ((u ⊖ s_h ⊗ t_h) ⊖ s_h ⊗ t_l) in
    let s2 = ss ⊗ ss in
    let r = s2 ⊗ s2 ⊗ horner_s binary64 L s2 in
    let r = r ⊕ s_l ⊗ (s_h ⊕ ss) in
    let s2 = s_h ⊗ s_h in
    let t_h = with_low_word_s (3·0 ⊕ s2 ⊕ r) 0 in
    let t_l = r ⊖ ((t_h ⊖ 3·0) ⊖ s2) in
    let u = s_h ⊗ t_h in
    let v = s_l ⊗ t_h ⊕ t_l ⊗ ss in
    let p_h = with_low_word_s (u ⊕ v) 0 in
    let p_l = v ⊖ (p_h ⊖ u) in
    let z_h = CP_H ⊗ p_h in
    let z_l = CP_L ⊗ p_h ⊕ p_l ⊗ CP ⊕ dp_l in
    let t1 = with_low_word_s (((z_h ⊕ z_l) ⊕ dp_h) ⊕ t) 0 in
    let t2 = z_l ⊖ (((t1 ⊖ t) ⊖ dp_h) ⊖ z_h) in
    record { t1 = t1; t2 = t2 }

-- ax is scaled into the interval that ix, from 0x3FE00000 to 0x3FFFFFFF, and k say, and counted with 2 ^ n
unfoldable pub interval_s : Float → ℕ → ℕ → ℤ → Parts
interval_s ax ix k n =
    let ax = with_high_word_s ax ix in
    let t_h = with_high_word_s 0·0 (ix / 2 + 0x20000000 + 0x00080000 + k * 2 ^ 18) in
    let t = of_int binary64 n in
    series_s ax (BP k) t_h (DP_H k) (DP_L k) t

-- determine interval
unfoldable pub normal_s : Float → ℕ → ℤ → Parts
normal_s ax ix n =
    let n = n +ℤ (pos (ix / 2 ^ 20) -ℤ pos 0x3FF) in
    let j = ix % 2 ^ 20 in
    let ix = j + 0x3FF00000 in
    if j ≤? 0x3988E then interval_s ax ix 0 n
    else if j <? 0xBB67A then interval_s ax ix 1 n
    else interval_s ax (ix - 0x00100000) 0 (n +ℤ pos 1)

-- take care subnormal number
unfoldable pub log2_s : Float → ℕ → Parts
log2_s ax ix =
    if ix <? 0x00100000 then
    (let ax = ax ⊗ TWO53 in
    normal_s ax (high_word_s ax) (neg_ℤ (pos 53)))
    else normal_s ax ix (pos 0)
