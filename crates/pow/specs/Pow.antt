-- pow, as the Rust's pow.rs has it, in rounded operations of f64: x to the power of y, with all special cases in the Rust's order.
-- pow_s is what `pow` promises; the others serve it, and are what the private functions of their names promise. A name must stand before its use:
-- to read them in the Rust's order, from pow_s at the end up: pow_s, pow_at_s, special_y_s, infinite_s, finite_s, yisint_s (parity_s), special_x_s, turned_s,
-- plain_s, signed_s, huge_s; then near_one_s and log2_s of pow_log, and product_s of pow_exp.
-- hx, lx and hy, ly are the words of x and y, natural numbers below 2 ^ 32; ix and iy are hx and hy without the sign.
-- `hx < 0` of the Rust's i32 is hx ≥ 2 ^ 31; `a | c == 0` is a = 0 and c = 0, and `(a - b) | c == 0` is a = b and c = 0.
use Rattle.std.specs.Prelude.{ℕ, ◌-◌, ◌*◌, ◌/◌, ◌%◌, ◌^◌, Bool, not, ◌&&◌, ◌||◌, Float, if◌then◌else◌}
use Rattle.std.specs.Float.Ieee.{neg}
use Rattle.words.specs.Tests.{◌<?◌, ◌>?◌, ◌≤?◌, ◌≥?◌, ◌=?◌, ◌≠?◌}
use Rattle.words.specs.F64.{◌⊕◌, ◌⊖◌, ◌⊗◌, ◌⊘◌, 0·0, 1·0, -1·0}
use Rattle.words.specs.Bits.{high_word_s, low_word_s}
use Rattle.words.specs.Fabs.{fabs_s}
use Rattle.sqrt.specs.Sqrt.{sqrt_s}
use Rattle.pow_log.specs.Log2.{near_one_s, log2_s}
use Rattle.pow_exp.specs.Exp2.{HUGE, TINY, product_s}
use Rattle.pow.specs.declared.Whole.{Whole}
use Rattle.pow.specs.declared.Whole.TheVariants.{No, Odd, Even}

-- h < 0, h >= 0 and h > 0
abbrev pub negative : ℕ → Bool
negative h = h ≥? 2 ^ 31

abbrev pub non_negative : ℕ → Bool
non_negative h = not (negative h)

abbrev pub positive : ℕ → Bool
positive h = h >? 0 && h <? 2 ^ 31

-- |y| is HUGE: if |y| > 2**31. The first two cases carry no sign.
unfoldable pub huge_s : Float → Float → Float → ℕ → ℕ → Float
huge_s s ax y ix hy =
    let iy = hy % 2 ^ 31 in
    if iy >? 0x43F00000 && ix ≤? 0x3FEFFFFF then (if negative hy then HUGE ⊗ HUGE else TINY ⊗ TINY)
    else if iy >? 0x43F00000 && ix ≥? 0x3FF00000 then (if positive hy then HUGE ⊗ HUGE else TINY ⊗ TINY)
    else if ix <? 0x3FEFFFFF then (if negative hy then s ⊗ HUGE ⊗ HUGE else s ⊗ TINY ⊗ TINY)
    else if ix >? 0x3FF00000 then (if positive hy then s ⊗ HUGE ⊗ HUGE else s ⊗ TINY ⊗ TINY)
    else product_s s y (near_one_s ax)

-- t1, t2 and then the power, with the sign s
unfoldable pub signed_s : Float → Float → Float → ℕ → ℕ → Float
signed_s s ax y ix hy =
    let iy = hy % 2 ^ 31 in
    if iy >? 0x41E00000 then huge_s s ax y ix hy else product_s s y (log2_s ax ix)

-- sign of result
unfoldable pub plain_s : Float → Float → ℕ → ℕ → ℕ → Float
plain_s x y hx hy yisint =
    let ix = hx % 2 ^ 31 in
    let ax = fabs_s x in
    if negative hx then
    (if yisint =? 0 then (x ⊖ x) ⊘ (x ⊖ x)
    else if yisint =? 1 then signed_s -1·0 ax y ix hy
    else signed_s 1·0 ax y ix hy)
    else signed_s 1·0 ax y ix hy

-- z, a power of |x|, for x < 0
unfoldable pub turned_s : Float → ℕ → ℕ → Float
turned_s z hx yisint =
    let ix = hx % 2 ^ 31 in
    if negative hx then
    (if ix =? 0x3FF00000 && yisint =? 0 then (z ⊖ z) ⊘ (z ⊖ z)
    else if yisint =? 1 then neg z
    else z)
    else z

-- x is +-0,+-inf,+-1
unfoldable pub special_x_s : Float → ℕ → ℕ → ℕ → Float
special_x_s x hx hy yisint =
    let z = fabs_s x in
    let z = if negative hy then 1·0 ⊘ z else z in
    turned_s z hx yisint

-- the numbers that yisint has
abbrev pub number_of : Whole → ℕ
number_of No = 0
number_of Odd = 1
number_of Even = 2

-- w / 2 ^ d is no whole number: 0; an odd one: 1; an even one: 2
unfoldable pub parity_s : ℕ → ℕ → ℕ
parity_s w d =
    let j = w / 2 ^ d in
    if j * 2 ^ d =? w then 2 - j % 2 else 0

-- determine if y is an odd int when x < 0
unfoldable pub yisint_s : ℕ → ℕ → ℕ → ℕ
yisint_s hx iy ly =
    let k = iy / 2 ^ 20 - 0x3FF in
    if negative hx then
    (if iy ≥? 0x43400000 then 2
    else if iy ≥? 0x3FF00000 then (if k >? 20 then parity_s ly (52 - k) else if ly =? 0 then parity_s iy (20 - k) else 0)
    else 0)
    else 0

-- special value of x
unfoldable pub finite_s : Float → Float → ℕ → ℕ → ℕ → ℕ → Float
finite_s x y hx lx hy ly =
    let ix = hx % 2 ^ 31 in
    let yisint = yisint_s hx (hy % 2 ^ 31) ly in
    if lx =? 0 && (ix =? 0x7FF00000 || ix =? 0 || ix =? 0x3FF00000) then special_x_s x hx hy yisint
    else plain_s x y hx hy yisint

-- y is +-inf
unfoldable pub infinite_s : Float → ℕ → ℕ → ℕ → Float
infinite_s y ix lx hy =
    if ix =? 0x3FF00000 && lx =? 0 then 1·0
    else if ix ≥? 0x3FF00000 then (if non_negative hy then y else 0·0)
    else if non_negative hy then 0·0 else neg y

-- special value of y
unfoldable pub special_y_s : Float → Float → ℕ → ℕ → ℕ → ℕ → Float
special_y_s x y hx lx hy ly =
    let iy = hy % 2 ^ 31 in
    if ly =? 0 && iy =? 0x7FF00000 then infinite_s y (hx % 2 ^ 31) lx hy
    else if ly =? 0 && iy =? 0x3FF00000 then (if non_negative hy then x else 1·0 ⊘ x)
    else if ly =? 0 && hy =? 0x40000000 then x ⊗ x
    else if ly =? 0 && hy =? 0x3FE00000 && non_negative hx then sqrt_s x
    else finite_s x y hx lx hy ly

-- a NaN's words
abbrev pub nan_words : ℕ → ℕ → Bool
nan_words h l = h >? 0x7FF00000 || (h =? 0x7FF00000 && l ≠? 0)

unfoldable pub pow_at_s : Float → Float → ℕ → ℕ → ℕ → ℕ → Float
pow_at_s x y hx lx hy ly =
    let ix = hx % 2 ^ 31 in
    let iy = hy % 2 ^ 31 in
    if iy =? 0 && ly =? 0 then 1·0
    else if hx =? 0x3FF00000 && lx =? 0 then 1·0
    else if nan_words ix lx || nan_words iy ly then x ⊕ y
    else special_y_s x y hx lx hy ly

unfoldable pub pow_s : Float → Float → Float
pow_s x y =
    let hx = high_word_s x in
    let lx = low_word_s x in
    let hy = high_word_s y in
    let ly = low_word_s y in
    pow_at_s x y hx lx hy ly
