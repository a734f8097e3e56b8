-- exp lies from 2 ^ -300 to 1 for every f64 from -190 to -5.5 (`exp_range`). Assumes nothing.
use Rattle.std.proofs.Common.{◌≡◌, ℕ, zero, suc, ◌+◌, ◌*◌, ◌<◌, ◌≤◌, true, false, T, [], ℤ, pos, negsuc, neg_ℤ, ap, ◌∙◌, arith, lit<, lt-ltb, le-leb}
use lib.Ieee.{Float, nan, inf, fin, binary64, of_bits, add, mul, neg, le, fits, up, down}
use lib.Ieee.Fits.{down_pos}
use lib.Ieee.Scale.{finite}
use borrow.Author.Tests.{lt-leb}
use Rattle.rounding.proofs.Signed.{le→Le, le_neg}
use Rattle.rounding.proofs.Order.{between_finite}
use Rattle.rounding.proofs.Range.{Expr, var, con, plus, times, eval, ieval, In, range_test, range}
use Rattle.words.specs.Bits.{size_word_s}
use Rattle.whole.specs.Whole.{whole_s}
use Rattle.words.proofs.CutLaws.{word_from, word_upto, sign_of_is}
use Rattle.whole.proofs.WholeBounds.{number, Minus, whole_minus}
use Rattle.exp.specs.Plan.{multiple_s, reduced_s, plain_s}
use Rattle.exp.specs.Exp.{exp64, exp_s}
use Rattle.exp.proofs.Cells.{product, quotient, over_low, under_high, least, one, cell_range}

-- -190 and -5.5
abbrev pub from190 : Float
from190 = fin true 95 (pos 1)

abbrev pub to55 : Float
to55 = fin true 11 (negsuc 0)

-- ---- the branches taken
-- the size word lies between those of 5.5 and 190
word_in : (m : ℕ) (e : ℤ) → T (fits binary64 (fin true m e)) → In from190 to55 (fin true m e)
    → (0x40160000 ≤ size_word_s (fin true m e)) × (size_word_s (fin true m e) ≤ 0x4067C000)
unfolding of_bits neg
word_in m e F i =
    let x = fin true m e in
    (word_from true m e F 0x4016000000000000 (lit< tt) (le_neg x to55 i.1), word_upto true m e F 0x4067C00000000000 (lit< tt) (le_neg from190 x i.0))

-- from a size of 1.5 ln 2 on, k is the quotient's whole part
branch : (x : Float) (hx : ℕ) → 0x40160000 ≤ hx → plain_s exp64 x hx 1 ≡ reduced_s exp64 x (whole_s (quotient x))
unfolding plain_s multiple_s quotient product
branch x hx h = simp (lt-ltb 0x3FD62E42 hx (omega arith), le-leb 0x3FF0A2B2 hx (omega arith))

-- so exp is the reduction by that k
taken : (m : ℕ) (e : ℤ) → T (fits binary64 (fin true m e)) → In from190 to55 (fin true m e)
    → exp_s (fin true m e) ≡ reduced_s exp64 (fin true m e) (whole_s (quotient (fin true m e)))
unfolding exp_s
taken m e F i =
    let x = fin true m e in
    let w = word_in m e F i in
    simp (lt-leb 0x4086232B (size_word_s x) (omega arith)) (ap (plain_s exp64 x (size_word_s x)) (sign_of_is binary64 true m e F) ∙ branch x (size_word_s x) w.0)

-- ---- the multiple
product_e : Expr
product_e = times (con exp64.INVLN2) (var 0)

product_test : T (range_test binary64 (number true 275) (number true 7) product_e [] from190 to55)
unfolding product_e ieval of_bits mul le
product_test = tt

quotient_test : T (range_test binary64 (number true 275) (number true 8) (plus product_e (con exp64.-0·5)) [] from190 to55)
unfolding product_e ieval of_bits add mul le
quotient_test = tt

product_in : (x : Float) → In from190 to55 x → In (number true 275) (number true 7) (product x)
unfolding product_e product eval
product_in x i = range binary64 (number true 275) (number true 7) product_e [] [] from190 to55 x product_test tt i

quotient_in : (x : Float) → In from190 to55 x → In (number true 275) (number true 8) (quotient x)
unfolding product_e product quotient eval
quotient_in x i = range binary64 (number true 275) (number true 8) (plus product_e (con exp64.-0·5)) [] [] from190 to55 x quotient_test tt i

-- ---- the bounds
reduced_range : (x : Float) → T (finite x) → In from190 to55 x → In least one (reduced_s exp64 x (whole_s (quotient x)))
reduced_range x X i = go w.q w.is w.from w.upto w.reached w.short
  where
    w : Minus 8 275 (quotient x)
    w = whole_minus 8 275 (quotient x) (lit< tt) (quotient_in x i)

    p : In (number true 275) (number true 7) (product x)
    p = product_in x i

    U : T (finite (product x))
    U = between_finite (number true 275) (product x) (number true 7) tt tt p.0 p.1

    go : (q : ℕ) → whole_s (quotient x) ≡ neg_ℤ (pos q) → 8 ≤ q → q ≤ 275 → T (le (quotient x) (number true q))
        → (T (le (quotient x) (number true (suc q))) → ⊥) → In least one (reduced_s exp64 x (whole_s (quotient x)))
    go zero e h k r s = absurd (none h)
      where
        none : 8 ≤ 0 → ⊥
        none h = omega arith
    go (suc j) e h k r s =
        let a : 7 ≤ j = omega arith in
        let b : j ≤ 274 = omega arith in
        rw e (cell_range j x a b (over_low j a b x X U s, under_high j a b x X U r))

below_zero : (m : ℕ) (e : ℤ) → T (le (fin false m e) to55) → ⊥
below_zero m e h = clash (m * up e) (down e) (down_pos e) (le→Le false m e true 11 (negsuc 0) h)
  where
    clash : (M D : ℕ) → 0 < D → M * 2 + 11 * D ≤ 0 * D + 0 * 2 → ⊥
    clash M D d h = omega arith

-- for every f64 from -190 to -5.5
pub exp_range : (x : Float) → T (fits binary64 x) → In from190 to55 x → In least one (exp_s x)
exp_range x F i = go x F i (between_finite from190 x to55 tt tt i.0 i.1)
  where
    go : (x : Float) → T (fits binary64 x) → In from190 to55 x → T (finite x) → In least one (exp_s x)
    go nan F i X = absurd X
    go (inf s) F i X = absurd X
    go (fin false m e) F i X = absurd (below_zero m e i.1)
    go (fin true m e) F i X = rw (taken m e F i) (reduced_range (fin true m e) tt i)
