-- `product_s` with the sign 1 is no NaN and carries no minus sign, for a y of at most 92 in size, t1 of at most 8 and t2 of at most 1:
-- `product_plus`. Assumes nothing.
use Prim.Native.Nat.{ℕ, ◌+◌, ◌-◌, ◌*◌, ◌^◌, ◌≤◌}
use mathlib.Core.Path.{refl, sym, subst}
use mathlib.Core.Bool.{Bool, true, false}
use mathlib.Core.List.{[], ◌∷◌}
use native.Mathlib.Omega.{arith}
use native.Mathlib.Nat.{le_of_eq, le_of_lt, le_trans, lt_of_le_of_lt}
use lib.IntN.{pos}
use lib.Pow.{pow_pos, pow-add}
use lib.Dec.{T, lit<}
use lib.Ieee.{Float, fin, binary64, add, mul, le, neg, fits}
use lib.Ieee.Exact.{HasValue}
use lib.Ieee.Fits.{add-fits, mul-fits}
use Rattle.rounding.proofs.Signed.{Signed}
use Rattle.rounding.proofs.Sums.{in_units, within, NearDifference, difference_near}
use Rattle.rounding.proofs.Interval.{some}
use Rattle.rounding.proofs.Range.{Expr, var, plus, times, eval, ieval, In, range_test, range}
use Rattle.words.specs.F64.{◌⊕◌, ◌⊖◌, ◌⊗◌}
use Rattle.words.specs.Bits.{with_low_word_s}
use Rattle.words.proofs.PatternLaws.{low_cleared}
use Rattle.pow_log.specs.declared.Parts.{Parts}
use Rattle.pow_exp.specs.Exp2.{product_s}
use Rattle.pow_exp.proofs.Courses.{low_of, high_of, product_within}
use Rattle.pow_range.proofs.FractionRange.{slight}
use Rattle.pow_range.proofs.Reduced.{cut_value}
use Rattle.pow_range.proofs.Exp2Range.{word_high}
use Rattle.pow_range.proofs.Exp2Sign.{one, exp2_plus}

-- 1, 8, 92, 100 and 750
abbrev pub one1 : Float
one1 = fin false 1 (pos 0)

abbrev pub eight : Float
eight = fin false 1 (pos 3)

abbrev pub ninety_two : Float
ninety_two = fin false 23 (pos 2)

abbrev hundred : Float
hundred = fin false 25 (pos 2)

abbrev wide : Float
wide = fin false 375 (pos 1)

-- ---- y1 is y cut, and what the cut takes off is slight

-- ±D is within E / 2 of the difference of ±Y and ±C, two numbers of one sign
of_one_sign : (u : Bool) (D : ℕ) (s : Bool) (Y C E : ℕ) → C ≤ Y → NearDifference u D s Y s C E → 2 * D ≤ 2 * (Y - C) + E
of_one_sign false D false Y C E k h = omega arith
of_one_sign false D true Y C E k h = omega arith
of_one_sign true D false Y C E k h = omega arith
of_one_sign true D true Y C E k h = omega arith

slight_rest : (Y C D E L H : ℕ) → Y ≤ 92 * L → C ≤ Y → Y * 0x100000 ≤ C * 0x100000 + Y + H → 2 * D ≤ 2 * (Y - C) + E → E * 0x100000 ≤ L → H ≤ E → D * 1024 ≤ 1 * L
slight_rest Y C D E L H a b c d e f = omega arith

coarse : (E L : ℕ) → E * 0x20000000000 ≤ L → E * 0x100000 ≤ L
coarse E L h = omega arith

small_sum : (Y C L : ℕ) → Y ≤ 92 * L → C ≤ Y → Y + C ≤ 4000 * L
small_sum Y C L a b = omega arith

module _ (y : Float) (F : T (fits binary64 y)) (i : In (neg ninety_two) ninety_two y) where
  abbrev y1 : Float
  y1 = with_low_word_s y 0

  -- y1, of C units and y's sign, and y - y1
  split : (s : Bool) × (C : ℕ) × HasValue y1 s C (2 ^ 1074) × (C ≤ 92 * 2 ^ 1074) × In (neg slight) slight (y ⊖ y1)
  split =
      let L = 2 ^ 1074 in
      let E = 2 ^ 1033 in
      let fine : E * 0x100000 ≤ L = coarse E L (le_of_eq (sym (pow-add 2 1033 41))) in
      let v = in_units y ninety_two 92 (refl, refl) F i in
      let s = v.0 in
      let Y = v.1 in
      let c = cut_value y s Y F v.2 in
      let C = c.0 in
      let vc : HasValue y1 s C L = subst (λ (z : Float). HasValue z s C L) (sym (low_cleared y)) c.1 in
      let d = difference_near y y1 s Y s C v.2 vc (small_sum Y C L v.3 c.2.0) in
      let D = d.1 in
      let D_le = of_one_sign d.0 D s Y C E c.2.0 d.3 in (
        s,
        C,
        vc,
        le_trans c.2.0 v.3,
        within (y ⊖ y1) slight d.0 D L 1 1024 (pow_pos 1074) (lit< tt) d.2 (refl, refl) (slight_rest Y C D E L 0x10000000000000 v.3 c.2.0 c.2.1 D_le fine (le_of_lt (lit< tt))),
      )

  y1_in : In (neg ninety_two) ninety_two y1
  y1_in = let k = split in within y1 ninety_two k.0 k.1 (2 ^ 1074) 92 1 (pow_pos 1074) (lit< tt) k.2 (refl, refl) (one_times k.1 (92 * 2 ^ 1074) k.3)
    where
      one_times : (a b : ℕ) → a ≤ b → a * 1 ≤ b
      one_times a b h = omega arith

-- ---- p_h and p_l

-- y1 t1, and (y - y1) t1 + y t2
abbrev p_h_e : Expr
p_h_e = times (var 0) (var 1)

abbrev p_l_e : Expr
p_l_e = plus (times (var 0) (var 1)) (times (var 2) (var 3))

p_h_test : T (range_test binary64 (neg wide) wide p_h_e (some (neg eight) eight ∷ []) (neg ninety_two) ninety_two)
unfolding ieval mul le neg
p_h_test = tt

p_l_test : T (range_test binary64 (neg hundred) hundred p_l_e (some (neg eight) eight ∷ some (neg ninety_two) ninety_two ∷ some (neg one1) one1 ∷ []) (neg slight) slight)
unfolding ieval add mul le neg
p_l_test = tt

module _ (y t1 t2 : Float) (F : T (fits binary64 y)) (i : In (neg ninety_two) ninety_two y) (j : In (neg eight) eight t1) (k : In (neg one1) one1 t2) where
  p_h_in : In (neg wide) wide (with_low_word_s y 0 ⊗ t1)
  unfolding eval neg
  p_h_in = range binary64 (neg wide) wide p_h_e (some (neg eight) eight ∷ []) (t1 ∷ []) (neg ninety_two) ninety_two (with_low_word_s y 0) p_h_test ((tt, tt, j.0, j.1), tt) (y1_in y F i)

  p_l_in : In (neg hundred) hundred ((y ⊖ with_low_word_s y 0) ⊗ t1 ⊕ y ⊗ t2)
  unfolding eval neg
  p_l_in =
      range binary64 (neg hundred) hundred p_l_e (some (neg eight) eight ∷ some (neg ninety_two) ninety_two ∷ some (neg one1) one1 ∷ []) (t1 ∷ y ∷ t2 ∷ []) (neg slight) slight (y ⊖ with_low_word_s y 0) p_l_test
      ((tt, tt, j.0, j.1), ((tt, tt, i.0, i.1), ((tt, tt, k.0, k.1), tt))) (split y F i).4

-- ---- the power

sum_le : (A B L : ℕ) → A ≤ 100 * L → B ≤ 750 * L → A + B ≤ 900 * L
sum_le A B L a b = omega arith

pub product_plus : (y : Float) (t : Parts) → T (fits binary64 y) → In (neg ninety_two) ninety_two y → In (neg eight) eight t.t1 → In (neg one1) one1 t.t2
    → Signed false (product_s one y t)
product_plus y t F i j k =
    let p_l = low_of y t in
    let p_h = high_of y t in
    let a = in_units p_l hundred 100 (refl, refl) (add-fits binary64 ((y ⊖ with_low_word_s y 0) ⊗ t.t1) (y ⊗ t.t2)) (p_l_in y t.t1 t.t2 F i j k) in
    let b = in_units p_h wide 750 (refl, refl) (mul-fits binary64 (with_low_word_s y 0) t.t1) (p_h_in y t.t1 t.t2 F i j k) in
    let small = sum_le a.1 b.1 (2 ^ 1074) a.3 b.3 in
    let w = word_high p_l p_h a.0 a.1 b.0 b.1 a.2 b.2 small in
    subst (Signed false) (sym (product_within one y t (lt_of_le_of_lt w (lit< tt)))) (exp2_plus p_l p_h a.0 a.1 b.0 b.1 a.2 b.2 small)
