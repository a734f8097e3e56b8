-- tgamma's correction r + dy (GMHALF + 0.5) r / y, where y is x + GMHALF and dy the error of that sum:
--   `dy_range`: dy is at most 2 ^ -10 in size, for x from 2 ^ -54 to 184; `factor_range`: so dy (GMHALF + 0.5) is at most 1 in size;
--   `corrected`: r + c r / y is above zero for an r above zero, a c of at most 1 in size and a y from 4 on, over the format;
--   `correction`: for an r of either sign from 2 ^ -600 to 2 ^ 600 in size it has r's sign, is finite and no zero.
-- Assumes nothing.
use mathlib.Core.Path.{◌≡◌, refl, sym, ap, ◌∙◌, subst}
use mathlib.Core.List.{[]}
use Prim.Native.Nat.{ℕ, ◌+◌, ◌*◌, ◌^◌, ◌≤◌, ◌<◌}
use native.Mathlib.Nat.{le_of_eq}
use native.Mathlib.Omega.{arith}
use mathlib.Core.Bool.{Bool, true, false, not}
use lib.IntN.{ℤ, pos, negsuc}
use lib.Dec.{T, ltb→lt, lit<}
use lib.Pow.{pow_pos, pow-add}
use lib.Ieee.{Float, nan, inf, fin, Format, binary64, add, mul, div, neg, le, fits, of_bits, up, down}
use lib.Ieee.Exact.{HasValue}
use lib.Ieee.Fits.{neg-fits}
use lib.Ieee.Positive.{positive, between}
use Rattle.rounding.proofs.Signed.{P, N, Signed, le→Le, le_neg, le_signed, round_signed}
use Rattle.rounding.proofs.Order.{le_refl, le_trans, between_finite, neg_finite}
use Rattle.rounding.proofs.Fraction.{mul_is, div_is, mul_commutes}
use Rattle.rounding.proofs.Odd.{neg_neg, mul_neg, mul_neg_right, div_neg, add_odd}
use Rattle.rounding.proofs.Monotone.{add_mono, div_mono_left, div_mono_right}
use Rattle.rounding.proofs.Grid.{OnGrid, on_grid, spare}
use Rattle.rounding.proofs.Relative.{zero+, one+, quarter-, mul_le_self, part_finite, add_quarter}
use Rattle.rounding.proofs.Error.{NearSum}
use Rattle.rounding.proofs.Sums.{in_units, within, sum_near, difference_near, size_of_sum, size_of_difference, one_side}
use Rattle.rounding.proofs.Range.{var, con, plus, times, eval, ieval, In, range_test, range}
use Rattle.words.specs.F64.{◌⊕◌, ◌⊖◌, ◌⊗◌, ◌⊘◌, 0·5}
use Rattle.pow_range.proofs.FractionRange.{slight}
use Rattle.pow_range.proofs.ProductSign.{eight}
use Rattle.pow_range.proofs.PowSign.{from55, to190}
use Rattle.tgamma.specs.Tgamma.{GMHALF, dy_s}
use Rattle.tgamma.proofs.Regions.{from_54, to184, Middle}
use Rattle.tgamma.proofs.Formula.{dy_either}

-- ---- dy: L units are 1, E is twice the error of a sum

-- y = a + b, d = y - a, r = d - b, each off by E / 2: r is small. Each value is the difference of two numbers
left_over : (a a' b b' y y' d d' r r' E : ℕ)
    → 2 * (y + (a' + b')) ≤ 2 * (y' + (a + b)) + E → 2 * (y' + (a + b)) ≤ 2 * (y + (a' + b')) + E
    → 2 * (d + (y' + a)) ≤ 2 * (d' + (y + a')) + E → 2 * (d' + (y + a')) ≤ 2 * (d + (y' + a)) + E
    → 2 * (r + (d' + b)) ≤ 2 * (r' + (d + b')) + E → 2 * (r' + (d + b')) ≤ 2 * (r + (d' + b)) + E
    → (2 * r ≤ 2 * r' + 3 * E) × (2 * r' ≤ 2 * r + 3 * E)
left_over a a' b b' y y' d d' r r' E h i j k l m = (omega arith, omega arith)

room : (A B Y E L : ℕ) → A + B ≤ 200 * L → 2 * Y ≤ 2 * (A + B) + E → E * 0x20000000000 ≤ L → Y + A ≤ 4000 * L
room A B Y E L a b c = omega arith

room_2 : (A B Y D E L : ℕ) → A + B ≤ 200 * L → 2 * Y ≤ 2 * (A + B) + E → 2 * D ≤ 2 * (Y + A) + E → E * 0x20000000000 ≤ L → D + B ≤ 4000 * L
room_2 A B Y D E L a b c d = omega arith

tiny : (R E L : ℕ) → 2 * R ≤ 3 * E → E * 0x20000000000 ≤ L → R * 1024 ≤ 1 * L
tiny R E L a b = omega arith

total : (A B L : ℕ) → A ≤ 184 * L → B ≤ 8 * L → (A + B ≤ 200 * L) × (B + A ≤ 200 * L) × (A + B ≤ 4000 * L)
total A B L a b = (omega arith, omega arith, omega arith)

-- the sum either way round
swapped : (u : Bool) (Y : ℕ) (s : Bool) (A : ℕ) (t : Bool) (B E : ℕ) → NearSum u Y s A t B E → NearSum u Y t B s A E
swapped u Y s A t B E h = (omega arith, omega arith)

-- y lies near a + b, so y - a - b is slight
rest_slight : (y a b : Float) (u : Bool) (Y : ℕ) (s : Bool) (A : ℕ) (t : Bool) (B : ℕ)
    → HasValue y u Y (2 ^ 1074) → HasValue a s A (2 ^ 1074) → HasValue b t B (2 ^ 1074) → NearSum u Y s A t B (2 ^ 1033) → A + B ≤ 200 * 2 ^ 1074
    → In (neg slight) slight (y ⊖ a ⊖ b)
rest_slight y a b u Y s A t B vy va vb sum small =
    let L = 2 ^ 1074 in
    let E = 2 ^ 1033 in
    let fine : E * 0x20000000000 ≤ L = le_of_eq (sym (pow-add 2 1033 41)) in
    let Y_le = size_of_sum u Y s A t B E sum in
    let d = difference_near y a u Y s A vy va (room A B Y E L small Y_le fine) in
    let D = d.1 in
    let D_le = size_of_difference d.0 D u Y s A E d.3 in
    let r = difference_near (y ⊖ a) b d.0 D t B d.2 vb (room_2 A B Y D E L small Y_le D_le fine) in
    let R = r.1 in
    let k =
    left_over (P s A) (N s A) (P t B) (N t B) (P u Y) (N u Y) (P d.0 D) (N d.0 D) (P r.0 R) (N r.0 R) E
    sum.0 sum.1 d.3.0 d.3.1 r.3.0 r.3.1 in
    within (y ⊖ a ⊖ b) slight r.0 R L 1 1024 (pow_pos 1074) (lit< tt) r.2 (refl, refl) (tiny R E L (one_side r.0 R (3 * E) k.0 k.1) fine)

gmhalf_units : (t : Bool) × (B : ℕ) × HasValue GMHALF t B (2 ^ 1074) × (B ≤ 8 * 2 ^ 1074)
unfolding of_bits fits le neg
gmhalf_units = in_units GMHALF eight 8 (refl, refl) tt (tt, tt)

pub dy_range : (x : Float) → T (fits binary64 x) → Middle x → In (neg slight) slight (dy_s x (x ⊕ GMHALF))
unfolding neg le
dy_range x F i =
    let L = 2 ^ 1074 in
    let v = in_units x to184 184 (refl, refl) F (le_trans (neg to184) from_54 x tt i.0, i.1) in
    let A = v.1 in
    let g = gmhalf_units in
    let B = g.1 in
    let t = total A B L v.3 g.3 in
    let y = sum_near x GMHALF v.0 A g.0 B v.2 g.2 t.2 in
    dy_either (In (neg slight) slight) x (x ⊕ GMHALF)
    (rest_slight (x ⊕ GMHALF) x GMHALF y.0 y.1 v.0 A g.0 B y.2 v.2 g.2 y.3 t.0)
    (rest_slight (x ⊕ GMHALF) GMHALF x y.0 y.1 g.0 B v.0 A y.2 g.2 v.2 (swapped y.0 y.1 v.0 A g.0 B (2 ^ 1033) y.3) t.1)

-- dy (GMHALF + 0.5), and the same of -dy
factor_test : T (range_test binary64 (neg one+) one+ (times (var 0) (con (GMHALF ⊕ 0·5))) [] (neg slight) slight)
unfolding ieval add mul le neg of_bits
factor_test = tt

pub factor_range : (d : Float) → In (neg slight) slight d → In (neg one+) one+ (d ⊗ (GMHALF ⊕ 0·5))
unfolding eval
factor_range d i = range binary64 (neg one+) one+ (times (var 0) (con (GMHALF ⊕ 0·5))) [] [] (neg slight) slight d factor_test tt i

-- ---- r + c r / y, for an r above zero

-- 4
abbrev pub four+ : Float
four+ = fin false 1 (pos 2)

-- -r / 4 is r (-1/4)
quarter_of : (f : Format) (m : ℕ) (e : ℤ) → div f (fin true m e) four+ ≡ mul f (fin false m e) quarter-
quarter_of f m e = div_is f true m e false 1 (pos 2) (pow_pos 0) ∙ sym (mul_is f false m e true 1 (negsuc 1))

module _ (f : Format) (m : ℕ) (e : ℤ) (n : ℕ) (d : ℤ) (F : T (fits f (fin false m e))) (n0 : 0 < n) (h : T (le four+ (fin false n d))) where
  abbrev r : Float
  r = fin false m e

  abbrev y : Float
  y = fin false n d

  -- r (-1/4)
  abbrev w : Float
  w = mul f r quarter-

  -- c r is at most r in size
  product_in : (c : Float) → In (neg one+) one+ c → In (neg r) r (mul f c r)
  unfolding neg
  product_in c i =
      let C = between_finite (neg one+) c one+ tt tt i.0 i.1 in
      let low : T (le (mul f (neg c) r) r) = mul_le_self f (neg c) m e F (neg_finite c C) (le_neg (neg one+) c i.0) in
      (subst (λ (z : Float). T (le (neg r) z)) (ap neg (mul_neg f c r) ∙ neg_neg (mul f c r)) (le_neg (mul f (neg c) r) r low), mul_le_self f c m e F C i.1)

  -- t / y is at least -r / 4, for a t of at most r in size
  quotient_low : (t : Float) → In (neg r) r t → T (le w (div f t y))
  unfolding neg
  quotient_low t i =
      le_trans w (div f (fin true m e) y) (div f t y)
      (subst (λ (z : Float). T (le z (div f (fin true m e) y))) (quarter_of f m e) (div_mono_right f m e 1 (pos 2) n d (pow_pos 0) n0 h))
      (div_mono_left f (fin true m e) t n d n0 tt (between_finite (fin true m e) t r tt tt i.0 i.1) i.0)

  -- and at most r / 4
  quotient_high : (t : Float) → In (neg r) r t → T (le (div f t y) (neg w))
  quotient_high t i =
      let k = quotient_low (neg t) (le_neg t r i.1, subst (λ (z : Float). T (le (neg t) z)) (neg_neg r) (le_neg (neg r) t i.0)) in
      subst (λ (z : Float). T (le z (neg w))) (ap neg (div_neg f t y) ∙ neg_neg (div f t y)) (le_neg w (div f (neg t) y) k)

  -- r / 4 is at most r
  quarter_le : T (le (neg w) r)
  unfolding neg le
  quarter_le =
      subst (λ (z : Float). T (le z r)) (mul_commutes f (fin false 1 (negsuc 1)) r ∙ mul_neg_right f r quarter-)
      (mul_le_self f (fin false 1 (negsuc 1)) m e F tt tt)

  w_minus : T (le w zero+)
  w_minus = le_signed w zero+ (subst (Signed true) (sym (mul_is f false m e true 1 (negsuc 1))) (round_signed f true _ _)) refl

  pub corrected : (c : Float) (j : ℕ) → OnGrid f m e j → 2 ≤ j → 0 < m → T (positive (add f r r)) → In (neg one+) one+ c
      → T (positive (add f r (div f (mul f c r) y)))
  corrected c j g J M room i =
      let k = product_in c i in
      let q = div f (mul f c r) y in
      let lo = quotient_low (mul f c r) k in
      let hi : T (le q r) = le_trans q (neg w) r (quotient_high (mul f c r) k) quarter_le in
      let W = part_finite f 1 m e j g J in
      let Q = between_finite w q r W tt lo hi in
      between (add f r w) (add f r q) (add f r r) (add_quarter f m e w j F g J W (le_refl w W) w_minus M).2 room
      (add_mono f r r w q tt tt W Q (le_refl r tt) lo) (add_mono f r r q r tt tt Q tt (le_refl r tt) hi)

-- ---- the same of f64, for both signs

-- 2 ^ -600 and 2 ^ 600
abbrev pub small : Float
small = fin false 1 (negsuc 599)

abbrev pub large : Float
large = fin false 1 (pos 600)

-- r has the sign s and a size from 2 ^ -600 to 2 ^ 600
abbrev pub Sized : Bool → Float → Type 0
Sized false r = In small large r
Sized true r = In (neg large) (neg small) r

-- r has the sign s, is finite and no zero
abbrev pub Nonzero : Bool → Float → Type 0
Nonzero s nan = ⊥
Nonzero s (inf t) = ⊥
Nonzero s (fin t m e) = (t ≡ s) × (0 < m)

positive_nonzero : (r : Float) → T (positive r) → Nonzero false r
positive_nonzero nan p = absurd p
positive_nonzero (inf s) p = absurd p
positive_nonzero (fin true m e) p = absurd p
positive_nonzero (fin false m e) p = (refl, ltb→lt 0 m p)

neg_nonzero : (r : Float) → Nonzero false r → Nonzero true (neg r)
unfolding neg
neg_nonzero nan p = p
neg_nonzero (inf s) p = p
neg_nonzero (fin s m e) p = (ap not p.0, p.1)

big_enough : (m : ℕ) (e : ℤ) → T (le small (fin false m e)) → down e ≤ m * up e * 2 ^ 600
big_enough m e h = tidy (2 ^ 600) (m * up e) (down e) (le→Le false 1 (negsuc 599) false m e h)
  where
    tidy : (K a D : ℕ) → 1 * D + 0 * K ≤ a * K + 0 * D → D ≤ a * K
    tidy K a D h = omega arith

plenty : (j : ℕ) → 1074 < 53 + j + 600 → 2 ≤ j
plenty j h = omega arith

twice_test : T (range_test binary64 small (fin false 1 (pos 601)) (plus (var 0) (var 0)) [] small large)
unfolding ieval add le
twice_test = tt

twice_positive : (r : Float) → In small large r → T (positive (r ⊕ r))
unfolding eval
twice_positive r i =
    let k = range binary64 small (fin false 1 (pos 601)) (plus (var 0) (var 0)) [] [] small large r twice_test tt i in
    between small (r ⊕ r) (fin false 1 (pos 601)) tt tt k.0 k.1

four_le : T (le four+ from55)
unfolding le
four_le = tt

correction_plus : (r c y : Float) → T (fits binary64 r) → In small large r → In (neg one+) one+ c → In from55 to190 y → T (positive (r ⊕ c ⊗ r ⊘ y))
correction_plus r c y F i k l = go r y F i (between small r large tt tt i.0 i.1) l (between from55 y to190 tt tt l.0 l.1)
  where
    go : (r y : Float) → T (fits binary64 r) → In small large r → T (positive r) → In from55 to190 y → T (positive y) → T (positive (r ⊕ c ⊗ r ⊘ y))
    go nan y F i p l q = absurd p
    go (inf s) y F i p l q = absurd p
    go (fin true m e) y F i p l q = absurd p
    go (fin false m e) nan F i p l q = absurd q
    go (fin false m e) (inf t) F i p l q = absurd q
    go (fin false m e) (fin true n d) F i p l q = absurd q
    go (fin false m e) (fin false n d) F i p l q =
        let g = on_grid binary64 false m e F in
        corrected binary64 m e n d F (ltb→lt 0 n q) (le_trans four+ from55 (fin false n d) four_le l.0) c g.0 g.1
        (plenty g.0 (spare binary64 m e g.0 600 g.1 (big_enough m e i.0))) (ltb→lt 0 m p) (twice_positive (fin false m e) i) k

sized_neg : (r : Float) → Sized true r → In small large (neg r)
unfolding neg
sized_neg r i = (le_neg r (neg small) i.1, le_neg (neg large) r i.0)

-- the sum turns with r
turned : (r c y : Float) → T (positive (neg r ⊕ c ⊗ neg r ⊘ y)) → r ⊕ c ⊗ r ⊘ y ≡ neg (neg r ⊕ c ⊗ neg r ⊘ y)
turned r c y p =
    let e : neg (c ⊗ neg r ⊘ y) ≡ c ⊗ r ⊘ y =
    ap (λ (t : Float). neg (t ⊘ y)) (mul_neg_right binary64 c r) ∙ ap neg (div_neg binary64 (c ⊗ r) y) ∙ neg_neg (c ⊗ r ⊘ y) in
    sym (ap (λ (t : Float). neg (neg r) ⊕ t) e ∙ ap (λ (t : Float). t ⊕ c ⊗ r ⊘ y) (neg_neg r)) ∙ add_odd binary64 (neg r) (c ⊗ neg r ⊘ y) p

pub correction : (s : Bool) (r c y : Float) → T (fits binary64 r) → Sized s r → In (neg one+) one+ c → In from55 to190 y → Nonzero s (r ⊕ c ⊗ r ⊘ y)
correction false r c y F i k l = positive_nonzero (r ⊕ c ⊗ r ⊘ y) (correction_plus r c y F i k l)
correction true r c y F i k l =
    let v = neg r in
    let p = correction_plus v c y (neg-fits binary64 r F) (sized_neg r i) k l in
    let e : r ⊕ c ⊗ r ⊘ y ≡ neg (v ⊕ c ⊗ v ⊘ y) = turned r c y p in
    subst (Nonzero true) (sym e) (neg_nonzero (v ⊕ c ⊗ v ⊘ y) (positive_nonzero (v ⊕ c ⊗ v ⊘ y) p))
