-- The sum of two values p_l and g of at most 2048 in size, where it is at most 1/2 and a little in size: its upper word's value t and
-- what that leaves, e, are as small as `fraction_range` wants them: `small_parts`. Linear in the smallest unit. Assumes nothing.
use Prim.Native.Nat.{ℕ, ◌+◌, ◌-◌, ◌*◌, ◌/◌, ◌^◌, ◌≤◌}
use mathlib.Core.Path.{◌≡◌, refl, sym, subst}
use mathlib.Core.Bool.{Bool, true, false}
use native.Mathlib.Omega.{arith}
use native.Mathlib.Nat.{lt_of_le_of_lt, le_of_lt, le_of_eq, div-mul-le_self}
use lib.IntN.{ℤ}
use lib.Pow.{pow_pos, pow-add}
use lib.Dec.{T, lit<}
use lib.Ieee.{Float, nan, inf, fin, binary64, neg, add, sub, fits, to_bits}
use lib.Ieee.Bits.{of_bits-to_bits}
use lib.Ieee.Exact.{HasValue}
use lib.Ieee.Fits.{add-fits}
use Rattle.rounding.proofs.Signed.{P, N, value_neg, value_unique}
use Rattle.rounding.proofs.Error.{NearSum}
use Rattle.rounding.proofs.Sums.{within, difference_near, size_of_difference, one_side}
use Rattle.rounding.proofs.BitOrder.{bit_val, val_le, bits_val, to_bits_under}
use Rattle.rounding.proofs.Cut.{cut, cut_is, cut_neg, cut_near}
use Rattle.rounding.proofs.Range.{In}
use Rattle.words.proofs.PatternLaws.{fits_any_sign, low_cleared}
use Rattle.pow_exp.proofs.FractionExpr.{t_of, e_of}
use Rattle.pow_range.proofs.FractionRange.{bound, slight}

-- ---- what a cut takes off

-- C units are left of X, which is at most C, a 2 ^ 20th of X and little more
abbrev pub CutTo : ℕ → ℕ → Type 0
CutTo X C = (C ≤ X) × (X * 0x100000 ≤ C * 0x100000 + X + 0x10000000000000)

-- of a value with no minus sign
cut_plus : (m : ℕ) (e : ℤ) (X : ℕ) → T (fits binary64 (fin false m e)) → HasValue (fin false m e) false X (2 ^ 1074)
    → (C : ℕ) × HasValue (cut binary64 32 (fin false m e)) false C (2 ^ 1074) × CutTo X C
cut_plus m e X F v =
    let x = fin false m e in
    let b = to_bits binary64 x in
    let c = b / 2 ^ 32 * 2 ^ 32 in
    let under = to_bits_under binary64 m e F in
    let c_le : c ≤ b = div-mul-le_self b (2 ^ 32) in
    let vb = bits_val binary64 b under in
    let is : X ≡ bit_val binary64 b = value_unique x false false X (bit_val binary64 b) (2 ^ 1074) v (subst (λ (z : Float). HasValue z false (bit_val binary64 b) (2 ^ 1074)) (of_bits-to_bits binary64 x F) vb) in
    let near = cut_near binary64 b 32 (le_of_lt (lit< tt)) in (
      bit_val binary64 c,
      subst (λ (z : Float). HasValue z false (bit_val binary64 c) (2 ^ 1074)) (sym (cut_is binary64 32 x)) (bits_val binary64 c (lt_of_le_of_lt c_le under)),
      subst (λ (k : ℕ). CutTo k (bit_val binary64 c)) (sym is) (val_le binary64 c b c_le, near),
    )

pub cut_value : (x : Float) (s : Bool) (X : ℕ) → T (fits binary64 x) → HasValue x s X (2 ^ 1074)
    → (C : ℕ) × HasValue (cut binary64 32 x) s C (2 ^ 1074) × CutTo X C
cut_value nan s X F v = absurd v
cut_value (inf _) s X F v = absurd v
cut_value (fin false m e) s X F v =
    subst (λ (t : Bool). (C : ℕ) × HasValue (cut binary64 32 (fin false m e)) t C (2 ^ 1074) × CutTo X C) v.0 (cut_plus m e X F (refl, v.1))
cut_value (fin true m e) s X F v =
    let F+ = fits_any_sign binary64 true false m e F in
    let k = cut_plus m e X F+ (refl, v.1) in
    subst (λ (t : Bool). (C : ℕ) × HasValue (cut binary64 32 (fin true m e)) t C (2 ^ 1074) × CutTo X C) v.0
    (k.0, subst (λ (z : Float). HasValue z true k.0 (2 ^ 1074)) (sym (cut_neg binary64 32 m e (le_of_lt (lit< tt)) F+)) (value_neg (cut binary64 32 (fin false m e)) false k.0 (2 ^ 1074) k.1), k.2)

-- ---- the linear part: L units are 1, E is twice the error of a sum, H is 2 ^ 52

-- c is s cut, d = c - g, e = p_l - d: e is small. Each value is the difference of two numbers.
left_over : (p p' g g' s s' c c' d d' e e' E K : ℕ)
    → 2 * (s + (p' + g')) ≤ 2 * (s' + (p + g)) + E → 2 * (s' + (p + g)) ≤ 2 * (s + (p' + g')) + E
    → s + c' ≤ c + s' + K → c + s' ≤ s + c' + K
    → 2 * (d + (c' + g)) ≤ 2 * (d' + (c + g')) + E → 2 * (d' + (c + g')) ≤ 2 * (d + (c' + g)) + E
    → 2 * (e + (p' + d)) ≤ 2 * (e' + (p + d')) + E → 2 * (e' + (p + d')) ≤ 2 * (e + (p' + d)) + E
    → (2 * e ≤ 2 * e' + 2 * K + 3 * E) × (2 * e' ≤ 2 * e + 2 * K + 3 * E)
left_over p p' g g' s s' c c' d d' e e' E K a b i j k l m n = (omega arith, omega arith)

both_sides : (s : Bool) (S C K : ℕ) → C ≤ S → S ≤ C + K → (P s S + N s C ≤ P s C + N s S + K) × (P s C + N s S ≤ P s S + N s C + K)
both_sides false S C K a b = (omega arith, omega arith)
both_sides true S C K a b = (omega arith, omega arith)

room : (A G S C L : ℕ) → A + G ≤ 2000 * L → S * 64 ≤ 33 * L → C ≤ S → C + G ≤ 4000 * L
room A G S C L a b c = omega arith

room_2 : (A G S C D E L : ℕ) → A + G ≤ 2000 * L → S * 64 ≤ 33 * L → C ≤ S → 2 * D ≤ 2 * (C + G) + E → E * 0x20000000000 ≤ L → A + D ≤ 4000 * L
room_2 A G S C D E L a b c d e = omega arith

slight_enough : (S C R E L H : ℕ) → 2 * R ≤ 2 * (S - C) + 3 * E → C ≤ S → S * 0x100000 ≤ C * 0x100000 + S + H → S * 64 ≤ 33 * L
    → E * 0x20000000000 ≤ L → H ≤ E → R * 1024 ≤ 1 * L
slight_enough S C R E L H a b c d e f = omega arith

-- p_l + g = s, which is at most 33/64 in size
module _ (p_l g : Float) (s : Bool) (A : ℕ) (v : Bool) (G : ℕ) (w : Bool) (S : ℕ)
    (vp : HasValue p_l s A (2 ^ 1074)) (vg : HasValue g v G (2 ^ 1074)) (vs : HasValue (add binary64 p_l g) w S (2 ^ 1074))
    (sum : NearSum w S s A v G (2 ^ 1033)) (small : A + G ≤ 2000 * 2 ^ 1074) (less : S * 64 ≤ 33 * 2 ^ 1074) where
  pub small_parts : In (neg bound) bound (t_of g p_l) × In (neg slight) slight (e_of g p_l)
  small_parts =
      let L = 2 ^ 1074 in
      let E = 2 ^ 1033 in
      let fine : E * 0x20000000000 ≤ L = le_of_eq (sym (pow-add 2 1033 41)) in
      let c = cut_value (add binary64 p_l g) w S (add-fits binary64 p_l g) vs in
      let C = c.0 in
      let vt : HasValue (t_of g p_l) w C L = subst (λ (z : Float). HasValue z w C L) (sym (low_cleared (add binary64 p_l g))) c.1 in
      let d = difference_near (t_of g p_l) g w C v G vt vg (room A G S C L small less c.2.0) in
      let D = d.1 in
      let D_le = size_of_difference d.0 D w C v G E d.3 in
      let r = difference_near p_l (sub binary64 (t_of g p_l) g) s A d.0 D vp d.2 (room_2 A G S C D E L small less c.2.0 D_le fine) in
      let R = r.1 in
      let y = r.0 in
      let K = S - C in
      let k = both_sides w S C K c.2.0 (under S C c.2.0) in
      let l =
      left_over (P s A) (N s A) (P v G) (N v G) (P w S) (N w S) (P w C) (N w C) (P d.0 D) (N d.0 D) (P y R) (N y R) E K
      sum.0 sum.1 k.0 k.1 d.3.0 d.3.1 r.3.0 r.3.1 in
      let R_le : 2 * R ≤ 2 * K + 3 * E = one_side y R (2 * K + 3 * E) (group (2 * P y R) (2 * N y R) (2 * K) (3 * E) l.0) (group (2 * N y R) (2 * P y R) (2 * K) (3 * E) l.1) in (
        within (t_of g p_l) bound w C L 33 64 (pow_pos 1074) (lit< tt) vt (refl, refl) (cut_less C S L less c.2.0),
        within (e_of g p_l) slight y R L 1 1024 (pow_pos 1074) (lit< tt) r.2 (refl, refl) (slight_enough S C R E L 0x10000000000000 R_le c.2.0 c.2.1 less fine (le_of_lt (lit< tt))),
      )
    where
      under : (S C : ℕ) → C ≤ S → S ≤ C + (S - C)
      under S C h = omega arith

      group : (a b c d : ℕ) → a ≤ b + c + d → a ≤ b + (c + d)
      group a b c d h = omega arith

      cut_less : (C S L : ℕ) → S * 64 ≤ 33 * L → C ≤ S → C * 64 ≤ 33 * L
      cut_less C S L a b = omega arith
