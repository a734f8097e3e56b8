-- sinpi of a value that is no whole number, octant by octant, over the kernels of the sine and of the cosine (`sinpi_turn`): where a property holds of what they
-- give (`Kernels`), it holds of sinpi in the first half of a turn, and of the negative of sinpi in the second. Assumes nothing.
use mathlib.Core.Path.{◌≡◌, refl, sym, ap, ◌∙◌, subst}
use Prim.Native.Nat.{ℕ, zero, suc, ◌+◌, ◌-◌, ◌*◌, ◌/◌, ◌^◌, ◌≤◌, ◌<◌}
use native.Mathlib.Nat.{div-add-mod', mod-lt, mul-pos, zero-mul, zero-lt-suc, add-mul, lt_of_lt_of_le, mul-le-mul_right}
use native.Mathlib.Omega.{arith}
use mathlib.Core.Bool.{Bool, true, false, true≢false}
use lib.IntN.{ℤ, pos, negsuc, nat_abs}
use lib.Dec.{T, eqb, lit≤, lt→ltb}
use lib.Pow.{pow_pos}
use lib.Ieee.{Float, nan, inf, fin, binary64, mul, neg, le, fits, of_bits, of_int, low, prec, emax, up, down}
use lib.Ieee.Exact.{HasValue}
use lib.Ieee.Scale.{finite}
use lib.Ieee.Fits.{mul-fits, sub-fits, neg-fits, down_pos}
use lib.Ieee.Order.{le_of_values}
use lib.Ieee.Positive.{positive, between}
use Rattle.rounding.proofs.Signed.{P, N, le_of_signed, value_finite, value_neg}
use Rattle.rounding.proofs.Order.{le_trans}
use Rattle.rounding.proofs.Range.{In}
use Rattle.rounding.proofs.Monotone.{mul_mono_plus}
use Rattle.rounding.proofs.Fraction.{mul_commutes}
use Rattle.rounding.proofs.Relative.{self_le_mul}
use Rattle.rounding.proofs.Odd.{neg_neg, mul_neg}
use Rattle.words.specs.Pick.{pick}
use Rattle.words.specs.F64.{◌⊖◌, ◌⊗◌}
use Rattle.whole.specs.Whole.{whole_s}
use Rattle.trig.proofs.CosineRange.{pio4}
use Rattle.sinpi.specs.Sinpi.{PI, turn_s, quarter_s}
use Rattle.sinpi.proofs.Exactness.{half+, turn_of, rest_of, quarter_value, fold_down, fold_up}

-- ---- d * PI for a d of D / L with 0 < D and 4 D ≤ L
abbrev quarter+ : Float
quarter+ = fin false 1 (negsuc 1)

quarter_pi : quarter+ ⊗ PI ≡ pio4
unfolding mul of_bits
quarter_pi = refl

quarter_pi_minus : fin true 1 (negsuc 1) ⊗ PI ≡ neg pio4
unfolding mul neg of_bits
quarter_pi_minus = refl

times_pi_mono : (x y : Float) → T (finite x) → T (finite y) → T (le x y) → T (le (x ⊗ PI) (y ⊗ PI))
unfolding of_bits
times_pi_mono x y X Y h = mul_mono_plus binary64 x y 884279719003555 (negsuc 47) X Y h

-- it is above zero and up to pi / 4, and at least d
scaled : (m : ℕ) (e : ℤ) → T (fits binary64 (fin false m e)) → 0 < m → T (le (fin false m e) quarter+)
    → T (positive (fin false m e ⊗ PI)) × T (le (fin false m e ⊗ PI) pio4) × T (le (fin false m e) (fin false m e ⊗ PI))
scaled m e F M h =
    let d = fin false m e in
    let r = d ⊗ PI in
    let hi : T (le r pio4) = subst (λ (z : Float). T (le r z)) quarter_pi (times_pi_mono d quarter+ tt tt h) in
    let lo : T (le d r) = subst (λ (z : Float). T (le d z)) (mul_commutes binary64 PI d) (self_le_mul binary64 PI m e F (unfold of_bits in tt) (unfold of_bits le in tt)) in
    (between d r pio4 (lt→ltb 0 m M) (unfold of_bits in tt) lo hi, hi, lo)

value_above : (m : ℕ) (e : ℤ) (D L : ℕ) → m * up e * L ≡ D * down e → 0 < D → 0 < L → 0 < m
value_above zero e D L h p l = absurd (no (D * down e) (mul-pos p (down_pos e)) (sym h ∙ ap (λ (z : ℕ). z * L) (zero-mul (up e)) ∙ zero-mul L))
  where
    no : (a : ℕ) → 0 < a → a ≡ 0 → ⊥
    no a h e = omega arith
value_above (suc m) e D L h p l = zero-lt-suc m

under_quarter : (d : Float) (D L : ℕ) → 0 < L → HasValue d false D L → D * 4 ≤ L → T (le d quarter+)
under_quarter d D L l v h = le_of_signed d quarter+ false D L false 1 4 l (pow_pos 2) v (refl, refl) (tidy D L h)
  where
    tidy : (D L : ℕ) → D * 4 ≤ L → D * 4 + 0 * L ≤ 1 * L + 0 * 4
    tidy D L h = omega arith

-- r is above zero and up to pi / 4, and at least u
abbrev pub Angle : Float → Float → Type 0
Angle u r = T (positive r) × T (le r pio4) × T (le u r)

-- d * PI is, for a u of g / L with g up to D
times_pi_plus : (u d : Float) (g D L : ℕ) → T (fits binary64 d) → 0 < L → HasValue u false g L → HasValue d false D L → 0 < g → g ≤ D → D * 4 ≤ L
    → Angle u (d ⊗ PI)
times_pi_plus u nan g D L F l w v p k h = absurd v
times_pi_plus u (inf s) g D L F l w v p k h = absurd v
times_pi_plus u (fin true m e) g D L F l w v p k h = absurd (true≢false v.0)
times_pi_plus u (fin false m e) g D L F l w v p k h =
    let d = fin false m e in
    let r = scaled m e F (value_above m e D L v.1 (lt_of_lt_of_le p k) l) (under_quarter d D L l v h) in
    (r.0, r.1, le_trans u d (d ⊗ PI) (le_of_values u d g L D L l l w v (mul-le-mul_right L k)) r.2)

-- and its negative is, for a d that is -D / L
times_pi_minus : (u d : Float) (g D L : ℕ) → T (fits binary64 d) → 0 < L → HasValue u false g L → HasValue d true D L → 0 < g → g ≤ D → D * 4 ≤ L
    → Angle u (neg (d ⊗ PI))
times_pi_minus u d g D L F l w v p k h =
    subst (Angle u) (mul_neg binary64 d PI)
    (times_pi_plus u (neg d) g D L (neg-fits binary64 d F) l w (value_neg d true D L v) p k h)

-- ---- the kernels there

-- d * PI lies from -pi / 4 to pi / 4, for a d that is ±D / L
times_pi_range : (d : Float) (s : Bool) (D L : ℕ) → 0 < L → HasValue d s D L → D * 4 ≤ L → In (neg pio4) pio4 (d ⊗ PI)
times_pi_range d s D L l v h =
    let X = value_finite d s D L v in
    let a : T (le d quarter+) = le_of_signed d quarter+ s D L false 1 4 l (pow_pos 2) v (refl, refl) (over s D L h) in
    let b : T (le (fin true 1 (negsuc 1)) d) = le_of_signed (fin true 1 (negsuc 1)) d true 1 4 s D L (pow_pos 2) l (refl, refl) v (beneath s D L h) in
    let r = d ⊗ PI in
    let hi : T (le r pio4) = subst (λ (z : Float). T (le r z)) quarter_pi (times_pi_mono d quarter+ X tt a) in
    let lo : T (le (neg pio4) r) = subst (λ (z : Float). T (le z r)) quarter_pi_minus (times_pi_mono (fin true 1 (negsuc 1)) d tt X b) in
    (lo, hi)
  where
    over : (s : Bool) (D L : ℕ) → D * 4 ≤ L → P s D * 4 + 0 * L ≤ 1 * L + N s D * 4
    over false D L h = omega arith
    over true D L h = omega arith

    beneath : (s : Bool) (D L : ℕ) → D * 4 ≤ L → 0 * L + N s D * 4 ≤ P s D * 4 + 1 * L
    beneath false D L h = omega arith
    beneath true D L h = omega arith

-- ---- the eight octants: x mod 2 is a y of Y / L, L = 2 H, and n0 is 4 Y / L

-- y - n / 2
abbrev pub folded : Float → ℕ → Float
folded y n = y ⊖ of_int binary64 (pos n) ⊗ half+

-- the cases of sinpi, over a kernel of the sine and one of the cosine
abbrev pub case : (Float → Float) → (Float → Float) → ℕ → Float → Float
case sine cosine n y = pick (eqb n 1) (cosine y) (pick (eqb n 2) (sine (neg y)) (pick (eqb n 3) (neg (cosine y)) (sine y)))

-- sinpi over the two kernels
abbrev pub reduced : (Float → Float) → (Float → Float) → Float → Float
reduced sine cosine x = case sine cosine (quarter_s (turn_s x)) (folded (turn_s x) (quarter_s (turn_s x)) ⊗ PI)

abbrev Folds : Float → ℕ → ℕ → ℕ → Type 0
Folds y Y H n =
    (n * H ≤ Y → HasValue (folded y n) false (Y - n * H) (2 * H))
    × (Y < n * H → n * H - Y ≤ Y → HasValue (folded y n) true (n * H - Y) (2 * H))

-- Q of r in the first half of a turn, of its negative in the second
abbrev pub Sine : (Float → Type 0) → Float → ℕ → ℕ → Type 0
Sine Q r Y H = (Y < 2 * H → Q r) × (2 * H ≤ Y → Q (neg r))

-- Y is at least g off 0, 2 H and 4 H
abbrev pub Apart : ℕ → ℕ → ℕ → Type 0
Apart g Y H = (g ≤ Y) × (Y < 2 * H → Y + g ≤ 2 * H) × (2 * H ≤ Y → 2 * H + g ≤ Y) × (Y + g ≤ 4 * H)

-- Q holds of the sine from u to pi / 4, where the sine is odd, and of the cosine
pub record Kernels (sine cosine : Float → Float) (Q : Float → Type 0) (u : Float) : Type 0 where
  pub sines : (r : Float) → T (fits binary64 r) → Angle u r → Q (sine r)
  pub odd : (r : Float) → T (fits binary64 r) → Angle u r → sine (neg r) ≡ neg (sine r)
  pub cosines : (r : Float) → In (neg pio4) pio4 r → Q (cosine r)

fold_fits : (y : Float) (n : ℕ) → T (fits binary64 (folded y n))
fold_fits y n = sub-fits binary64 y (of_int binary64 (pos n) ⊗ half+)

times_fits : (y : Float) (n : ℕ) → T (fits binary64 (folded y n ⊗ PI))
times_fits y n = mul-fits binary64 (folded y n) PI

octant : (Y L n : ℕ) → 0 < L → 4 * Y / L ≡ n → (n * L ≤ 4 * Y) × (4 * Y < n * L + L)
octant Y L n l e =
    let a = div-add-mod' (4 * Y) L in
    let b = mod-lt (4 * Y) l in
    let c : 4 * Y / L * L ≡ n * L = ap (λ (z : ℕ). z * L) e in
    (omega arith, omega arith)

module _ (sine cosine : Float → Float) (Q : Float → Type 0) (u : Float) (K : Kernels sine cosine Q u) where
  twice_neg : (x : Float) → Q x → Q (neg (neg x))
  twice_neg x p = subst Q (sym (neg_neg x)) p

  sine_minus : (r : Float) → T (fits binary64 r) → Angle u (neg r) → Q (neg (sine r))
  sine_minus r F a =
      let G = neg-fits binary64 r F in
      subst Q (sym (ap (λ (z : Float). neg (sine z)) (sym (neg_neg r)) ∙ ap neg (K.odd (neg r) G a) ∙ neg_neg (sine (neg r)))) (K.sines (neg r) G a)

  cosine_plus : (d : Float) (s : Bool) (D L : ℕ) → 0 < L → HasValue d s D L → D * 4 ≤ L → Q (cosine (d ⊗ PI))
  cosine_plus d s D L l v h = K.cosines (d ⊗ PI) (times_pi_range d s D L l v h)

  octants : (y : Float) (g Y H n0 : ℕ) → 0 < 2 * H → HasValue u false g (2 * H) → 0 < g → Apart g Y H → n0 * (2 * H) ≤ 4 * Y → 4 * Y < n0 * (2 * H) + 2 * H
      → ((n : ℕ) → n ≤ 4 → Folds y Y H n) → Sine Q (case sine cosine ((n0 + 1) / 2) (folded y ((n0 + 1) / 2) ⊗ PI)) Y H
  octants y g Y H zero l w p t a b F =
      let d = (F 0 (lit≤ tt)).0 (omega arith) in
      let r = times_pi_plus u (folded y 0) g (Y - 0 * H) (2 * H) (fold_fits y 0) l w d p (omega (arith, t.0)) (omega arith) in
      ((λ (u : Y < 2 * H). K.sines (folded y 0 ⊗ PI) (times_fits y 0) r), λ (u : 2 * H ≤ Y). absurd (omega arith))
  octants y g Y H (suc zero) l w p t a b F =
      let d = (F 1 (lit≤ tt)).1 (omega arith) (omega arith) in
      ((λ (u : Y < 2 * H). cosine_plus (folded y 1) true (1 * H - Y) (2 * H) l d (omega arith)), λ (u : 2 * H ≤ Y). absurd (omega arith))
  octants y g Y H (suc (suc zero)) l w p t a b F =
      let d = (F 1 (lit≤ tt)).0 (omega arith) in
      ((λ (u : Y < 2 * H). cosine_plus (folded y 1) false (Y - 1 * H) (2 * H) l d (omega arith)), λ (u : 2 * H ≤ Y). absurd (omega arith))
  octants y g Y H (suc (suc (suc zero))) l w p t a b F =
      let d = (F 2 (lit≤ tt)).1 (omega arith) (omega arith) in
      let r = times_pi_minus u (folded y 2) g (2 * H - Y) (2 * H) (fold_fits y 2) l w d p (omega (arith, t.1 (omega arith))) (omega arith) in
      let z = folded y 2 ⊗ PI in
      ((λ (u : Y < 2 * H). K.sines (neg z) (neg-fits binary64 z (times_fits y 2)) r), λ (u : 2 * H ≤ Y). absurd (omega arith))
  octants y g Y H (suc (suc (suc (suc zero)))) l w p t a b F =
      let d = (F 2 (lit≤ tt)).0 (omega arith) in
      let z = folded y 2 ⊗ PI in
      let r = times_pi_plus u (folded y 2) g (Y - 2 * H) (2 * H) (fold_fits y 2) l w d p (omega (arith, t.2 (omega arith))) (omega arith) in
      let a' = subst (Angle u) (sym (neg_neg z)) r in
      ((λ (u : Y < 2 * H). absurd (omega arith)), λ (u : 2 * H ≤ Y). sine_minus (neg z) (neg-fits binary64 z (times_fits y 2)) a')
  octants y g Y H (suc (suc (suc (suc (suc zero))))) l w p t a b F =
      let d = (F 3 (lit≤ tt)).1 (omega arith) (omega arith) in
      let c = cosine_plus (folded y 3) true (3 * H - Y) (2 * H) l d (omega arith) in
      ((λ (u : Y < 2 * H). absurd (omega arith)), λ (u : 2 * H ≤ Y). twice_neg (cosine (folded y 3 ⊗ PI)) c)
  octants y g Y H (suc (suc (suc (suc (suc (suc zero)))))) l w p t a b F =
      let d = (F 3 (lit≤ tt)).0 (omega arith) in
      let c = cosine_plus (folded y 3) false (Y - 3 * H) (2 * H) l d (omega arith) in
      ((λ (u : Y < 2 * H). absurd (omega arith)), λ (u : 2 * H ≤ Y). twice_neg (cosine (folded y 3 ⊗ PI)) c)
  octants y g Y H (suc (suc (suc (suc (suc (suc (suc zero))))))) l w p t a b F =
      let under : Y < 4 * H = omega (arith, t.3) in
      let d = (F 4 (lit≤ tt)).1 (omega arith) (omega arith) in
      let r = times_pi_minus u (folded y 4) g (4 * H - Y) (2 * H) (fold_fits y 4) l w d p (omega (arith, t.3)) (omega arith) in
      ((λ (u : Y < 2 * H). absurd (omega arith)), λ (u : 2 * H ≤ Y). sine_minus (folded y 4 ⊗ PI) (times_fits y 4) r)
  octants y g Y H (suc (suc (suc (suc (suc (suc (suc (suc n)))))))) l w p t a b F = absurd (beyond n Y H a (omega (arith, t.3)))
    where
      beyond : (n Y H : ℕ) → suc (suc (suc (suc (suc (suc (suc (suc n))))))) * (2 * H) ≤ 4 * Y → Y < 4 * H → ⊥
      beyond n Y H a t =
          let e = add-mul n 8 (2 * H) in
          let f : suc (suc (suc (suc (suc (suc (suc (suc n))))))) * (2 * H) ≡ n * (2 * H) + 8 * (2 * H) = ap (λ (z : ℕ). z * (2 * H)) (omega arith) ∙ e in
          omega arith

-- ---- the whole of it

-- n / 2, for n up to 4
half_of : (n : ℕ) → n ≤ 4 → HasValue (of_int binary64 (pos n) ⊗ half+) false (n * 2 ^ (low binary64 - 1)) (2 ^ low binary64)
unfolding of_int mul
half_of zero h = (refl, refl)
half_of (suc zero) h = (refl, refl)
half_of (suc (suc zero)) h = (refl, refl)
half_of (suc (suc (suc zero))) h = (refl, refl)
half_of (suc (suc (suc (suc zero)))) h = (refl, refl)
half_of (suc (suc (suc (suc (suc n))))) h = absurd (no n h)
  where
    no : (n : ℕ) → suc (suc (suc (suc (suc n)))) ≤ 4 → ⊥
    no n h = omega arith

pub turn_of_is : (x : Float) → turn_s x ≡ turn_of binary64 x
unfolding turn_s of_bits
turn_of_is x = refl

-- x is X = m * 2 ^ (j + 1) units, L = 2 ^ low units are 1, and Y = X mod 2 L is at least g off 0, L and 2 L, where u is g units
pub sinpi_turn : (sine cosine : Float → Float) (Q : Float → Type 0) (u : Float) → Kernels sine cosine Q u → (x : Float) (m j g : ℕ)
    → HasValue x false (m * 2 ^ suc j) (2 ^ low binary64) → m < 2 ^ prec binary64
    → m * 2 ^ suc j < 2 ^ (low binary64 + suc (emax binary64)) → suc j < low binary64 → m * 2 ^ j / 2 ^ low binary64 < 2 ^ prec binary64
    → HasValue u false g (2 ^ low binary64) → 0 < g → Apart g (rest_of binary64 m j * 2 ^ suc j) (2 ^ (low binary64 - 1))
    → Sine Q (reduced sine cosine x) (rest_of binary64 m j * 2 ^ suc j) (2 ^ (low binary64 - 1))
unfolding quarter_s of_bits
sinpi_turn sine cosine Q u K x m j g v small fine deep few w p t =
    let y = turn_of binary64 x in
    let Y = rest_of binary64 m j * 2 ^ suc j in
    let L = 2 ^ low binary64 in
    let H = 2 ^ (low binary64 - 1) in
    let within = less j (low binary64) deep in
    let n0 = 4 * Y / L in
    let under : Y < 2 * L = short Y g (2 * L) p t.3 in
    let n0-is : nat_abs (whole_s (fin false 1 (pos 2) ⊗ y)) ≡ n0 = quarter_value binary64 x m j v small fine within few under in
    let o = octant Y L n0 (pow_pos (low binary64)) refl in
    subst (λ (z : Float). Sine Q (case sine cosine (quarter_s z) (folded z (quarter_s z) ⊗ PI)) Y H) (sym (turn_of_is x))
    (subst (λ (n : ℕ). Sine Q (case sine cosine ((n + 1) / 2) (folded y ((n + 1) / 2) ⊗ PI)) Y H) (sym n0-is)
    (octants sine cosine Q u K y g Y H n0 (pow_pos (low binary64)) w p t o.0 o.1
    (λ (n : ℕ) (h : n ≤ 4). (
      (λ (k : n * H ≤ Y). fold_down binary64 x m j v small fine within few deep n (of_int binary64 (pos n) ⊗ half+) (half_of n h) k),
      λ (k : Y < n * H) (l : n * H - Y ≤ Y). fold_up binary64 x m j v small fine within few deep n (of_int binary64 (pos n) ⊗ half+) (half_of n h) k l,
    ))))
  where
    less : (j l : ℕ) → suc j < l → j ≤ l
    less j l h = omega arith

    short : (Y g M : ℕ) → 0 < g → Y + g ≤ M → Y < M
    short Y g M p h = omega arith
