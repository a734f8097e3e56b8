-- The whole part of a value between two whole numbers a and b of one sign: it is one of those from a to b, and the value lies between it
-- and the next one further from zero (`whole_plus`, `whole_minus`). Assumes nothing.
use mathlib.Core.Path.{◌≡◌, refl, sym, ap, ◌∙◌, subst}
use Prim.Native.Nat.{ℕ, zero, suc, ◌+◌, ◌*◌, ◌/◌, ◌^◌, ◌<◌, ◌≤◌, zero-le}
use native.Mathlib.Nat.{zero-div, suc-mul, div-mul-le_self, lt-div-mul-add, le-div_iff_mul-le, div-lt_iff_lt-mul}
use native.Mathlib.Omega.{arith}
use mathlib.Core.Bool.{Bool, true, false}
use lib.IntN.{ℤ, pos, neg_ℤ}
use lib.Dec.{T, lit<}
use lib.Ieee.{Float, nan, inf, fin, neg, le, up, down}
use lib.Ieee.Exact.{HasValue}
use lib.Ieee.Fits.{down_pos}
use lib.Ieee.Scale.{finite}
use lib.Pow.{pow_pos}
use Rattle.rounding.proofs.Signed.{le_of_signed, signed_of_le, le_neg}
use Rattle.rounding.proofs.Order.{between_finite}
use Rattle.rounding.proofs.Odd.{neg_neg}
use Rattle.rounding.proofs.Range.{In}
use Rattle.whole.specs.Whole.{signed, whole_s}
use Rattle.whole.proofs.WholeLaws.{whole_value, whole_neg}

-- the whole number ±n
abbrev pub number : Bool → ℕ → Float
number s n = fin s n (pos 0)

number_value : (s : Bool) (n : ℕ) → HasValue (number s n) s n 1
number_value s n = (refl, omega arith)

-- whole_s x is q, from a to b, and x lies from q to below q + 1
pub record Plus (a b : ℕ) (x : Float) : Type 0 where
  pub q : ℕ
  pub is : whole_s x ≡ pos q
  pub from : a ≤ q
  pub upto : q ≤ b
  pub reached : T (le (number false q) x)
  pub short : T (le (number false (suc q)) x) → ⊥

-- whole_s x is -q, q from a to b, and x lies above -(q + 1), up to -q
pub record Minus (a b : ℕ) (x : Float) : Type 0 where
  pub q : ℕ
  pub is : whole_s x ≡ neg_ℤ (pos q)
  pub from : a ≤ q
  pub upto : q ≤ b
  pub reached : T (le x (number true q))
  pub short : T (le x (number true (suc q))) → ⊥

-- M / D from a to b, for M from a * D to b * D
between : (a b M D : ℕ) → 0 < D → a * D ≤ M → M ≤ b * D → (a ≤ M / D) × (M / D ≤ b)
between a b M D d h k =
    ((le-div_iff_mul-le d).1 h, le-of-lt-suc ((div-lt_iff_lt-mul d).1 (next (suc-mul b D))))
  where
    next : suc b * D ≡ b * D + D → M < suc b * D
    next e = omega arith

    le-of-lt-suc : {q : ℕ} → q < suc b → q ≤ b
    le-of-lt-suc h = omega arith

plus : (a b : ℕ) (m : ℕ) (e : ℤ) → b < 2 ^ 31 → a * down e ≤ m * up e → m * up e ≤ b * down e → Plus a b (fin false m e)
plus a b m e B h k =
    let M = m * up e in
    let D = down e in
    let n = M / D in
    let w = between a b M D (down_pos e) h k in
    record {
      q = n;
      is = whole_value (fin false m e) false M D (down_pos e) (refl, refl) (omega arith);
      from = w.0;
      upto = w.1;
      reached =
          le_of_signed (number false n) (fin false m e) false n 1 false M D (pow_pos 0) (down_pos e) (number_value false n) (refl, refl)
          (tidy (n * D) M D (div-mul-le_self M D));
      short =
          λ t. clash n M D (lt-div-mul-add (down_pos e))
          (signed_of_le (number false (suc n)) (fin false m e) false (suc n) 1 false M D (number_value false (suc n)) (refl, refl) t);
    }
  where
    tidy : (n M D : ℕ) → n ≤ M → n + 0 * 1 ≤ M * 1 + 0 * D
    tidy n M D h = omega arith

    clash : (q M D : ℕ) → M < q * D + D → suc q * D + 0 * 1 ≤ M * 1 + 0 * D → ⊥
    clash q M D h k = let p = suc-mul q D in omega arith

-- -0 is the one value with a minus sign from 0 on
minus_zero : (a b : ℕ) (m : ℕ) (e : ℤ) → a * down e + m * up e * 1 ≤ 0 * 1 + 0 * down e → Plus a b (fin true m e)
minus_zero (suc a) b m e h = absurd (clash (suc-mul a (down e)) (down_pos e))
  where
    clash : suc a * down e ≡ a * down e + down e → 0 < down e → ⊥
    clash p d = omega arith
minus_zero zero b m e h =
    let M = m * up e in
    let D = down e in
    let none : M ≡ 0 = omega arith in
    let part : M / D ≡ 0 = rw none (zero-div D) in
    record {
      q = 0;
      is = whole_value (fin true m e) true M D (down_pos e) (refl, refl) (rw part (lit< tt)) ∙ ap (signed true) part;
      from = zero-le;
      upto = zero-le;
      reached =
          le_of_signed (number false 0) (fin true m e) false 0 1 true M D (pow_pos 0) (down_pos e) (number_value false 0) (refl, refl)
          (tidy M D none);
      short =
          λ t. clash M D (down_pos e)
          (signed_of_le (number false 1) (fin true m e) false 1 1 true M D (number_value false 1) (refl, refl) t);
    }
  where
    tidy : (M D : ℕ) → M ≡ 0 → 0 * D + M * 1 ≤ 0 * 1 + 0 * D
    tidy M D h = omega arith

    clash : (M D : ℕ) → 0 < D → 1 * D + M * 1 ≤ 0 * 1 + 0 * D → ⊥
    clash M D d h = omega arith

-- the whole part of a value from a to b
pub whole_plus : (a b : ℕ) (x : Float) → b < 2 ^ 31 → In (number false a) (number false b) x → Plus a b x
whole_plus a b x B i = go x (between_finite (number false a) x (number false b) tt tt i.0 i.1) i
  where
    go : (x : Float) → T (finite x) → In (number false a) (number false b) x → Plus a b x
    go nan X i = absurd X
    go (inf s) X i = absurd X
    go (fin true m e) X i =
        minus_zero a b m e
        (signed_of_le (number false a) (fin true m e) false a 1 true (m * up e) (down e) (number_value false a) (refl, refl) i.0)
    go (fin false m e) X i =
        let M = m * up e in
        let D = down e in
        plus a b m e B
        (low (a * D) M D
        (signed_of_le (number false a) (fin false m e) false a 1 false M D (number_value false a) (refl, refl) i.0))
        (high (b * D) M D
        (signed_of_le (fin false m e) (number false b) false M D false b 1 (refl, refl) (number_value false b) i.1))
      where
        low : (n M D : ℕ) → n + 0 * 1 ≤ M * 1 + 0 * D → n ≤ M
        low n M D h = omega arith

        high : (n M D : ℕ) → M * 1 + 0 * D ≤ n + 0 * 1 → M ≤ n
        high n M D h = omega arith

-- the whole part of a value from -b to -a
pub whole_minus : (a b : ℕ) (x : Float) → b < 2 ^ 31 → In (number true b) (number true a) x → Minus a b x
unfolding neg
whole_minus a b x B i =
    let p = whole_plus a b (neg x) B (le_neg x (number true a) i.1, le_neg (number true b) x i.0) in
    record {
      q = p.q;
      is = ap whole_s (sym (neg_neg x)) ∙ whole_neg (neg x) ∙ ap neg_ℤ p.is;
      from = p.from;
      upto = p.upto;
      reached = subst (λ (z : Float). T (le z (number true p.q))) (neg_neg x) (le_neg (number false p.q) (neg x) p.reached);
      short = λ t. p.short (le_neg x (number true (suc p.q)) t);
    }
