-- floor by the value of x = ±d / w, over the format:
--   `stays`: a whole x stays, and has the value of its whole part (`whole_value`); `falls`: any other goes to the y whose size is next (`size_below`);
--   `floor_part`, `floor_plus`: the value of the floor, of an x that is not whole and of one with no minus sign;
--   `rest_same`: two fractions of one value both leave a remainder, or neither does;
--   `floor_own`, `floor_same`, `floor_differs`, `floor_whole`: the test x == floor(x) holds of the whole numbers and of no others;
--   `floor_at_most`: the floor is at most x; `floor_inf`: an infinity stays; `floor_number`: the floor of a number is a number.
-- Assumes nothing.
use Rattle.std.proofs.Common.{◌≡◌, ℕ, zero, suc, ◌+◌, ◌-◌, ◌*◌, ◌/◌, ◌%◌, ◌^◌, ◌<◌, ◌≤◌, Bool, true, false, cond, not, T, eqb, ℤ, pos, negsuc, sym, refl, ap, ◌∙◌, subst, inl, inr, true≢false, lt_of_lt_of_le, le_of_lt, lt_irrefl, mod-lt, zero-lt-suc, suc-mul, div-lt_iff_lt-mul, add-mul, eq-zero-or-pos, mul-pos, div-add-mod', zero-mul, mul-one, mul_right_comm, arith, pow_pos, pow_mono, eq-eqb, ne_eqb}
use native.Mathlib.Nat.{mul-mod_left, mod-one, pow-succ'}
use lib.Ieee.{Float, nan, inf, fin, Format, binary32, binary64, prec, up, down, round, of_int, is_nan, eq, le, fits}
use lib.Ieee.Back.{round_whole, whole_unique}
use lib.Ieee.Exact.{HasValue}
use lib.Ieee.Fits.{down_pos, of_int-fits}
use lib.Ieee.Nearest.{div_same}
use Rattle.rounding.proofs.Signed.{Signed, value_shorter, round_signed}
use Rattle.rounding.proofs.Order.{le_refl, eq_values}
use Rattle.rounding.proofs.Grid.{on_grid}
use Rattle.rounding.proofs.Exact.{round_at_most}
use Rattle.floor.specs.Floor.{floor_s, below}

-- ---- floor of an x whose size is d / w, for any such fraction
-- equal fractions leave remainders in the same proportion
rests : (a b c d q : ℕ) → a / b ≡ q → c / d ≡ q → a * d ≡ c * b → a % b * d ≡ c % d * b
rests a b c d q e f h =
    let x : q * b * d + a % b * d ≡ a * d = sym (add-mul (q * b) (a % b) d) ∙ ap (λ (z : ℕ). z * d) (ap (λ (z : ℕ). z * b + a % b) (sym e) ∙ div-add-mod' a b) in
    let y : q * d * b + c % d * b ≡ c * b = sym (add-mul (q * d) (c % d) b) ∙ ap (λ (z : ℕ). z * b) (ap (λ (z : ℕ). z * d + c % d) (sym f) ∙ div-add-mod' c d) in
    let s : q * b * d ≡ q * d * b = mul_right_comm q b d in
    omega arith

both : (r t b d : ℕ) → 0 < b → 0 < d → r * d ≡ t * b → eqb r 0 ≡ eqb t 0
both zero zero b d B D h = refl
both zero (suc t) b d B D h = absurd (lt_irrefl 0 (subst (λ (n : ℕ). 0 < n) (sym h ∙ zero-mul d) (mul-pos (zero-lt-suc t) B)))
both (suc r) zero b d B D h = absurd (lt_irrefl 0 (subst (λ (n : ℕ). 0 < n) (h ∙ zero-mul b) (mul-pos (zero-lt-suc r) D)))
both (suc r) (suc t) b d B D h = ne_eqb (suc r) 0 (λ e. omega (arith, e)) ∙ sym (ne_eqb (suc t) 0 (λ e. omega (arith, e)))

-- so both leave none or neither does
pub rest_same : (a b c d : ℕ) → 0 < b → 0 < d → a * d ≡ c * b → eqb (a % b) 0 ≡ eqb (c % d) 0
rest_same a b c d B D h = both (a % b) (c % d) b d B D (rests a b c d (c / d) (div_same a b c d B D h) refl h)

floor_at : (f : Format) (x : Float) (s : Bool) (d w : ℕ) → 0 < w → HasValue x s d w → floor_s f x ≡ cond (eqb (d % w) 0) x (of_int f (below s (d / w)))
unfolding floor_s
floor_at f nan s d w W v = elim v [ ]
floor_at f (inf _) s d w W v = elim v [ ]
floor_at f (fin t m e) s d w W v =
    let q = div_same (m * up e) (down e) d w (down_pos e) W v.1 in
    let r = rest_same (m * up e) (down e) d w (down_pos e) W v.1 in
    ap (λ (k : Bool). cond k (fin t m e) (of_int f (below t (m * up e / down e)))) r
    ∙ ap (λ (k : ℕ). cond (eqb (d % w) 0) (fin t m e) (of_int f (below t k))) q
    ∙ ap (λ (k : Bool). cond (eqb (d % w) 0) (fin t m e) (of_int f (below k (d / w)))) v.0

-- a whole x stays
pub stays : (f : Format) (x : Float) (s : Bool) (d w : ℕ) → 0 < w → HasValue x s d w → d % w ≡ 0 → x ≡ floor_s f x
stays f x s d w W v h = sym (floor_at f x s d w W v ∙ rw (eq-eqb (d % w) 0 h))

-- an infinity stays
pub floor_inf : (f : Format) (s : Bool) → floor_s f (inf s) ≡ inf s
unfolding floor_s
floor_inf f s = refl

-- a number stays a number
pub floor_number : (f : Format) (x : Float) → T (not (is_nan x)) → T (not (is_nan (floor_s f x)))
unfolding is_nan floor_s
floor_number f nan h = h
floor_number f (inf s) h = tt
floor_number f (fin s m e) h = go (eqb (m * up e % down e) 0) (below s (m * up e / down e))
  where
    rounded : (s : Bool) (x : Float) → Signed s x → T (not (is_nan x))
    rounded s nan k = absurd k
    rounded s (inf t) k = tt
    rounded s (fin t n d) k = tt

    go : (b : Bool) (z : ℤ) → T (not (is_nan (cond b (fin s m e) (of_int f z))))
    go true z = tt
    go false (pos n) = unfold of_int in rounded false (round f false n 1) (round_signed f false n 1)
    go false (negsuc n) = unfold of_int in rounded true (round f true (suc n) 1) (round_signed f true (suc n) 1)

-- the size of the whole number next below ±(q and a fraction)
abbrev pub size_below : Bool → ℕ → ℕ
size_below s q = cond s (suc q) q

below_value : (f : Format) (s : Bool) (q : ℕ) → q < 2 ^ prec f → HasValue (of_int f (below s q)) s (size_below s q) 1
unfolding of_int
below_value f true q h = round_whole f true (suc q) h
below_value f false q h = round_whole f false q (le_of_lt h)

module _ (f : Format) (x : Float) (s : Bool) (d w : ℕ) (W : 0 < w) (v : HasValue x s d w) (broken : d % w ≡ 0 → ⊥) (l : d / w < 2 ^ prec f) where
  broken_is : floor_s f x ≡ of_int f (below s (d / w))
  broken_is = floor_at f x s d w W v ∙ rw (ne_eqb (d % w) 0 broken)

  -- the value of the floor of an x that is not whole
  pub floor_part : HasValue (floor_s f x) s (size_below s (d / w)) 1
  floor_part = rw broken_is (below_value f s (d / w) l)

  -- such an x falls to the y of the next size
  pub falls : (y : Float) → T (fits f y) → HasValue y s (size_below s (d / w)) 1 → y ≡ floor_s f x
  falls y F u =
      sym (broken_is
      ∙ whole_unique f (of_int f (below s (d / w))) y s (size_below s (d / w)) (of_int-fits f (below s (d / w))) F (below_value f s (d / w) l) u)

-- the value of a whole x, as a whole number
pub whole_value : (x : Float) (s : Bool) (d w : ℕ) → 0 < w → HasValue x s d w → d % w ≡ 0 → HasValue x s (d / w) 1
whole_value x s d w W v z =
    let quotient : d ≡ d / w * w = omega (arith, div-add-mod' d w) in
    let one-times : w ≡ 1 * w = omega arith in
    value_shorter x s (d / w) 1 w W (subst (λ (n : ℕ). HasValue x s (d / w * w) n) one-times (subst (λ (n : ℕ). HasValue x s n w) quotient v))

-- the value of the floor of an x with no minus sign
pub floor_plus : (f : Format) (x : Float) (d w : ℕ) → 0 < w → HasValue x false d w → d / w < 2 ^ prec f → HasValue (floor_s f x) false (d / w) 1
floor_plus f x d w W v l =
    elim (eq-zero-or-pos (d % w)) [
      | inl z ↦ subst (λ (y : Float). HasValue y false (d / w) 1) (stays f x false d w W v z) (whole_value x false d w W v z)
      | inr p ↦ floor_part f x false d w W v (λ z. lt_irrefl 0 (subst (λ (n : ℕ). 0 < n) z p)) l
    ]

-- ---- the test x == floor(x), for x = ±(m * up e) / (down e)

-- the whole part of an x that is not whole has a digit less than the format
pub part_small : (f : Format) (s : Bool) (m : ℕ) (e : ℤ) → T (fits f (fin s m e)) → (m * up e % down e ≡ 0 → ⊥) → m * up e / down e < 2 ^ (prec f - 1)
part_small f s m (pos k) F h = absurd (h (mod-one (m * up (pos k))))
part_small f s m (negsuc k) F h =
    (div-lt_iff_lt-mul (pow_pos (suc k))).1 (wide f m (2 ^ k) (2 ^ suc k) (on_grid f s m (negsuc k) F).1.1 (pow_pos k) (pow-succ' 2 k))
  where
    wide : (f : Format) (m A B : ℕ) → m < 2 ^ prec f → 0 < A → B ≡ 2 * A → m * 1 < 2 ^ (prec f - 1) * B
    wide binary32 m A B h p e = omega arith
    wide binary64 m A B h p e = omega arith

module _ (f : Format) (s : Bool) (m : ℕ) (e : ℤ) where
  -- what is its own floor passes
  pub floor_own : fin s m e ≡ floor_s f (fin s m e) → eq (fin s m e) (floor_s f (fin s m e)) ≡ true
  floor_own h =
      ap (eq (fin s m e)) (sym h)
      ∙ eq_values (fin s m e) (fin s m e) s (m * up e) (down e) (m * up e) (down e) (down_pos e) (down_pos e) (refl, refl) (refl, refl)
      ∙ eq-eqb (m * up e * down e) (m * up e * down e) refl

  -- as a whole number is
  pub floor_same : m * up e % down e ≡ 0 → eq (fin s m e) (floor_s f (fin s m e)) ≡ true
  floor_same h = floor_own (stays f (fin s m e) s (m * up e) (down e) (down_pos e) (refl, refl) h)

  module _ (F : T (fits f (fin s m e))) where
    -- any other number differs from it
    pub floor_differs : (m * up e % down e ≡ 0 → ⊥) → eq (fin s m e) (floor_s f (fin s m e)) ≡ false
    floor_differs h =
        let M = m * up e in
        let D = down e in
        let n = size_below s (M / D) in
        eq_values (fin s m e) (floor_s f (fin s m e)) s M D n 1 D-pos (pow_pos 0) (refl, refl)
        (floor_part f (fin s m e) s M D D-pos (refl, refl) h (lt_of_lt_of_le (part_small f s m e F h) (pow_mono (less (prec f)))))
        ∙ ne_eqb (M * 1) (n * D) (λ (z : M * 1 ≡ n * D). h (ap (λ (k : ℕ). k % D) (sym (mul-one M) ∙ z) ∙ mul-mod_left n D))
      where
        D-pos : 0 < down e
        D-pos = down_pos e

        less : (p : ℕ) → p - 1 ≤ p
        less p = omega arith

    -- so what passes the test is whole
    pub floor_whole : eq (fin s m e) (floor_s f (fin s m e)) ≡ true → m * up e % down e ≡ 0
    floor_whole t =
        elim (eq-zero-or-pos (m * up e % down e)) [
          | inl z ↦ z
          | inr p ↦ absurd (true≢false (sym t ∙ floor_differs (λ z. lt_irrefl 0 (subst (λ (n : ℕ). 0 < n) z p))))
        ]

    -- ---- the floor is at most x
    pub floor_at_most : T (le (floor_s f (fin s m e)) (fin s m e))
    unfolding floor_s
    floor_at_most = go (eqb (m * up e % down e) 0) s F
      where
        go : (b : Bool) (s : Bool) → T (fits f (fin s m e)) → T (le (cond b (fin s m e) (of_int f (below s (m * up e / down e)))) (fin s m e))
        go true s F = le_refl (fin s m e) tt
        go false false F =
            unfold of_int in
            round_at_most f false (m * up e / down e) 1 false m e F (omega arith)
            (let a = div-add-mod' (m * up e) (down e) in omega arith)
        go false true F =
            unfold of_int in
            round_at_most f true (suc (m * up e / down e)) 1 true m e F (omega arith)
            (let a = div-add-mod' (m * up e) (down e) in
            let b = mod-lt (m * up e) (down_pos e) in
            let c = suc-mul (m * up e / down e) (down e) in
            omega arith)
