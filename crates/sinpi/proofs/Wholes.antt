-- x mod 2 of a whole number is 0 or 1, over the format (`whole_turn`); and what a whole number and one that is none are in units. Assumes nothing.
use mathlib.Core.Path.{◌≡◌, refl, sym, ap, ◌∙◌, subst}
use mathlib.Core.Logic.{◌⊎◌, inl, inr}
use Prim.Native.Nat.{ℕ, zero, suc, ◌+◌, ◌-◌, ◌*◌, ◌/◌, ◌%◌, ◌^◌, ◌≤◌, ◌<◌}
use native.Mathlib.Nat.{lt_of_lt_of_le, zero-mul, one-mul, mul-one, mul_assoc, mul_right_comm, mul-le-mul_left, mul-lt-mul_of_pos_right}
use native.Mathlib.Nat.{div-lt_iff_lt-mul, div-add-mod', mod-lt, mul-mod_left, eq_of_mul-eq-mul_right, add-mul, add-zero, le_refl}
use native.Mathlib.Omega.{arith}
use mathlib.Core.Bool.{Bool, true, false, not}
use lib.IntN.{ℤ, pos}
use lib.Dec.{T, ltb, ltb→lt, nltb→le}
use lib.Pow.{pow_pos, pow_mono}
use lib.Ieee.{Float, fin, Format, binary32, binary64, sub, mul, fits, low, prec, emax, up, down}
use lib.Ieee.Exact.{HasValue}
use lib.Ieee.Fits.{down_pos, mul-fits, sub-fits}
use Rattle.rounding.proofs.Exact.{Representable, sub_exact}
use Rattle.rounding.proofs.Relative.{zero+, one+}
use Rattle.rounding.proofs.Grid.{OnGrid, on_grid, spare, pow_multiple}
use Rattle.floor.specs.Floor.{floor_s}
use Rattle.words.proofs.PatternLaws.{same_value}
use Rattle.floor.proofs.FloorValues.{stays}
use Rattle.sinpi.proofs.Exactness.{mod_unique, half+, turn_of, half_value, turn_value, turn_is}

-- ---- X mod 2 L by the quotient and the rest of X by L
pub even_rest : (X L : ℕ) → 0 < L → X / L % 2 ≡ 0 → X % (2 * L) ≡ X % L
even_rest X L l h = mod_unique X (X / L / 2) (2 * L) (X % L) (sum (X / L) (X / L / 2) (X % L) (div-add-mod' X L) (div-add-mod' (X / L) 2) h) (wide (X % L) (mod-lt X l))
  where
    wide : (r : ℕ) → r < L → r < 2 * L
    wide r k = omega arith

    sum : (d e r : ℕ) → d * L + r ≡ X → e * 2 + d % 2 ≡ d → d % 2 ≡ 0 → X ≡ r + e * (2 * L)
    sum d e r p q k =
        let a : e * 2 * L ≡ d * L = ap (λ (z : ℕ). z * L) (omega arith) in
        let b = mul_assoc e 2 L in
        omega arith

pub odd_rest : (X L : ℕ) → 0 < L → X / L % 2 ≡ 1 → X % (2 * L) ≡ L + X % L
odd_rest X L l h = mod_unique X (X / L / 2) (2 * L) (L + X % L) (sum (X / L) (X / L / 2) (X % L) (div-add-mod' X L) (div-add-mod' (X / L) 2) h) (wide (X % L) (mod-lt X l))
  where
    wide : (r : ℕ) → r < L → L + r < 2 * L
    wide r k = omega arith

    sum : (d e r : ℕ) → d * L + r ≡ X → e * 2 + d % 2 ≡ d → d % 2 ≡ 1 → X ≡ L + r + e * (2 * L)
    sum d e r p q k =
        let a : (e * 2 + 1) * L ≡ d * L = ap (λ (z : ℕ). z * L) (omega arith) in
        let b = mul_assoc e 2 L in
        let c = add-mul (e * 2) 1 L in
        omega arith

-- ---- x as X = m * 2 ^ J units
pub fraction_deep : (m J l : ℕ) → (m * 2 ^ J % 2 ^ l ≡ 0 → ⊥) → J < l
fraction_deep m J l h = go (ltb J l) (ltb→lt J l) (nltb→le J l)
  where
    go : (b : Bool) → (T b → J < l) → (T (not b) → l ≤ J) → J < l
    go true p q = p tt
    go false p q = absurd (h (pow_multiple m J l (q tt)))

pub few : (m j l p : ℕ) → m < 2 ^ p → j ≤ l → m * 2 ^ j / 2 ^ l < 2 ^ p
few m j l p h k =
    (div-lt_iff_lt-mul (pow_pos l)).1
    (lt_of_lt_of_le (mul-lt-mul_of_pos_right h (pow_pos j)) (mul-le-mul_left (2 ^ p) (pow_mono k)))

-- no rest of X by L, no rest of the fraction W / D that it equals
pub no_rest : (W D X L : ℕ) → 0 < L → W * L ≡ X * D → X % L ≡ 0 → W % D ≡ 0
no_rest W D X L l e h =
    let q : X ≡ X / L * L = sym (sym (ap (λ (z : ℕ). X / L * L + z) h) ∙ div-add-mod' X L) ∙ add-zero (X / L * L) in
    let w : W ≡ X / L * D = eq_of_mul-eq-mul_right L l W (X / L * D) (e ∙ ap (λ (z : ℕ). z * D) q ∙ mul_right_comm (X / L) L D) in
    ap (λ (z : ℕ). z % D) w ∙ mul-mod_left (X / L) D

-- ---- 0 and 1
zero_value : (f : Format) → HasValue zero+ false 0 (2 ^ low f)
zero_value f = (refl, zero-mul (2 ^ low f))

one_value : (f : Format) → HasValue one+ false (2 ^ low f) (2 ^ low f)
one_value f = (refl, one-mul (2 ^ low f) ∙ sym (mul-one (2 ^ low f)))

one_fits : (f : Format) → T (fits f one+)
unfolding fits
one_fits binary32 = tt
one_fits binary64 = tt

zero_fits : (f : Format) → T (fits f zero+)
unfolding fits
zero_fits f = tt

turn_same : (f : Format) (x y : Float) (Y A : ℕ) → T (fits f y) → HasValue y false A (2 ^ low f) → Y ≡ A → HasValue (turn_of f x) false Y (2 ^ low f)
    → turn_of f x ≡ y
turn_same f x y Y A F w e v =
    same_value f (turn_of f x) y false A (2 ^ low f) (pow_pos (low f)) (mul-fits f (fin false 1 (pos 1)) _) F
    (subst (λ (z : ℕ). HasValue (turn_of f x) false z (2 ^ low f)) e v) w

-- x - x is +0
pub sub_self : (f : Format) (x : Float) (A : ℕ) → HasValue x false A (2 ^ low f) → sub f x x ≡ zero+
sub_self f x A v =
    let L = 2 ^ low f in
    let r : Representable f 0 (A - A) =
    (0, self A, pow_pos (prec f), subst (λ (z : ℕ). z < 2 ^ (low f + suc (emax f))) (sym (self A)) (pow_pos (low f + suc (emax f)))) in
    same_value f (sub f x x) zero+ false 0 L (pow_pos (low f)) (sub-fits f x x) (zero_fits f)
    (subst (λ (z : ℕ). HasValue (sub f x x) false z L) (self A) (sub_exact f x x A A 0 v v (le_refl A) r)) (zero_value f)
  where
    self : (a : ℕ) → a - a ≡ 0
    self a = omega arith

-- a multiple of 2 L, which x / 2 and its floor are both half of
far_zero : (f : Format) (x : Float) (m j : ℕ) → HasValue x false (m * 2 ^ suc j) (2 ^ low f) → m < 2 ^ prec f
    → m * 2 ^ suc j < 2 ^ (low f + suc (emax f)) → low f ≤ j → turn_of f x ≡ zero+
far_zero f x m j v small fine far =
    let A = m * 2 ^ j in
    let h = mul f x half+ in
    let a : HasValue h false A (2 ^ low f) = half_value f x m j v small fine in
    let k : h ≡ floor_s f h = stays f h false A (2 ^ low f) (pow_pos (low f)) a (pow_multiple m j (low f) far) in
    ap (λ (y : Float). mul f (fin false 1 (pos 1)) (sub f h y)) (sym k)
    ∙ ap (λ (y : Float). mul f (fin false 1 (pos 1)) y) (sub_self f h A a)
    ∙ double f
  where
    double : (f : Format) → mul f (fin false 1 (pos 1)) zero+ ≡ zero+
    double binary32 = unfold mul in refl
    double binary64 = unfold mul in refl

units_whole : (f : Format) (m : ℕ) (e : ℤ) (J : ℕ) → 0 < J → OnGrid f m e J → m * 2 ^ J % 2 ^ low f ≡ 0
    → (turn_of f (fin false m e) ≡ zero+) ⊎ (turn_of f (fin false m e) ≡ one+)
units_whole f m e zero p g h = absurd (omega arith)
units_whole f m e (suc j) p g h = near (ltb j (low f)) (ltb→lt j (low f)) (nltb→le j (low f))
  where
    less : (j l : ℕ) → j < l → j ≤ l
    less j l h = omega arith

    parity : (d : ℕ) → (d % 2 ≡ 0) ⊎ (d % 2 ≡ 1)
    parity d = go (d % 2) (mod-lt d (omega arith))
      where
        go : (r : ℕ) → r < 2 → (r ≡ 0) ⊎ (r ≡ 1)
        go zero h = inl refl
        go (suc zero) h = inr refl
        go (suc (suc r)) h = absurd (omega arith)

    near : (b : Bool) → (T b → j < low f) → (T (not b) → low f ≤ j) → (turn_of f (fin false m e) ≡ zero+) ⊎ (turn_of f (fin false m e) ≡ one+)
    near false p q = inl (far_zero f (fin false m e) m j (refl, g.0) g.1 g.2 (q tt))
    near true p q =
        let x = fin false m e in
        let X = m * 2 ^ suc j in
        let L = 2 ^ low f in
        let l = pow_pos (low f) in
        let v : HasValue x false X L = (refl, g.0) in
        let within = less j (low f) (p tt) in
        let thin = few m j (low f) (prec f) g.1 within in
        let t = turn_is f x m j v g.1 g.2 within thin in
        let y = turn_value f x m j v g.1 g.2 within thin in
        elim (parity (X / L)) [
          | inl d ↦ inl (turn_same f x zero+ _ 0 (zero_fits f) (zero_value f) (sym t ∙ even_rest X L l d ∙ h) y)
          | inr d ↦ inr (turn_same f x one+ _ L (one_fits f) (one_value f) (sym t ∙ odd_rest X L l d ∙ ap (λ (z : ℕ). L + z) h ∙ add-zero L) y)
        ]

-- for an x of 2 ^ -n or more that is a whole number
pub whole_turn : (f : Format) (m : ℕ) (e : ℤ) (n : ℕ) → T (fits f (fin false m e)) → down e ≤ m * up e * 2 ^ n
    → ((J : ℕ) → low f < prec f + J + n → 0 < J) → m * up e % down e ≡ 0
    → (turn_of f (fin false m e) ≡ zero+) ⊎ (turn_of f (fin false m e) ≡ one+)
whole_turn f m e n F h room w =
    let G = on_grid f false m e F in
    let J = G.0 in
    let g = G.1 in
    units_whole f m e J (room J (spare f m e J n g h)) g
    (no_rest (m * 2 ^ J) (2 ^ low f) (m * up e) (down e) (down_pos e) (sym g.0) w)
