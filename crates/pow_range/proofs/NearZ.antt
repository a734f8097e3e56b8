-- n = [z + 0.5], as `pow_exp::exp2` takes it from the high word i of z's size, is near z. In the digits of i a unit of n is 2 h, and
-- z, cut to its high word, is M: `n_near` says that n units are within h of M. Assumes nothing.
use Prim.Native.Nat.{ℕ, ◌+◌, ◌-◌, ◌*◌, ◌/◌, ◌%◌, ◌^◌, ◌≤◌, ◌<◌}
use mathlib.Core.Path.{◌≡◌, refl, sym, ap, ◌∙◌, subst}
use mathlib.Core.Bool.{Bool, true, false}
use native.Mathlib.Omega.{arith}
use native.Mathlib.Nat.{div-add-mod', mod-lt, div-eq_of_lt-le, div-le_self, mul-div_left, mul_left_comm, mul_comm, mul_assoc, add-mul, one-mul, mul-le-mul_right, le_of_lt}
use lib.Dec.{ltb}
use lib.Pow.{pow_pos, pow-add}
use borrow.Author.Tests.{ltb-true, ltb-false}
use Rattle.pow_exp.proofs.Half.{half, below, amount}

-- 2 ^ 20 is 2 ^ (20 - e) times 2 ^ e
split : (e : ℕ) → e ≤ 20 → 2 ^ (20 - e) * 2 ^ e ≡ 0x100000
split e h =
    let s : 20 - e + e ≡ 20 = omega arith in
    sym (pow-add 2 (20 - e) e) ∙ ap (λ (k : ℕ). 2 ^ k) s

half_is : (e : ℕ) → e ≤ 20 → 0x100000 / 2 ^ e ≡ 2 ^ (20 - e)
half_is e h = ap (λ (m : ℕ). m / 2 ^ e) (sym (split e h)) ∙ mul-div_left (2 ^ (20 - e)) (pow_pos e)

pub double : (k : ℕ) → 2 ^ (k + 1) ≡ 2 * 2 ^ k
double k = pow-add 2 k 1 ∙ swap (2 ^ k)
  where
    swap : (a : ℕ) → a * 2 ≡ 2 * a
    swap a = omega arith

-- a quotient by b, times b, is at most the dividend, and less than b under it
quotient : (m b : ℕ) → 0 < b → (m / b * b ≤ m) × (m < m / b * b + b)
quotient m b B = let a = div-add-mod' m b in let c = mod-lt m B in (omega arith, omega arith)

-- M is 2 ^ 20 and the digits of i; n units, of 2 h each, are within h of it
abbrev pub Near : ℕ → ℕ → ℕ → Type 0
Near n h M = (n * (2 * h) ≤ M + h) × (M ≤ n * (2 * h) + h)

-- the exponent's field stays: n is the quotient of M + h by a unit
stays : (M h : ℕ) → 0 < h → Near ((M + h) / (2 * h)) h M
stays M h H =
    let B : 0 < 2 * h = omega arith in
    let q = quotient (M + h) (2 * h) B in
    (q.0, after ((M + h) / (2 * h) * (2 * h)) M h q.1)
  where
    after : (n M h : ℕ) → M + h < n + 2 * h → M ≤ n + h
    after n M h k = omega arith

-- the exponent's field grows by 1, where n is the power of 2 that M + h has reached
grows : (q h A : ℕ) → A * h ≡ 0x100000 → 0x100000 ≤ q + h → q < 0x100000 → Near ((q + h) / h) h (0x100000 + q)
grows q h A e g k =
    let above : q + h < (A + 1) * h = omega (arith, next A h) in
    let below : A * h ≤ q + h = omega arith in
    let n : (q + h) / h ≡ A = div-eq_of_lt-le h below above in
    let t : A * (2 * h) ≡ 0x200000 = twice A h ∙ ap (λ (m : ℕ). 2 * m) e in
    subst (λ (m : ℕ). Near m h (0x100000 + q)) (sym n) (omega arith, omega arith)
  where
    next : (A h : ℕ) → (A + 1) * h ≡ A * h + h
    next A h = simp (add-mul, one-mul)

    twice : (A h : ℕ) → A * (2 * h) ≡ 2 * (A * h)
    twice A h = mul_left_comm A 2 h

-- the exponent of z, counted from 1/2, and the digits of its high word
abbrev pub exponent : ℕ → ℕ
exponent j = j % 0x80000000 / 0x100000 - 0x3FE

abbrev digits : ℕ → ℕ
digits j = j % 0x80000000 % 0x100000

low_digits : (j : ℕ) → digits j ≡ j % 0x100000
low_digits j = omega arith

no_carry : (j h : ℕ) → j % 0x100000 + h < 0x100000 → (j + h) % 0x100000 + 0x100000 ≡ 0x100000 + j % 0x100000 + h
no_carry j h k = omega arith

carry : (j h : ℕ) → 0x100000 ≤ j % 0x100000 + h → h ≤ 0x100000 → (j + h) % 0x100000 + 0x100000 ≡ j % 0x100000 + h
carry j h k l = omega arith

-- n is taken from the high word j
module _ (j : ℕ) (low : 0x3FE00000 < j % 0x80000000) (high : j % 0x80000000 ≤ 0x4090CC00) where
  pub half_power : half j ≡ 2 ^ (20 - exponent j)
  half_power = half_is (exponent j) (omega arith)

  half_pos : 0 < half j
  half_pos = subst (λ (h : ℕ). 0 < h) (sym half_power) (pow_pos (20 - exponent j))

  half_le : half j ≤ 0x100000
  half_le = div-le_self 0x100000 (2 ^ (j % 0x80000000 / 0x100000 - 0x3FE))

  near_at : (t : Bool) → ltb (digits j + half j) 0x100000 ≡ t → Near (amount j) (half j) (0x100000 + digits j)
  near_at true e =
      let q : digits j + half j < 0x100000 = ltb-true (digits j + half j) 0x100000 e in
      let d : below j ≡ 20 - exponent j + 1 = omega (arith, half_le) in
      let unit : 2 ^ below j ≡ 2 * half j = ap (λ (k : ℕ). 2 ^ k) d ∙ double (20 - exponent j) ∙ ap (λ (h : ℕ). 2 * h) (sym half_power) in
      let m : (j + half j) % 0x100000 + 0x100000 ≡ 0x100000 + digits j + half j =
      subst (λ (k : ℕ). k + half j < 0x100000 → (j + half j) % 0x100000 + 0x100000 ≡ 0x100000 + k + half j) (sym (low_digits j)) (no_carry j (half j)) q in
      subst (λ (n : ℕ). Near n (half j) (0x100000 + digits j)) (sym (ap (λ (u : ℕ). ((j + half j) % 0x100000 + 0x100000) / u) unit ∙ ap (λ (k : ℕ). k / (2 * half j)) m))
      (stays (0x100000 + digits j) (half j) half_pos)
  near_at false e =
      let q : 0x100000 ≤ digits j + half j = ltb-false (digits j + half j) 0x100000 e in
      let d : below j ≡ 20 - exponent j = omega (arith, half_le) in
      let unit : 2 ^ below j ≡ half j = ap (λ (k : ℕ). 2 ^ k) d ∙ sym half_power in
      let m : (j + half j) % 0x100000 + 0x100000 ≡ digits j + half j =
      subst (λ (k : ℕ). 0x100000 ≤ k + half j → half j ≤ 0x100000 → (j + half j) % 0x100000 + 0x100000 ≡ k + half j) (sym (low_digits j)) (carry j (half j)) q half_le in
      let whole : 2 ^ (exponent j) * half j ≡ 0x100000 = ap (λ (h : ℕ). 2 ^ (exponent j) * h) half_power ∙ mul_comm (2 ^ (exponent j)) (2 ^ (20 - exponent j)) ∙ split (exponent j) (omega arith) in
      subst (λ (n : ℕ). Near n (half j) (0x100000 + digits j)) (sym (ap (λ (u : ℕ). ((j + half j) % 0x100000 + 0x100000) / u) unit ∙ ap (λ (k : ℕ). k / half j) m))
      (grows (digits j) (half j) (2 ^ (exponent j)) whole q (omega arith))

  pub n_near : Near (amount j) (half j) (0x100000 + j % 0x80000000 % 0x100000)
  n_near = near_at (ltb (digits j + half j) 0x100000) refl

-- ---- the same of values, in units of 1 / L

-- z is (M * 2 ^ 32 + lo) * g, and the high word's last digit is worth W: n is within 1/2 and W of z
pub value_near : (n h M lo g W L Z : ℕ) → Near n h M → W ≡ 0x100000000 * g → L ≡ 2 * h * W → Z ≡ (M * 0x100000000 + lo) * g → lo < 0x100000000
    → (2 * (n * L) ≤ 2 * Z + L) × (2 * Z ≤ 2 * (n * L) + L + 2 * W)
value_near n h M lo g W L Z k w l z s =
    let nL : n * L ≡ n * (2 * h) * W = ap (λ (m : ℕ). n * m) l ∙ sym (mul_assoc n (2 * h) W) in
    let Zw : Z ≡ M * W + lo * g = z ∙ add-mul (M * 0x100000000) lo g ∙ ap (λ (m : ℕ). m + lo * g) (mul_assoc M 0x100000000 g ∙ ap (λ (m : ℕ). M * m) (sym w)) in
    let up : n * (2 * h) * W ≤ (M + h) * W = mul-le-mul_right W k.0 in
    let down : M * W ≤ (n * (2 * h) + h) * W = mul-le-mul_right W k.1 in
    let rest : lo * g ≤ 0x100000000 * g = mul-le-mul_right g (le_of_lt s) in
    let up' = add-mul M h W in
    let down' = add-mul (n * (2 * h)) h W in
    let l' : 2 * h * W ≡ 2 * (h * W) = mul_assoc 2 h W in
    (omega arith, omega arith)
