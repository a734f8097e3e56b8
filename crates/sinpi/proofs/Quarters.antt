-- n by four tests of t = x mod 2, over the format: t is a NaN or at most 2 (`turn_at_most`), and (whole part of 4 t + 1) / 2 is 0 below 1/4, 1 below 3/4,
-- 2 below 5/4, 3 below 7/4, and 4 from there on. So each case of sinpi goes by a test (`case_0` to `case_4`). Assumes nothing.
use mathlib.Core.Path.{◌≡◌, refl, sym, ap, ◌∙◌, subst}
use mathlib.Core.Logic.{◌⊎◌, inl, inr}
use Prim.Native.Nat.{ℕ, zero, suc, ◌+◌, ◌-◌, ◌*◌, ◌/◌, ◌%◌, ◌^◌, ◌≤◌, ◌<◌}
use native.Mathlib.Nat.{le_of_eq, le_trans, lt_of_lt_of_le, mul-pos, mul_comm, mul_assoc, mul_right_comm, mul_left_comm, mul-one, one-mul, zero-mul, add-mul, mul-le-mul_right, le_of_mul-le-mul_right, div-add-mod', mod-lt, suc-mul, div-lt_iff_lt-mul, le-div_iff_mul-le, eq-zero-or-pos, zero-div}
use native.Mathlib.Omega.{arith}
use mathlib.Core.Bool.{Bool, true, false, not, true≢false}
use lib.IntN.{ℤ, pos, negsuc, nat_abs}
use lib.Dec.{T, lit<, lit≤}
use lib.Pow.{pow_pos, pow-add, pow_mono}
use lib.Ieee.{Float, nan, inf, fin, Format, binary32, binary64, prec, emax, low, up, down, round, add, sub, mul, neg, lt, le, fits, of_bits, of_int}
use lib.Ieee.Exact.{HasValue, round_exact}
use lib.Ieee.Fits.{down_pos, mul-fits}
use lib.Ieee.Scale.{finite}
use borrow.Author.Tests.{ltb-true, ltb-false}
use Rattle.rounding.proofs.Signed.{P, N, le→Le, round_zero}
use Rattle.rounding.proofs.Fraction.{add_fraction, mul_is, mul_commutes}
use Rattle.rounding.proofs.Monotone.{mul_mono_plus}
use Rattle.rounding.proofs.Grid.{on_grid}
use Rattle.rounding.proofs.Exact.{round_at_most}
use Rattle.rounding.proofs.Relative.{one+}
use Rattle.words.specs.F64.{◌⊖◌, ◌⊗◌, bits}
use Rattle.floor.specs.Floor.{floor_s}
use Rattle.whole.specs.Whole.{signed, whole_s}
use Rattle.floor.proofs.FloorValues.{size_below, stays, floor_part, part_small}
use Rattle.whole.proofs.WholeLaws.{whole_nan, whole_value}
use Rattle.sinpi.specs.Sinpi.{PI}
use Rattle.sinpi.proofs.Exactness.{half+, turn_of}
use Rattle.sinpi.proofs.Reduction.{NotBelow, part_not_below}
use Rattle.sinpi.proofs.Octants.{case}

-- ---- t is at most 2

-- ±Z is at most one below h = ±M / D
abbrev Within : Bool → ℕ → ℕ → ℕ → Type 0
Within false M D Z = M ≤ Z * D + D
Within true M D Z = Z * D ≤ M + D

one_fits : (f : Format) → T (fits f one+)
unfolding fits
one_fits binary32 = tt
one_fits binary64 = tt

sub_at_most : (f : Format) (s : Bool) (m : ℕ) (e : ℤ) (y : Float) (Z : ℕ) → HasValue y s Z 1 → Within s (m * up e) (down e) Z
    → T (le (sub f (fin s m e) y) one+)
unfolding sub neg
sub_at_most f s m e nan Z v h = absurd v
sub_at_most f s m e (inf t) Z v h = absurd v
sub_at_most f s m e (fin t n d) Z v h =
    let S = add_fraction f s m e (not t) n d in
    let u : n * up d ≡ Z * down d = sym (mul-one (n * up d)) ∙ v.1 in
    rw S.2 (round_at_most f S.0 S.1 (down e * down d) false 1 (pos 0) (one_fits f) (mul-pos (down_pos e) (down_pos d))
    (order s t (P S.0 S.1) (N S.0 S.1) v.0 u h S.3))
  where
    order : (s t : Bool) (p q : ℕ) → t ≡ s → n * up d ≡ Z * down d → Within s (m * up e) (down e) Z
        → p + (N s (m * up e) * down d + N (not t) (n * up d) * down e) ≡ q + (P s (m * up e) * down d + P (not t) (n * up d) * down e)
        → p * 1 + 0 * (down e * down d) ≤ 1 * (down e * down d) + q * 1
    order false false p q b u h k =
        let a : m * up e * down d ≤ (Z * down e + down e) * down d = mul-le-mul_right (down d) h in
        let c : (Z * down e + down e) * down d ≡ Z * down d * down e + down e * down d =
        add-mul (Z * down e) (down e) (down d) ∙ ap (λ (z : ℕ). z + down e * down d) (mul_right_comm Z (down e) (down d)) in
        let w : n * up d * down e ≡ Z * down d * down e = ap (λ (z : ℕ). z * down e) u in
        omega arith
    order true true p q b u h k =
        let a : Z * down e * down d ≤ (m * up e + down e) * down d = mul-le-mul_right (down d) h in
        let c : (m * up e + down e) * down d ≡ m * up e * down d + down e * down d = add-mul (m * up e) (down e) (down d) in
        let w : n * up d * down e ≡ Z * down e * down d = ap (λ (z : ℕ). z * down e) u ∙ mul_right_comm Z (down d) (down e) in
        omega arith
    order false true p q b u h k = absurd (true≢false b)
    order true false p q b u h k = absurd (true≢false (sym b))

-- the fraction of an h that fits
part_at_most : (f : Format) (s : Bool) (m : ℕ) (e : ℤ) → T (fits f (fin s m e)) → T (le (sub f (fin s m e) (floor_s f (fin s m e))) one+)
part_at_most f s m e F =
    elim (eq-zero-or-pos (m * up e % down e)) [
      | inl z ↦
          subst (λ (y : Float). T (le (sub f h y) one+)) (stays f h s (m * up e) (down e) (down_pos e) (refl, refl) z)
          (sub_at_most f s m e h (m * up e / down e) (refl, whole z) (near s z))
      | inr p ↦
          sub_at_most f s m e (floor_s f h) (size_below s (m * up e / down e))
          (floor_part f h s (m * up e) (down e) (down_pos e) (refl, refl) (broken p) (lt_of_lt_of_le (part_small f s m e F (broken p)) (pow_mono (less (prec f)))))
          (below s)
    ]
  where
    h : Float
    h = fin s m e

    broken : 0 < m * up e % down e → m * up e % down e ≡ 0 → ⊥
    broken p z = omega arith

    less : (p : ℕ) → p - 1 ≤ p
    less p = omega arith

    whole : m * up e % down e ≡ 0 → m * up e * 1 ≡ m * up e / down e * down e
    whole z = let a = div-add-mod' (m * up e) (down e) in omega arith

    near : (s : Bool) → m * up e % down e ≡ 0 → Within s (m * up e) (down e) (m * up e / down e)
    near false z = let a = div-add-mod' (m * up e) (down e) in omega arith
    near true z = let a = div-add-mod' (m * up e) (down e) in omega arith

    -- the next whole number below
    below : (s : Bool) → Within s (m * up e) (down e) (size_below s (m * up e / down e))
    below false = let a = div-add-mod' (m * up e) (down e) in let b = mod-lt (m * up e) (down_pos e) in omega arith
    below true =
        let a = div-add-mod' (m * up e) (down e) in
        let c : suc (m * up e / down e) * down e ≡ m * up e / down e * down e + down e = suc-mul (m * up e / down e) (down e) in
        omega arith

abbrev two+ : Float
two+ = fin false 1 (pos 1)

twice : (f : Format) → mul f one+ two+ ≡ two+
unfolding mul
twice binary32 = refl
twice binary64 = refl

up_to_one : (y : Float) → NotBelow y → T (le y one+) → T (finite y)
unfolding lt le
up_to_one nan b h = h
up_to_one (inf true) b h = absurd (subst T b tt)
up_to_one (inf false) b h = h
up_to_one (fin s m e) b h = tt

-- x mod 2 is a NaN, or at most 2
pub turn_at_most : (f : Format) (x : Float) → (turn_of f x ≡ nan) ⊎ T (le (turn_of f x) two+)
turn_at_most f x = go (mul f x half+) (mul-fits f x half+)
  where
    go : (h : Float) → T (fits f h) → (mul f two+ (sub f h (floor_s f h)) ≡ nan) ⊎ T (le (mul f two+ (sub f h (floor_s f h))) two+)
    go nan F = inl (unfold mul sub add in refl)
    go (inf true) F = inl (unfold mul sub add neg floor_s in refl)
    go (inf false) F = inl (unfold mul sub add neg floor_s in refl)
    go (fin s m e) F =
        let h = fin s m e in
        let y = sub f h (floor_s f h) in
        let l = part_at_most f s m e F in
        inr (subst (λ (z : Float). T (le z two+)) (mul_commutes f y two+)
        (subst (λ (z : Float). T (le (mul f y two+) z)) (twice f)
        (mul_mono_plus f y one+ 1 (pos 1) (up_to_one y (part_not_below f h F) l) tt l)))

-- ---- the whole part of four times t

-- n, over the format
abbrev pub quarter_of : Format → Float → ℕ
quarter_of f t = (nat_abs (whole_s (mul f (fin false 1 (pos 2)) t)) + 1) / 2

-- a / 4
abbrev cut : ℕ → Float
cut a = fin false a (negsuc 1)

-- 4 t is exact, for a t up to 2
four_exact : (f : Format) (m : ℕ) (e : ℤ) → T (fits f (fin false m e)) → m * up e ≤ 2 * down e
    → HasValue (mul f (fin false 1 (pos 2)) (fin false m e)) false (4 * (m * up e)) (down e)
four_exact f m e F h =
    let G = on_grid f false m e F in
    let j = G.0 in
    let L = 2 ^ low f in
    let D = down e in
    let units : m * 2 ^ j ≤ 2 * L =
    le_of_mul-le-mul_right (le_trans (le_of_eq (sym G.1.0)) (le_trans (mul-le-mul_right L h) (le_of_eq (mul_right_comm 2 D L)))) (down_pos e) in
    let more : m * 2 ^ (j + 2) ≡ 4 * (m * 2 ^ j) = ap (λ (z : ℕ). m * z) (pow-add 2 j 2 ∙ mul_comm (2 ^ j) 4) ∙ mul_left_comm m 4 (2 ^ j) in
    subst (λ (z : Float). HasValue z false (4 * (m * up e)) D)
    (sym (mul_is f false 1 (pos 2) false m e ∙ ap (λ (z : ℕ). round f false (4 * (m * up e)) z) (one-mul D)))
    (round_exact f false (4 * (m * up e)) D m (j + 2) (down_pos e) G.1.1
    (subst (λ (z : ℕ). z < 2 ^ (low f + suc (emax f))) (sym more) (wide f (m * 2 ^ j) units))
    (mul_assoc 4 (m * up e) L ∙ ap (λ (z : ℕ). 4 * z) G.1.0 ∙ sym (mul_assoc 4 (m * 2 ^ j) D) ∙ ap (λ (z : ℕ). z * D) (sym more)))
  where
    wide : (f : Format) (A : ℕ) → A ≤ 2 * 2 ^ low f → 4 * A < 2 ^ (low f + suc (emax f))
    wide f A h = go A (2 * 2 ^ low f) (2 ^ (low f + suc (emax f))) h (far f)
      where
        far : (f : Format) → 4 * (2 * 2 ^ low f) < 2 ^ (low f + suc (emax f))
        far binary32 = lit< tt
        far binary64 = lit< tt

        go : (A B O : ℕ) → A ≤ B → 4 * B < O → 4 * A < O
        go A B O h k = omega arith

-- q, the whole part of 4 t, for a t from a / 4 to below b / 4
abbrev Quarters : Format → Float → ℕ → ℕ → Type 0
Quarters f t a b = (q : ℕ) × (quarter_of f t ≡ (q + 1) / 2) × (a ≤ q) × (q < b)

counted : (f : Format) (m : ℕ) (e : ℤ) (a b : ℕ) → T (fits f (fin false m e)) → m * up e ≤ 2 * down e
    → a * down e ≤ 4 * (m * up e) → 4 * (m * up e) < b * down e → Quarters f (fin false m e) a b
counted f m e a b F h k l =
    let q = 4 * (m * up e) / down e in (
      q,
      ap (λ (z : ℤ). (nat_abs z + 1) / 2)
          (whole_value (mul f (fin false 1 (pos 2)) (fin false m e)) false (4 * (m * up e)) (down e) (down_pos e) (four_exact f m e F h)
          (far q ((div-lt_iff_lt-mul (down_pos e)).1 (nine (m * up e) (down e) h (down_pos e))))),
      (le-div_iff_mul-le (down_pos e)).1 k,
      (div-lt_iff_lt-mul (down_pos e)).1 l,
    )
  where
    nine : (M D : ℕ) → M ≤ 2 * D → 0 < D → 4 * M < 9 * D
    nine M D h p = omega arith

    far : (q : ℕ) → q < 9 → q < 2 ^ 31
    far q h = omega arith

-- the tests, as `lt` and `le` make them
under : (m : ℕ) (e : ℤ) (b : ℕ) → lt (fin false m e) (cut b) ≡ true → 4 * (m * up e) < b * down e
unfolding lt
under m e b h = let k = ltb-true (m * up e * 4) (b * 1 * down e) h in rw (mul_comm 4 (m * up e)) (subst (λ (z : ℕ). m * up e * 4 < z * down e) (mul-one b) k)

over : (m : ℕ) (e : ℤ) (a : ℕ) → lt (fin false m e) (cut a) ≡ false → a * down e ≤ 4 * (m * up e)
unfolding lt
over m e a h = let k = ltb-false (m * up e * 4) (a * 1 * down e) h in rw (mul_comm 4 (m * up e)) (subst (λ (z : ℕ). z * down e ≤ m * up e * 4) (mul-one a) k)

-- what has a minus sign is below
no_minus : (m : ℕ) (e : ℤ) (a : ℕ) → 0 < a → lt (fin true m e) (cut a) ≡ false → ⊥
unfolding lt
no_minus m e a p h =
    let k = ltb-false 0 (m * up e * 4 + a * 1 * down e) h in
    let q : 0 < a * 1 * down e = mul-pos (subst (λ (z : ℕ). 0 < z) (sym (mul-one a)) p) (down_pos e) in
    omega arith

-- the whole part of a zero, and of four times -0
no_whole : (x : Float) (s : Bool) (L : ℕ) → 0 < L → HasValue x s 0 L → nat_abs (whole_s x) ≡ 0
no_whole x s L l v = ap nat_abs (whole_value x s 0 L l v (rw (zero-div L) (pow_pos 31)) ∙ ap (signed s) (zero-div L)) ∙ sign s
  where
    sign : (t : Bool) → nat_abs (signed t 0) ≡ 0
    sign true = refl
    sign false = refl

minus_zero : (f : Format) (m : ℕ) (e : ℤ) → m * up e ≡ 0 → nat_abs (whole_s (mul f (fin false 1 (pos 2)) (fin true m e))) ≡ 0
minus_zero f m e z =
    let D = 1 * down e in
    let d : 0 < D = mul-pos (pow_pos 0) (down_pos e) in
    ap (λ (x : Float). nat_abs (whole_s x)) (mul_is f false 1 (pos 2) true m e ∙ ap (λ (n : ℕ). round f true (4 * n) D) z)
    ∙ no_whole (round f true 0 D) true D d (round_zero f true D d)

-- below a / 4 for some a up to 8 is below 2
below_2 : (M D b : ℕ) → b ≤ 8 → 4 * M < b * D → M ≤ 2 * D
below_2 M D b h k = let a : b * D ≤ 8 * D = mul-le-mul_right D h in omega arith

module _ (f : Format) (t : Float) (F : T (fits f t)) where
  -- ---- from a / 4 to below b / 4
  between : (a b : ℕ) → 0 < a → b ≤ 8 → lt t (cut a) ≡ false → lt t (cut b) ≡ true → Quarters f t a b
  unfolding lt
  between a b p B h k = go t F h k
    where
      go : (t : Float) → T (fits f t) → lt t (cut a) ≡ false → lt t (cut b) ≡ true → Quarters f t a b
      go nan F h k = absurd (subst T (sym k) tt)
      go (inf true) F h k = absurd (subst T h tt)
      go (inf false) F h k = absurd (subst T (sym k) tt)
      go (fin true m e) F h k = absurd (no_minus m e a p h)
      go (fin false m e) F h k =
          let l = under m e b k in
          counted f m e a b F (below_2 (m * up e) (down e) b B l) (over m e a h) l

  -- ---- below b / 4
  first : (b : ℕ) → b ≤ 8 → NotBelow t → lt t (cut b) ≡ true → Quarters f t 0 b
  unfolding lt
  first b B n k = go t F n k
    where
      above : (b D M : ℕ) → M ≡ 0 → 0 < M * 4 + b * 1 * D → 0 < b
      above zero D M z h = absurd (omega (arith, zero-mul D))
      above (suc b) D M z h = omega arith

      go : (t : Float) → T (fits f t) → NotBelow t → lt t (cut b) ≡ true → Quarters f t 0 b
      go nan F n k = absurd (subst T (sym k) tt)
      go (inf true) F n k = absurd (subst T n tt)
      go (inf false) F n k = absurd (subst T (sym k) tt)
      go (fin true m e) F n k =
          let z : m * up e ≡ 0 = omega (arith, ltb-false 0 (m * up e * 1 + 0 * down e) n) in
          (0, ap (λ (n : ℕ). (n + 1) / 2) (minus_zero f m e z), le_of_eq refl, above b (down e) (m * up e) z (ltb-true 0 (m * up e * 4 + b * 1 * down e) k))
      go (fin false m e) F n k =
          let l = under m e b k in
          counted f m e 0 b F (below_2 (m * up e) (down e) b B l) (omega arith) l

  -- ---- from a / 4 to 2
  last : (a : ℕ) → 0 < a → lt t (cut a) ≡ false → T (le t two+) → Quarters f t a 9
  unfolding lt le
  last a p h k = go t F h k
    where
      go : (t : Float) → T (fits f t) → lt t (cut a) ≡ false → T (le t two+) → Quarters f t a 9
      go nan F h k = absurd k
      go (inf true) F h k = absurd (subst T h tt)
      go (inf false) F h k = absurd k
      go (fin true m e) F h k = absurd (no_minus m e a p h)
      go (fin false m e) F h k =
          let l : m * up e ≤ 2 * down e = omega (arith, le→Le false m e false 1 (pos 1) k) in
          counted f m e a 9 F l (over m e a h) (omega (arith, down_pos e))

-- ---- sinpi over the kernels of the sine and of the cosine, by t
abbrev half : Float
half = fin false 1 (negsuc 0)

abbrev pub by_turn : (Float → Float) → (Float → Float) → Format → Float → Float
by_turn sine cosine f t = case sine cosine (quarter_of f t) ((t ⊖ of_int binary64 (pos (quarter_of f t)) ⊗ half) ⊗ PI)

module _ (sine cosine : Float → Float) (f : Format) (t : Float) where
  at : (n : ℕ) (c : Float) → of_int binary64 (pos n) ⊗ half ≡ c → quarter_of f t ≡ n → case sine cosine n ((t ⊖ c) ⊗ PI) ≡ by_turn sine cosine f t
  at n c h q = sym (ap (λ (k : ℕ). case sine cosine k ((t ⊖ of_int binary64 (pos k) ⊗ half) ⊗ PI)) q ∙ ap (λ (d : Float). case sine cosine n ((t ⊖ d) ⊗ PI)) h)

  module _ (F : T (fits f t)) where
    pub case_0 : NotBelow t → lt t (cut 1) ≡ true → sine ((t ⊖ bits 0) ⊗ PI) ≡ by_turn sine cosine f t
    unfolding of_int mul of_bits
    case_0 n h = let q = first f t F 1 (lit≤ tt) n h in at 0 (bits 0) refl (q.1 ∙ omega arith)

    pub case_1 : lt t (cut 1) ≡ false → lt t (cut 3) ≡ true → cosine ((t ⊖ bits 0x3FE0000000000000) ⊗ PI) ≡ by_turn sine cosine f t
    unfolding of_int mul of_bits
    case_1 g h = let q = between f t F 1 3 (lit< tt) (lit≤ tt) g h in at 1 (bits 0x3FE0000000000000) refl (q.1 ∙ omega arith)

    pub case_2 : lt t (cut 3) ≡ false → lt t (cut 5) ≡ true → sine (neg ((t ⊖ bits 0x3FF0000000000000) ⊗ PI)) ≡ by_turn sine cosine f t
    unfolding of_int mul of_bits
    case_2 g h = let q = between f t F 3 5 (lit< tt) (lit≤ tt) g h in at 2 (bits 0x3FF0000000000000) refl (q.1 ∙ omega arith)

    pub case_3 : lt t (cut 5) ≡ false → lt t (cut 7) ≡ true → neg (cosine ((t ⊖ bits 0x3FF8000000000000) ⊗ PI)) ≡ by_turn sine cosine f t
    unfolding of_int mul of_bits
    case_3 g h = let q = between f t F 5 7 (lit< tt) (lit≤ tt) g h in at 3 (bits 0x3FF8000000000000) refl (q.1 ∙ omega arith)

    pub case_4 : lt t (cut 7) ≡ false → T (le t two+) → sine ((t ⊖ bits 0x4000000000000000) ⊗ PI) ≡ by_turn sine cosine f t
    unfolding of_int mul of_bits
    case_4 g h = let q = last f t F 7 (lit< tt) g h in at 4 (bits 0x4000000000000000) refl (q.1 ∙ omega arith)

  -- of a NaN both ways
  pub case_nan : t ≡ nan → sine ((t ⊖ bits 0x4000000000000000) ⊗ PI) ≡ by_turn sine cosine f t
  unfolding sub add mul
  case_nan e = rw (e, whole_nan) refl
