-- tgamma's last line, r z z: it has the sign of a finite r that is not zero, for any z that is no NaN and carries no minus sign, whatever
-- overflows or vanishes (`last_line`, over the format). So `last_s` has r's sign, for the y, dy and z of an x from 2 ^ -54 to 184 and of
-- their negatives, and an r from 2 ^ -600 to 2 ^ 600 in size (`last_keeps`). Assumes nothing.
use mathlib.Core.Path.{refl, sym, ap, ◌∙◌, ◌≡◌, subst}
use Prim.Native.Nat.{ℕ, zero, suc, ◌*◌, ◌<◌}
use native.Mathlib.Nat.{zero-lt-suc, zero-mul, mul-zero, mul-pos}
use native.Mathlib.Omega.{arith}
use mathlib.Core.Bool.{Bool, true, false, not, true≢false}
use lib.IntN.{ℤ}
use lib.Dec.{T, T_not, eqb, eqb→eq, not_T}
use lib.Ieee.{Float, nan, inf, fin, Format, binary64, up, down, unlike, round, mul, neg, le, fits}
use lib.Ieee.Bits.{cond_no}
use lib.Ieee.Fits.{down_pos, add-fits, mul-fits}
use lib.Ieee.Scale.{finite}
use Rattle.rounding.proofs.Signed.{Signed, value_finite, le_neg, round_signed, round_zero}
use Rattle.rounding.proofs.Fraction.{unlike_false, mul_is}
use Rattle.rounding.proofs.Odd.{neg_neg}
use Rattle.rounding.proofs.Range.{In}
use Rattle.words.specs.F64.{◌⊕◌, ◌⊗◌, ◌⊘◌, 0·5}
use Rattle.pow.specs.Pow.{pow_s}
use Rattle.pow_range.proofs.FractionRange.{slight}
use Rattle.pow_range.proofs.PowSign.{from55, to190, pow_plus}
use Rattle.tgamma.specs.Tgamma.{GMHALF, dy_s, last_s}
use Rattle.tgamma.proofs.Regions.{to184, Middle}
use Rattle.tgamma.proofs.Formula.{y_of, z_of, last_is}
use Rattle.signs.proofs.LanczosRange.{y_range, z_range, exponent_range}
use Rattle.signs.proofs.Correction.{Sized, Nonzero, dy_range, factor_range, correction}

-- ---- products with a factor that carries no minus sign
nonzero : (n : ℕ) → 0 < n → T (not (eqb n 0))
nonzero n h = not_T (eqb n 0) (λ (u : T (eqb n 0)). no n h (eqb→eq n 0 u))
  where
    no : (n : ℕ) → 0 < n → n ≡ 0 → ⊥
    no n h e = omega arith

inf_times : (f : Format) (s : Bool) (n : ℕ) (d : ℤ) → 0 < n → mul f (inf s) (fin false n d) ≡ inf s
unfolding mul
inf_times f s n d h = cond_no (eqb n 0) nan (inf (unlike s false)) (nonzero n h) ∙ ap inf (unlike_false s)

times_inf : (f : Format) (s : Bool) (m : ℕ) (e : ℤ) → 0 < m → mul f (fin s m e) (inf false) ≡ inf s
unfolding mul
times_inf f s m e h = cond_no (eqb m 0) nan (inf (unlike s false)) (nonzero m h) ∙ ap inf (unlike_false s)

inf_inf : (f : Format) (s : Bool) → mul f (inf s) (inf false) ≡ inf s
unfolding mul
inf_inf f s = ap inf (unlike_false s)

finite_times : (f : Format) (s : Bool) (m : ℕ) (e : ℤ) (n : ℕ) (d : ℤ) → Signed s (mul f (fin s m e) (fin false n d))
finite_times f s m e n d =
    subst (λ (t : Bool). Signed t (mul f (fin s m e) (fin false n d))) (unlike_false s)
    (subst (Signed (unlike s false)) (sym (mul_is f s m e false n d)) (round_signed f (unlike s false) _ _))

zero_finite : (f : Format) (s : Bool) (m : ℕ) (e : ℤ) (d : ℤ) → T (finite (mul f (fin s m e) (fin false 0 d)))
zero_finite f s m e d =
    let c = down e * down d in
    let z : m * up e * (0 * up d) ≡ 0 = ap (λ (x : ℕ). m * up e * x) (zero-mul (up d)) ∙ mul-zero (m * up e) in
    subst (λ (w : Float). T (finite w)) (sym (mul_is f s m e false 0 d ∙ ap (λ (x : ℕ). round f (unlike s false) x c) z))
    (value_finite (round f (unlike s false) 0 c) (unlike s false) 0 c (round_zero f (unlike s false) c (mul-pos (down_pos e) (down_pos d))))

-- w may be infinite where the factor is not zero
again : (f : Format) (s : Bool) (w : Float) (n : ℕ) (d : ℤ) → Signed s w → (T (not (finite w)) → 0 < n) → Signed s (mul f w (fin false n d))
again f s nan n d p h = absurd p
again f s (inf t) n d p h = subst (Signed s) (sym (inf_times f t n d (h tt))) p
again f s (fin t m e) n d p h = subst (λ (b : Bool). Signed b (mul f (fin t m e) (fin false n d))) p (finite_times f t m e n d)

-- ---- r z z
twice : (f : Format) (s : Bool) (m : ℕ) (e : ℤ) (z : Float) → 0 < m → Signed false z → Signed s (mul f (mul f (fin s m e) z) z)
twice f s m e nan M p = absurd p
twice f s m e (inf true) M p = absurd (true≢false p)
twice f s m e (inf false) M p = rw (times_inf f s m e M, inf_inf f s) refl
twice f s m e (fin true n d) M p = absurd (true≢false p)
twice f s m e (fin false n d) M p = again f s (mul f (fin s m e) (fin false n d)) n d (finite_times f s m e n d) (above n)
  where
    above : (n : ℕ) → T (not (finite (mul f (fin s m e) (fin false n d)))) → 0 < n
    above zero h = absurd (T_not (finite (mul f (fin s m e) (fin false 0 d))) h (zero_finite f s m e d))
    above (suc n) h = zero-lt-suc n

pub last_line : (f : Format) (s : Bool) (r z : Float) → Nonzero s r → Signed false z → Signed s (mul f (mul f r z) z)
last_line f s nan z h p = absurd h
last_line f s (inf t) z h p = absurd h
last_line f s (fin t m e) z h p = subst (λ (b : Bool). Signed b (mul f (mul f (fin t m e) z) z)) h.0 (twice f t m e z h.1 p)

-- ---- last_s
last_signed : (s : Bool) (y d z r : Float) → T (fits binary64 y) → In from55 to190 y → In (neg slight) slight d → In (neg to184) to184 z
    → T (fits binary64 r) → Sized s r → Signed s (last_s y d z r)
last_signed s y d z r Y i j k F h =
    let c = d ⊗ (GMHALF ⊕ 0·5) in
    let x = 0·5 ⊗ z in
    subst (Signed s) (sym (last_is y d z r))
    (last_line binary64 s (r ⊕ c ⊗ r ⊘ y) (pow_s y x) (correction s r c y F h (factor_range d j) i)
    (pow_plus y x Y (mul-fits binary64 0·5 z) i (exponent_range z k)))

-- the negative of what lies from -b to b does so too
neg_in : (b x : Float) → In (neg b) b x → In (neg b) b (neg x)
neg_in b x i = (le_neg x b i.1, subst (λ (z : Float). T (le (neg x) z)) (neg_neg b) (le_neg (neg b) x i.0))

pub last_keeps : (x : Float) → T (fits binary64 x) → Middle x → (s : Bool) (r : Float) → T (fits binary64 r) → Sized s r
    → let dy = dy_s x (y_of x) in
    Signed s (last_s (y_of x) dy (z_of x) r) × Signed s (last_s (y_of x) (neg dy) (neg (z_of x)) r)
last_keeps x X i s r F h =
    let y = y_of x in
    let dy = dy_s x y in
    let z = z_of x in
    let Y = add-fits binary64 x GMHALF in
    let j = y_range x i in
    let k = dy_range x X i in
    let l = z_range x i in
    (last_signed s y dy z r Y j k l F h, last_signed s y (neg dy) (neg z) r Y j (neg_in slight dy k) (neg_in to184 z l) F h)
