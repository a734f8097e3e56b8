-- The size of sinpi at an x from 2 ^ -54 on that is no whole number: from 2 ^ -110 to 2 (`sinpi_size`, with the sign by the whole part of x). Such an x is
-- at least 2 ^ -106 off each whole number, and k_sin is at least half of its argument. Assumes nothing.
use mathlib.Core.Path.{◌≡◌, refl, sym, subst}
use Prim.Native.Nat.{ℕ, ◌+◌, ◌*◌, ◌/◌, ◌%◌, ◌^◌, ◌≤◌, ◌<◌}
use native.Mathlib.Omega.{arith}
use mathlib.Core.Bool.{Bool, true, false, not}
use lib.IntN.{ℤ, pos, negsuc}
use lib.Dec.{T}
use lib.Pow.{pow_pos, pow_mono}
use lib.Ieee.{Float, fin, binary64, mul, le, fits, of_bits, low, prec, up, down}
use lib.Ieee.Scale.{finite}
use lib.Ieee.Positive.{positive-finite}
use Rattle.rounding.proofs.Order.{le_trans, le_total}
use Rattle.rounding.proofs.Monotone.{mul_mono_plus}
use Rattle.rounding.proofs.Relative.{two+, power_below, FromHalf}
use Rattle.rounding.proofs.Range.{In}
use Rattle.words.specs.F64.{bits, ◌⊗◌}
use Rattle.trig.proofs.CosineRange.{pio4, half, two}
use Rattle.trig.proofs.SineRange.{sin_range}
use Rattle.sinpi.specs.Sinpi.{sinpi_s}
use Rattle.sinpi.proofs.Octants.{Kernels, Angle}
use Rattle.sinpi.proofs.SignLaws.{Signs, by_whole_part, sine, cosine, kernels64, sinpi_is}

-- 2 ^ -54
abbrev pub start : Float
start = bits 0x3C90000000000000

-- 2 ^ -110
abbrev pub bottom : Float
bottom = bits 0x3910000000000000

-- 2 ^ -106
abbrev step : Float
step = fin false 1 (negsuc 105)

-- twice 2 ^ -110 is less than 2 ^ -106
short : T (le step (bottom ⊗ two+)) → ⊥
unfolding of_bits mul le
short h = absurd h

-- k from half of r on, for an r from 2 ^ -106 on
from_bottom : (r k : Float) → T (finite k) → T (le step r) → T (le r (k ⊗ two+)) → T (le bottom k)
from_bottom r k X h d = go (le bottom k) (λ (t : T (le bottom k)). t) (le_total bottom k (unfold of_bits in tt) X)
  where
    go : (b : Bool) → (T b → T (le bottom k)) → (T (not b) → T (le k bottom)) → T (le bottom k)
    go true p q = p tt
    go false p q =
        absurd (short (le_trans step r (bottom ⊗ two+) h
        (le_trans r (k ⊗ two+) (bottom ⊗ two+) d (mul_mono_plus binary64 k bottom 1 (pos 1) X (unfold of_bits in tt) (q tt)))))

kernels : Kernels sine cosine (In bottom two) step
kernels =
    kernels64 (In bottom two) step (λ r F a. sized r (sine r) (sin_range r F a.0 a.1) a)
    (λ k i. (le_trans bottom half k (unfold of_bits le in tt) i.0, i.1))
  where
    sized : (r k : Float) → FromHalf binary64 r k → Angle step r → In bottom two k
    sized r k f a =
        (from_bottom r k (positive-finite k f.2) a.2 f.0, le_trans k r two f.1 (le_trans r pio4 two a.1 (unfold of_bits le in tt)))

-- 2 ^ -54 ≤ m * 2 ^ e, in whole numbers
from_start : (m : ℕ) (e : ℤ) → T (le start (fin false m e)) → down e ≤ m * up e * 2 ^ 54
unfolding of_bits
from_start m e h = power_below 53 m e h

-- from 2 ^ -110 to 2 where the whole part of x is even, and so is the negative where it is odd
pub sinpi_size : (m : ℕ) (e : ℤ) → T (fits binary64 (fin false m e)) → T (le start (fin false m e)) → (m * up e % down e ≡ 0 → ⊥)
    → Signs (In bottom two) (sinpi_s (fin false m e)) (m * up e / down e)
sinpi_size m e F h w =
    subst (λ (r : Float). Signs (In bottom two) r (m * up e / down e)) (sym (sinpi_is (fin false m e)))
    (by_whole_part sine cosine (In bottom two) step kernels (2 ^ 968) (refl, refl) (pow_pos 968) m e 54 F (from_start m e h)
    (λ (J : ℕ) (k : low binary64 < prec binary64 + J + 54). (some J (reach J k), pow_mono (reach J k))) w)
  where
    reach : (J : ℕ) → low binary64 < prec binary64 + J + 54 → 968 ≤ J
    reach J h = omega arith

    some : (J : ℕ) → 968 ≤ J → 0 < J
    some J h = omega arith
