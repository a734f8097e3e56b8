-- x mod 2, as sinpi takes it, is not below zero. Over the format. Assumes nothing.
use mathlib.Core.Path.{◌≡◌, refl}
use Prim.Native.Nat.{ℕ, ◌+◌, ◌*◌, ◌<◌, ◌≤◌}
use native.Mathlib.Nat.{mul-pos}
use native.Mathlib.Omega.{arith}
use mathlib.Core.Bool.{Bool, true, false, not, true≢false}
use lib.Dec.{T}
use lib.IntN.{ℤ, pos}
use lib.Ieee.{Float, nan, inf, fin, Format, binary32, binary64, up, down, round, neg, add, sub, mul, lt, le, fits, of_bits}
use lib.Ieee.Fits.{down_pos, mul-fits}
use borrow.Author.Tests.{ltb-false, le-ltb}
use Rattle.rounding.proofs.Signed.{P, N, le→Le}
use Rattle.rounding.proofs.Fraction.{add_fraction}
use Rattle.rounding.proofs.Relative.{zero+}
use Rattle.rounding.proofs.Exact.{round_at_least}
use Rattle.floor.specs.Floor.{floor_s}
use Rattle.floor.proofs.FloorValues.{floor_at_most, floor_inf}
use Rattle.sinpi.specs.Sinpi.{turn_s}
use Rattle.sinpi.specs.Sinpif as Sinpif
use Rattle.sinpi.proofs.Exactness.{half+, turn_of}

-- x is not below zero: it has no minus sign, or is a zero or a NaN
abbrev pub NotBelow : Float → Type 0
NotBelow x = lt x zero+ ≡ false

-- ---- what is at least zero is not below it
not_below : (x : Float) → T (le zero+ x) → NotBelow x
unfolding le lt
not_below nan h = refl
not_below (inf true) h = absurd h
not_below (inf false) h = refl
not_below (fin false m e) h = le-ltb (m * up e * 1) (0 * down e) (omega arith)
not_below (fin true m e) h =
    let z : m * up e ≡ 0 = omega (arith, le→Le false 0 (pos 0) true m e h) in
    le-ltb 0 (m * up e * 1 + 0 * down e) (omega (arith, z))

-- a rounding of a fraction that is not below zero is not below zero
round_not_below : (f : Format) (u : Bool) (q c : ℕ) → 0 < c → N u q ≤ P u q → NotBelow (round f u q c)
unfolding fits
round_not_below f u q c C h = not_below (round f u q c) (round_at_least f u q c false 0 (pos 0) tt C (omega arith))

-- ---- a difference from what is at most as great, and a product
sub_not_below : (f : Format) (s : Bool) (m : ℕ) (e : ℤ) (y : Float) → T (le y (fin s m e)) → NotBelow (sub f (fin s m e) y)
unfolding sub add neg lt le
sub_not_below f s m e nan h = absurd h
sub_not_below f s m e (inf true) h = refl
sub_not_below f s m e (inf false) h = absurd h
sub_not_below f s m e (fin t n d) h =
    let S = add_fraction f s m e (not t) n d in
    rw S.2 (round_not_below f S.0 S.1 (down e * down d) (mul-pos (down_pos e) (down_pos d))
    (order s t (P S.0 S.1) (N S.0 S.1) (le→Le t n d s m e h) S.3))
  where
    order : (s t : Bool) (p q : ℕ) → P t (n * up d) * down e + N s (m * up e) * down d ≤ P s (m * up e) * down d + N t (n * up d) * down e
        → p + (N s (m * up e) * down d + N (not t) (n * up d) * down e) ≡ q + (P s (m * up e) * down d + P (not t) (n * up d) * down e) → q ≤ p
    order false false p q h k = omega arith
    order false true p q h k = omega arith
    order true false p q h k = omega arith
    order true true p q h k = omega arith

mul_not_below : (f : Format) (d : ℤ) (x : Float) → NotBelow x → NotBelow (mul f (fin false 1 d) x)
unfolding mul lt
mul_not_below f d nan h = refl
mul_not_below f d (inf true) h = absurd (true≢false h)
mul_not_below f d (inf false) h = refl
mul_not_below f d (fin false m e) h =
    round_not_below f false (1 * up d * (m * up e)) (down d * down e) (mul-pos (down_pos d) (down_pos e)) (omega arith)
mul_not_below f d (fin true m e) h =
    let z : m * up e ≡ 0 = omega (arith, ltb-false 0 (m * up e * 1 + 0 * down e) h) in
    rw z (round_not_below f true (1 * up d * 0) (down d * down e) (mul-pos (down_pos d) (down_pos e)) (omega arith))

-- the fraction of h, and x mod 2, over the format
pub part_not_below : (f : Format) (h : Float) → T (fits f h) → NotBelow (sub f h (floor_s f h))
part_not_below f nan F = unfold sub add lt in refl
part_not_below f (inf true) F = rw (floor_inf f true) (unfold sub add neg lt in refl)
part_not_below f (inf false) F = rw (floor_inf f false) (unfold sub add neg lt in refl)
part_not_below f (fin s m e) F = sub_not_below f s m e (floor_s f (fin s m e)) (floor_at_most f s m e F)

pub turn_of_not_below : (f : Format) (x : Float) → NotBelow (turn_of f x)
turn_of_not_below f x =
    mul_not_below f (pos 1) (sub f (mul f x half+) (floor_s f (mul f x half+))) (part_not_below f (mul f x half+) (mul-fits f x half+))

pub turn_not_below : (x : Float) → NotBelow (turn_s x)
unfolding turn_s of_bits
turn_not_below x = turn_of_not_below binary64 x

pub turnf_not_below : (x : Float) → NotBelow (Sinpif.turn_s x)
unfolding Sinpif.turn_s of_bits
turnf_not_below x = turn_of_not_below binary32 x
