-- tgamma's answer is an f64: `tgamma_fits`. Assumes nothing.
use mathlib.Core.List.{List, [], ◌∷◌}
use Prim.Native.Nat.{ℕ, zero, suc, ◌-◌}
use mathlib.Core.Bool.{Bool, true, false, ◌&&◌}
use lib.IntN.{nat_abs}
use lib.ListN.{get_or}
use lib.Dec.{T, leb, ltb, eqb}
use lib.Ieee.{Float, nan, binary64, eq, le, lt, fits, of_bits}
use lib.Ieee.Fits.{and_l, and_r, nan-fits, add-fits, mul-fits, div-fits}
use lib.Ieee.Bits.{of_bits-fits}
use Rattle.words.specs.Pick.{pick}
use Rattle.words.specs.F64.{bits, ◌⊗◌, 0·5, 1·0}
use Rattle.words.specs.Bits.{size_word_s, sign_s}
use Rattle.floor.specs.Floor.{floor_s}
use Rattle.whole.specs.Whole.{whole_s}
use Rattle.tgamma.specs.Tgamma.{INFINITY, FACT, tgamma_s, integer_s, general_s, vanished_s, lanczos_s, last_s, x1p1023, 23·0}

pick_fits : (b : Bool) (x y : Float) → T (fits binary64 x) → T (fits binary64 y) → T (fits binary64 (pick b x y))
pick_fits true x y h k = h
pick_fits false x y h k = k

all_fit : List Float → Bool
all_fit [] = true
all_fit (x ∷ l) = fits binary64 x && all_fit l

entry_fits : (l : List Float) → T (all_fit l) → (k : ℕ) → T (fits binary64 (get_or l k nan))
unfolding all_fit
entry_fits [] h k = nan-fits binary64
entry_fits (x ∷ l) h zero = and_l (fits binary64 x) (all_fit l) h
entry_fits (x ∷ l) h (suc k) = entry_fits l (and_r (fits binary64 x) (all_fit l) h) k

fact_fits : T (all_fit FACT)
unfolding all_fit fits of_bits
fact_fits = tt

last_fits : (y d z r : Float) → T (fits binary64 (last_s y d z r))
unfolding last_s
last_fits y d z r = mul-fits binary64 _ _

lanczos_fits : (x : Float) (n : ℕ) → T (fits binary64 (lanczos_s x n))
unfolding lanczos_s
lanczos_fits x n = pick_fits (lt x (bits 0)) _ _ (last_fits _ _ _ _) (last_fits _ _ _ _)

vanished_fits : (x : Float) → T (fits binary64 (vanished_s x))
unfolding vanished_s
vanished_fits x =
    pick_fits (eq (floor_s binary64 x ⊗ 0·5) (floor_s binary64 (x ⊗ 0·5))) _ _
    (of_bits-fits binary64 0) (of_bits-fits binary64 0x8000000000000000)

general_fits : (x : Float) (w n : ℕ) → T (fits binary64 (general_s x w n))
unfolding general_s
general_fits x w n =
    pick_fits (leb 0x40670000 w) _ _ (pick_fits (eqb n 1) _ _ (vanished_fits x) (mul-fits binary64 x x1p1023)) (lanczos_fits x n)

integer_fits : (x : Float) (w n : ℕ) → T (fits binary64 (integer_s x w n))
unfolding integer_s
integer_fits x w n =
    pick_fits (eqb n 1) nan _ (nan-fits binary64)
    (pick_fits (le x 23·0) _ _ (entry_fits FACT fact_fits (nat_abs (whole_s x) - 1)) (general_fits x w n))

pub tgamma_fits : (x : Float) → T (fits binary64 (tgamma_s x))
unfolding tgamma_s
tgamma_fits x =
    let w = size_word_s x in
    let n = sign_s binary64 x in
    pick_fits (leb 0x7FF00000 w) _ _ (add-fits binary64 x INFINITY)
    (pick_fits (ltb w 0x3C900000) _ _ (div-fits binary64 1·0 x)
    (pick_fits (eq x (floor_s binary64 x)) _ _ (integer_fits x w n) (general_fits x w n)))
