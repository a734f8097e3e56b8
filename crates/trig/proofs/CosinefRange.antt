-- k_cosf of an x of a size up to the f64 nearest pi/4 lies from 1/2 to 2: `cosf_range`. By intervals, as for k_cos. Assumes nothing.
use mathlib.Core.Path.{◌≡◌, refl, subst}
use mathlib.Core.List.{[], ◌∷◌}
use mathlib.Core.Bool.{false}
use lib.IntN.{pos, negsuc}
use lib.Dec.{T}
use lib.Ieee.{Float, binary64, add, mul, neg, le, fits, of_bits}
use Rattle.rounding.proofs.Range.{Expr, var, con, plus, times, share, eval, ieval, In, halved_test}
use Rattle.words.specs.F64.{bits}
use Rattle.narrow.specs.Narrow.{narrow_s}
use Rattle.trig.specs.KCosf.{C0, C1, C2, C3, k_cosf_s}
use Rattle.trig.proofs.CosineRange.{pio4, half, one, two, both_sides}
use Rattle.trig.proofs.Narrowing.{narrow_in}

-- what is narrowed, as an expression in x, with z, w and r named in turn
abbrev cosf_e : Expr
cosf_e =
    share (times (var 0) (var 0))
    (share (times (var 0) (var 0))
    (share (plus (con C2) (times (var 1) (con C3)))
    (plus (plus (plus (con one) (times (var 2) (con C0))) (times (var 1) (con C1))) (times (times (var 1) (var 2)) (var 0)))))

cosf_is : (x : Float) → narrow_s (eval binary64 (x ∷ []) cosf_e) ≡ k_cosf_s x
unfolding eval k_cosf_s
cosf_is x = refl

plus_test : T (halved_test 4 binary64 half two cosf_e [] (bits 0) pio4)
unfolding halved_test ieval add mul le of_bits
plus_test = tt

minus_test : T (halved_test 4 binary64 half two cosf_e [] (neg pio4) (bits 0))
unfolding halved_test ieval add mul le neg of_bits
minus_test = tt

pub cosf_range : (x : Float) → In (neg pio4) pio4 x → In half two (k_cosf_s x)
unfolding of_bits fits
cosf_range x i =
    subst (In half two) (cosf_is x)
    (narrow_in (eval binary64 (x ∷ []) cosf_e) false 1 (negsuc 0) false 1 (pos 1) tt tt (both_sides cosf_e [] [] tt minus_test plus_test x i))
