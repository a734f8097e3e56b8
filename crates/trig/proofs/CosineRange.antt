-- k_cos of an x of a size up to the f64 nearest pi/4, with no tail, lies from 1/2 to 2: `cos_range`. By intervals. Assumes nothing.
use mathlib.Core.Path.{◌≡◌, refl, subst}
use mathlib.Core.Logic.{inl, inr}
use mathlib.Core.List.{List, [], ◌∷◌}
use lib.Dec.{T}
use lib.Ieee.{Float, binary64, add, sub, mul, neg, le, of_bits}
use Rattle.rounding.proofs.Order.{between_finite}
use Rattle.rounding.proofs.Interval.{Interval, some}
use Rattle.rounding.proofs.Range.{Expr, var, con, plus, minus, times, share, eval, ieval, Env, In, halved_test, halved, in_split}
use Rattle.words.specs.F64.{bits}
use Rattle.trig.specs.KCos.{C1, C2, C3, C4, C5, C6, k_cos_s}

-- the f64 nearest pi/4
abbrev pub pio4 : Float
pio4 = bits 0x3FE921FB54442D18

abbrev pub half : Float
half = bits 0x3FE0000000000000

abbrev pub one : Float
one = bits 0x3FF0000000000000

abbrev pub two : Float
two = bits 0x4000000000000000

-- the definition as an expression in x and y, with z, w, r, hz and the second w named in turn
abbrev cos_e : Expr
cos_e =
    share (times (var 0) (var 0))
    (share (times (var 0) (var 0))
    (share (plus (times (var 1) (plus (con C1) (times (var 1) (plus (con C2) (times (var 1) (con C3))))))
    (times (times (var 0) (var 0)) (plus (con C4) (times (var 1) (plus (con C5) (times (var 1) (con C6)))))))
    (share (times (con half) (var 2))
    (share (minus (con one) (var 0))
    (plus (var 0) (plus (minus (minus (con one) (var 0)) (var 1)) (minus (times (var 4) (var 2)) (times (var 5) (var 6)))))))))

cos_is : (x y : Float) → eval binary64 (x ∷ y ∷ []) cos_e ≡ k_cos_s x y
unfolding eval k_cos_s
cos_is x y = refl

plus_test : T (halved_test 4 binary64 half two cos_e (some (bits 0) (bits 0) ∷ []) (bits 0) pio4)
unfolding halved_test ieval add sub mul le of_bits
plus_test = tt

minus_test : T (halved_test 4 binary64 half two cos_e (some (bits 0) (bits 0) ∷ []) (neg pio4) (bits 0))
unfolding halved_test ieval add sub mul le neg of_bits
minus_test = tt

-- an expression in x that a test on each side of zero bounds
pub both_sides : (e : Expr) (σ : List Interval) (ρ : List Float) → Env σ ρ
    → T (halved_test 4 binary64 half two e σ (neg pio4) (bits 0)) → T (halved_test 4 binary64 half two e σ (bits 0) pio4)
    → (x : Float) → In (neg pio4) pio4 x → In half two (eval binary64 (x ∷ ρ) e)
unfolding of_bits neg
both_sides e σ ρ s t u x i =
    let X = between_finite (neg pio4) x pio4 tt tt i.0 i.1 in
    elim (in_split (neg pio4) x pio4 (bits 0) X tt i) [
      | inl j ↦ halved 4 binary64 half two e σ ρ (neg pio4) (bits 0) x X t s j
      | inr j ↦ halved 4 binary64 half two e σ ρ (bits 0) pio4 x X u s j
    ]

-- for the tail 0
pub cos_range : (x : Float) → In (neg pio4) pio4 x → In half two (k_cos_s x (bits 0))
unfolding of_bits le
cos_range x i =
    subst (In half two) (cos_is x (bits 0))
    (both_sides cos_e (some (bits 0) (bits 0) ∷ []) (bits 0 ∷ []) ((tt, tt, tt, tt), tt) minus_test plus_test x i)
