-- erf from 2 ^ -28 to 0.84375, the sum x + x * y, as an expression over the plan, so that intervals bound it. Assumes nothing.
use mathlib.Core.Path.{◌≡◌, refl}
use mathlib.Core.List.{[], ◌∷◌}
use lib.Ieee.{Float, add, mul}
use Rattle.rounding.proofs.Range.{Expr, var, plus, times, over, share, eval}
use Rattle.poly.proofs.HornerExpr.{horner_e, horner_is}
use Rattle.erf.specs.Plan.{Plan}
use Rattle.erf.specs.Plan as Plan

-- x + x * y, in the variable x
abbrev pub sum_e : Plan → Expr
sum_e p =
    share (times (var 0) (var 0))
    (plus (var 1) (times (var 1) (over (horner_e p.format p.PP (var 0)) (horner_e p.format p.QQ (var 0)))))

pub sum_is : (p : Plan) (x : Float)
    → eval p.format (x ∷ []) (sum_e p) ≡ add p.format x (mul p.format x (Plan.small_s p x))
unfolding eval Plan.small_s
sum_is p x =
    let f = p.format in
    let ρ = mul f x x ∷ x ∷ [] in
    rw (horner_is f p.PP (var 0) ρ, horner_is f p.QQ (var 0) ρ) refl
