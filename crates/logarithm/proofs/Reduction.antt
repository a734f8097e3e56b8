-- The parts that the reduction puts together, and the definition, over the plan. Assumes nothing.
use Prim.Native.Nat.{ℕ, ◌+◌, ◌-◌, ◌*◌, ◌/◌, ◌%◌, ◌^◌}
use mathlib.Core.Path.{◌≡◌, ap, ◌∙◌}
use lib.IntN.{ℤ, pos, ◌+ℤ◌, ◌-ℤ◌}
use lib.Ieee.{Float, of_bits}
use mir.Syntax.{w32}
use mir.Val.{SFits}
use mir.ValLaws.{to_z-of_z}
use Rattle.logarithm.proofs.Exponents.{held}
use Rattle.logarithm.specs.Plan.{Plan, near_s, reduced_s}

-- hx is the upper word, moved so that the exponent's field counts from sqrt(2)/2; n is the pattern of the number reduced
pub reduced_of :
    (p : Plan) (ui hx n : ℕ) (k k' : ℤ) (x r : Float)
    → SFits w32 k
    → SFits w32 k'
    → k' ≡ held k +ℤ (pos (hx / 2 ^ p.fraction) -ℤ pos p.bias)
    → x ≡ of_bits p.format n
    → r ≡ near_s p x (held k')
    → hx ≡ ui / 2 ^ p.below + (p.at1 - p.root)
    → n ≡ (hx % 2 ^ p.fraction + p.root) * 2 ^ p.below + ui % 2 ^ p.below
    → r ≡ reduced_s p ui k
unfolding reduced_s
reduced_of p ui hx n k k' x r s s' c q e h d =
    let t = pos (hx / 2 ^ p.fraction) -ℤ pos p.bias in
    let c' : k' ≡ k +ℤ t = c ∙ ap (λ (z : ℤ). z +ℤ t) (to_z-of_z w32 k s) in
    let e' : r ≡ near_s p x k' = e ∙ ap (near_s p x) (to_z-of_z w32 k' s') in
    rw (e', c', q, d, h)
