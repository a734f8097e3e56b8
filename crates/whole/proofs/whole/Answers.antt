-- `whole::whole` meets its contract: below 1, from 2 ^ 52 on, and between as a quotient and its remainder. Assumes nothing.
use mathlib.Core.Path.{◌≡◌, sym, ap, ◌∙◌}
use mathlib.Core.Bool.{not}
use Prim.Native.Nat.{ℕ, ◌+◌, ◌/◌, ◌%◌, ◌^◌}
use native.Mathlib.Nat.{mul-one}
use native.Mathlib.Omega.{arith}
use lib.Dec.{eqb, leb}
use lib.Ieee.{binary64}
use Rattle.whole.specs.Whole.{small, whole_s, has_fraction_s}
use Rattle.words.proofs.PatternLaws.{of_pattern}
use Rattle.whole.proofs.WholeBits as laws
use Rattle.whole.proofs.whole.Goals as goal

pub returns-then-e-lt1023 : goal.returns-then-e-lt1023
returns-then-e-lt1023 c =
    let held = of_pattern binary64 c.args.x c.bits_of-b.result c.well_formed.0.1 c.bits_of-b.ensures in
    let p = laws.below_one_holds binary64 c.bits_of-b.result c.if-e-lt1023.true in
    (p.0 ∙ ap whole_s held, p.1 ∙ ap has_fraction_s held)

pub returns-then-e-gt1074 : goal.returns-then-e-gt1074
returns-then-e-gt1074 c =
    let held = of_pattern binary64 c.args.x c.bits_of-b.result c.well_formed.0.1 c.bits_of-b.ensures in (
      laws.large binary64 c.bits_of-b.result (omega (arith, c.if-e-gt1074.true)) ∙ ap whole_s held,
      laws.no_fraction binary64 c.bits_of-b.result (omega (arith, c.if-e-gt1074.true)) ∙ ap has_fraction_s held,
    )

-- the significand, as the code has it
code : (b : ℕ) → b % 2 ^ 52 + 2 ^ 52 ≡ laws.significand binary64 0 b
code b = sym (mul-one (b % 2 ^ 52 + 2 ^ 52))

pub returns : goal.returns
returns c =
    let held = of_pattern binary64 c.args.x c.bits_of-b.result c.well_formed.0.1 c.bits_of-b.ensures in
    let b = c.bits_of-b.result in
    let upto = c.if-e-gt1074.false in
    let p = laws.inside binary64 b 0 c.if-e-lt1023.false (omega (arith, upto)) (omega (arith, upto)) in
    let K = laws.places binary64 0 b in (
      c.divided.ensures.0 ∙ ap (λ (n : ℕ). small (leb (2 ^ 63) b) (n / 2 ^ K)) (code b) ∙ p.0 ∙ ap whole_s held,
      c.divided.ensures.1 ∙ ap (λ (n : ℕ). not (eqb (n % 2 ^ K) 0)) (code b) ∙ p.1 ∙ ap has_fraction_s held,
    )
