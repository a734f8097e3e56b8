-- `kinds::sign_byte` meets its contract. Assumes nothing.
-- by the test on the sign as the local holds it
use mathlib.Core.Path.{◌≡◌, sym, ap, ◌∙◌}
use mathlib.Core.Bool.{Bool, cond}
use Prim.Native.Nat.{ℕ}
use lib.IntN.{ℤ, pos}
use lib.Signed.{lt_z}
use mir.Syntax.{w32}
use mir.Val.{to_z, of_z, SFits}
use mir.ValLaws.{to_z-of_z}
use Rattle.kinds.specs.Shape.{sign_byte}
use Rattle.kinds.proofs.sign_byte.Goals as goal

tested : (z : ℤ) (b : Bool) → SFits w32 z → lt_z (pos 0) (to_z w32 (of_z w32 z)) ≡ b → cond {A = ℕ} b 1 255 ≡ sign_byte z
tested z b f e = ap (λ (t : Bool). cond {A = ℕ} t 1 255) (sym e ∙ ap (lt_z (pos 0)) (to_z-of_z w32 z f))

pub returns-then-sign-gt0 : goal.returns-then-sign-gt0
returns-then-sign-gt0 c = tested c.args.sign _ c.ranges.sign c.if-sign-gt0.true

pub returns-else-sign-gt0 : goal.returns-else-sign-gt0
returns-else-sign-gt0 c = tested c.args.sign _ c.ranges.sign c.if-sign-gt0.false
