-- `by_bits::signed_on_bits` meets its contract. Assumes nothing.
use mathlib.Core.Path.{sym, ap, ◌∙◌}
use lib.Ieee.{Float, to_bits}
use mir.Syntax.{w32}
use mir.ValLaws.{to_z-of_z}
use borrow.Author.Rules.{rules}
use Rattle.by_bits.proofs.NanLaws.{signed_on_nan}
use Rattle.by_bits.proofs.signed_on_bits.Goals as goal

pub returns-then-is_nan_bits : goal.returns-then-is_nan_bits
returns-then-is_nan_bits g c h p e =
    signed_on_nan g.R.Real.format (g.R.Real.number c.args.x) _ (ap g.R.Real.number c.NAN_BITS.ensures ∙ g.met.R.Width.nan_law)
    (sym c.is_nan_bits.ensures ∙ c.if-is_nan_bits.true) h e

pub returns : goal.returns
returns g c h p e = (
  c.bits_of.ensures ∙ ap (to_bits g.R.Real.format) ((p _ _ _ c.f-value.ensures).0 ∙ ap (λ (x : Float). (h x).value) c.of_bits.ensures),
  to_z-of_z w32 c.f-value.result.1 (search rules) ∙ (p _ _ _ c.f-value.ensures).1 ∙ ap (λ (x : Float). (h x).sign) c.of_bits.ensures,
)
