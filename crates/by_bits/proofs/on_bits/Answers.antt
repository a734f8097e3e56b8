-- `by_bits::on_bits` meets its contract: a NaN's pattern gives a NaN's. Assumes nothing.
use mathlib.Core.Path.{sym, ap, ◌∙◌}
use Rattle.by_bits.proofs.NanLaws.{on_nan}
use Rattle.by_bits.proofs.on_bits.Goals as goal

pub returns-then-is_nan_bits : goal.returns-then-is_nan_bits
returns-then-is_nan_bits g c h p e =
    on_nan g.R.Real.format (g.R.Real.number c.args.x) _ (ap g.R.Real.number c.NAN_BITS.ensures ∙ g.met.R.Width.nan_law)
    (sym c.is_nan_bits.ensures ∙ c.if-is_nan_bits.true) h e
