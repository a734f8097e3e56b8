-- `by_bits::erf_erfc_bits` meets its contract: a NaN's pattern gives a NaN's, twice. Assumes nothing.
use mathlib.Core.Path.{sym, ◌∙◌, refl}
use lib.Ieee.{binary64, to_bits}
use Rattle.erf.specs.Erf64.{erf_s, erfc_s}
use Rattle.erf.proofs.Laws64.{erf_special}
use Rattle.by_bits.proofs.NanLaws.{on_nan}
use Rattle.by_bits.proofs.erf_erfc_bits.Goals as goal

pub returns-then-is_nan_bits : goal.returns-then-is_nan_bits
unfolding to_bits
returns-then-is_nan_bits c =
    let x = c.args.x in
    let h = sym c.is_nan_bits.ensures ∙ c.if-is_nan_bits.true in
    (on_nan binary64 x _ refl h erf_s erf_special.erf_nan, on_nan binary64 x _ refl h erfc_s erf_special.erfc_nan)
