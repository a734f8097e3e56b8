-- `tgammaf::tgammaf` meets its contract. Assumes nothing.
use mathlib.Core.Path.{ap, ◌∙◌}
use mathlib.Core.Bool.{not}
use lib.Ieee.{binary64, fits, is_nan}
use lib.Ieee.Fits.{and_i, fits_widens}
use Rattle.words.proofs.PatternLaws.{nan_kept, not_nan}
use Rattle.narrow.specs.Narrow.{narrow_s}
use Rattle.tgammaf.specs.Tgammaf.{tgammaf_s}
use Rattle.tgammaf.proofs.SpecialValues.{tgammaf_special}
use Rattle.tgammaf.proofs.tgammaf.Goals as goal

pub returns-then-x : goal.returns-then-x
returns-then-x c = nan_kept tgammaf_s tgammaf_special.at_nan c.args.x c.if-x.true

pub float_to_float-x : goal.float_to_float-x
float_to_float-x c =
    let x = c.args.x in
    and_i (fits binary64 x) (not (is_nan x)) (fits_widens x (rw c.well_formed.0.1 tt)) (not_nan x c.if-x.false)

pub returns : goal.returns
unfolding tgammaf_s
returns c = c.narrow.ensures ∙ ap narrow_s c.tgamma.ensures
