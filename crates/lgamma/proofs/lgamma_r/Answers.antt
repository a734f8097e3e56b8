-- `lgamma::lgamma_r` meets its contract. Assumes nothing.
use mathlib.Core.Path.{refl}
use Rattle.lgamma.specs.Lgamma64.{lgamma64}
use Rattle.lgamma.proofs.LgammaCode as code
use Rattle.lgamma.proofs.SpecialValues.{lgamma_special}
use Rattle.lgamma.proofs.lgamma_r.Goals as goal

pub returns-then-x : goal.returns-then-x
returns-then-x c = code.not_number lgamma64 lgamma_special.at_nan c.args.x c.if-x.true (refl, refl)

pub returns : goal.returns
returns c = c.log_gamma.ensures
