-- `text::ask_kind` meets its contract: the number of digits first, and then the number that they say. Assumes nothing.
use Rattle.std.specs.Prelude.{Some, None}
use mathlib.Core.Path.{◌≡◌, sym, ◌∙◌}
use native.Mathlib.Omega.{arith}
use lib.ListN.{length}
use Rattle.kinds.proofs.ShapeLaws.{body_small}
use Rattle.text.specs.Line.{digits_of}
use Rattle.text.proofs.HeadLaws.{by_length, by_number}
use Rattle.text.proofs.ask_kind.Goals as goal

pub overflow_mul-body : goal.overflow_mul-body
overflow_mul-body c = record { fits = omega (arith, c.body.ensures, body_small c.args.kind) }

-- there are as many digits as the kind's numbers have, or not
pub returns-then-digits-body : goal.returns-then-digits-body
returns-then-digits-body c =
    let a = c.args in
    sym (by_length a.kind a.digits.now (λ e. omega (arith, c.if-digits-body.true, c.body.ensures)))

pub returns-in_err-bits : goal.returns-in_err-bits
returns-in_err-bits c =
    let a = c.args in
    let l : length a.digits.now ≡ digits_of a.kind = omega (arith, c.if-digits-body.false, c.body.ensures) in
    c.from_residual.ensures ∙ sym (by_number a.kind a.digits.now None l (sym c.in_err-bits.ensures))

pub returns : goal.returns
returns c =
    let a = c.args in
    let l : length a.digits.now ≡ digits_of a.kind = omega (arith, c.if-digits-body.false, c.body.ensures) in
    sym (by_number a.kind a.digits.now (Some c.in_ok-bits.bits) l (sym c.in_ok-bits.ensures))
