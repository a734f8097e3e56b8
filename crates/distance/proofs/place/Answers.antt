-- `distance::place` meets its contract. Assumes nothing.
use Rattle.std.proofs.Common.{sym, ◌∙◌}
use Rattle.distance.proofs.PlaceCode.{place_below}
use Rattle.distance.proofs.place.Goals as goal

pub returns-then-bits-SIGN : goal.returns-then-bits-SIGN
returns-then-bits-SIGN g c =
    let p = g.P.Pattern in
    place_below p.format (p.number c.args.x) c.into-bits.result c.SIGN.result c.INFINITY.result
    (g.met.P.Pattern.into_law _ _ c.into-bits.ensures) (c.SIGN.ensures ∙ p.sign_law) (c.INFINITY.ensures ∙ p.infinity_law) c.if-steps-INFINITY.false (rw (c.SIGN.ensures, sym c.SIGN-2.ensures) c.if-bits-SIGN.true)
