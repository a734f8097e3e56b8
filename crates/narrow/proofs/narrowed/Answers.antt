-- `narrow::narrowed` meets its contract. Assumes nothing.
use mathlib.Core.Path.{sym, subst}
use Rattle.narrow.proofs.NarrowLaws.{Narrowed, narrowed_large, narrowed_normal, narrowed_subnormal, narrowed_tiny}
use Rattle.narrow.proofs.narrowed.Goals as goal

pub returns-then-b-ge5183643171103440896 : goal.returns-then-b-ge5183643171103440896
returns-then-b-ge5183643171103440896 c = narrowed_large c.args.b c.if-b-ge5183643171103440896.true c.requires

pub returns-then-b-ge4039728865751334912 : goal.returns-then-b-ge4039728865751334912
returns-then-b-ge4039728865751334912 c =
    let b = c.args.b in
    subst (Narrowed b) (sym c.nearest29.ensures) (narrowed_normal b c.if-b-ge4039728865751334912.true c.if-b-ge5183643171103440896.false)

pub returns-then-e-lt873 : goal.returns-then-e-lt873
returns-then-e-lt873 c = narrowed_tiny c.args.b c.if-e-lt873.true

pub returns : goal.returns
returns c =
    let b = c.args.b in
    subst (Narrowed b) (sym c.nearest.ensures) (narrowed_subnormal b c.if-e-lt873.false c.if-b-ge4039728865751334912.false)
