-- `feed::joined` meets its contract. Assumes nothing.
use native.Mathlib.Omega.{arith}
use Rattle.feed.proofs.JoinLaws.{joined_is}
use Rattle.feed.proofs.joined.Goals as goal

pub returns : goal.returns
returns c =
    let a = c.args in
    joined_is _ a.piece.now c.put.new.s c.put-2.new.s a.held c.get.result a.have a.n (λ i. (c.type_inv.piece i).fits) (omega arith) c.requires.1 c.requires.0.0
    c.put.ensures c.get.ensures c.put-2.ensures
