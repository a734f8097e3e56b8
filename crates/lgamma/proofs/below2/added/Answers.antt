-- `lgamma::below2::added` meets its contract. Assumes nothing.
use Rattle.lgamma.specs.Plan.{added_s}
use Rattle.lgamma.proofs.below2.added.Goals as goal

pub returns-in-Zero : goal.returns-in-Zero
unfolding added_s
returns-in-Zero g c = rw (c.zero.ensures, c.in-Zero.is)

pub returns-in-One : goal.returns-in-One
unfolding added_s
returns-in-One g c = rw (c.one.ensures, c.in-One.is)

pub returns-in-Two : goal.returns-in-Two
unfolding added_s
returns-in-Two g c = rw (c.two.ensures, c.in-Two.is)
