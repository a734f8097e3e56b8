-- `poly::horner` ends because the list gets shorter.
use Rattle.std.proofs.Common.{length}
use Rattle.poly.proofs.+horner.Given as goal

abbrev pub decreases-horner : goal.decreases-horner
decreases-horner g l = length l.c.now
