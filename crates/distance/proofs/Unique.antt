-- The contract determines its answer, in either width: any two answers that it allows for the same arguments coincide. Assumes nothing.
use Rattle.std.proofs.Common.{◌≡◌, ℕ, sym, ◌∙◌, Option}
use contract.Lifetimes.{Lfts}
use denote.RattleType.{RattleType}
use denote.Param.Laws.{Laws, IsCopy}
use Rattle.distance.proofs.distance.Reads as distance

pub distance_determined : (P : RattleType) (l : Laws P) (c : IsCopy P) (p : _) (d : _) (n : _) (e : _) (t : _) (f : _)
    (κs : Lfts 1) (a : _) (r r' : Option ℕ) (s s' : _) → distance.Post P l c p d n e t f κs a r s → distance.Post P l c p d n e t f κs a r' s' → r ≡ r'
distance_determined P l c p d n e t f κs a r r' s s' x y = x ∙ sym y
