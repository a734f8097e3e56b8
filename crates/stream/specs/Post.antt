-- What the forms of a batch promise, as records with named parts.
use Rattle.std.specs.Prelude.{◌≡◌, List, ℕ, ◌+◌, drop}
use Rattle.std.proofs.lemmas.List.Edits.{sets}
use Rattle.std.specs.Borrow.{Bor, MutBor}
use Rattle.records.specs.Run.{Out}

-- the second form: r is the unread tail of s, a part of that lent slice
pub record Rest (o : Out) (s r : Bor (List ℕ)) (before after : List ℕ) : Type 0 where
  pub tail : r.now ≡ drop o.tally.read s.now
  pub place : r.ref_ptr ≡ (s.ref_ptr.0, o.tally.read + s.ref_ptr.1)
  pub buffer : after ≡ sets before 0 o.bytes

-- the third form: r is the written front of a, a part of that lent slice
pub record Front (o : Out) (a r : MutBor (List ℕ)) : Type 0 where
  pub bytes : r.now ≡ o.bytes
  pub place : r.ref_ptr ≡ a.ref_ptr
