-- A reply in bytes: its head, then `width` bytes of `bits` and `more` bytes of `extra`.
use Rattle.std.specs.Prelude.{ℕ, List, ◌∷◌, ◌++◌}
use Rattle.digits.specs.Digits.{digits}
use Rattle.records.specs.declared.Reply.{Reply}

unfoldable pub bytes_of : Reply → List ℕ
bytes_of r = r.head ∷ (digits r.width r.bits ++ digits r.more r.extra)
