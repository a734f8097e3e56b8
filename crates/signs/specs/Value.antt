-- What the sign theorem speaks of, of a value. A float is NaN, an infinity, or `fin s m e`: the number m * 2 ^ e, with a minus sign where s is
-- true. 2 ^ e is the fraction up e / down e of two whole numbers, one of which is 1. -0 is `fin true 0 (pos 0)`.
use Rattle.std.specs.Prelude.{ℕ, ◌*◌, ◌/◌, ◌%◌, ◌<◌, ◌≡◌, true, Float}
use Rattle.std.specs.Float.{nan, inf, fin}
use Rattle.std.specs.Float.Ieee.{up, down}

-- neither NaN nor an infinity
abbrev pub Finite : Float → Type 0
Finite nan = ⊥
Finite (inf s) = ⊥
Finite (fin s m e) = Unit

-- it carries a minus sign, as -0 does
abbrev pub Minus : Float → Type 0
Minus nan = ⊥
Minus (inf s) = s ≡ true
Minus (fin s m e) = s ≡ true

-- the whole part of the size of a finite number: what is left when the sign and the fraction are taken away
abbrev pub whole_part : Float → ℕ
whole_part nan = 0
whole_part (inf s) = 0
whole_part (fin s m e) = m * up e / down e

-- a minus sign, not zero, and no fraction: -1, -2, -3, ...
abbrev pub NegativeWhole : Float → Type 0
NegativeWhole nan = ⊥
NegativeWhole (inf s) = ⊥
NegativeWhole (fin s m e) = (s ≡ true) × (0 < m) × (m * up e % down e ≡ 0)
