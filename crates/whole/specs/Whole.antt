-- The whole part, the Rust's `as i32`, `as isize` and `as usize` on a float: what is left when the fraction is cut off, toward zero. Said of
-- the value; the Rust leaves it to the compiler. And whether there is a fraction, for which the Rust asks by x == floor(x).
use Rattle.std.specs.Prelude.{ℕ, ◌*◌, ◌/◌, ◌%◌, ◌^◌, Bool, false, not, cond, ℤ, pos, neg_ℤ, eqb, ltb, Float}
use Rattle.std.specs.Float.{nan, inf, fin}
use Rattle.std.specs.Float.Ieee.{up, down}

-- ±q
abbrev pub signed : Bool → ℕ → ℤ
signed s q = cond s (neg_ℤ (pos q)) (pos q)

-- ±q where q is below 2 ^ 31, else 0, where the Rust gives the end of the range
abbrev pub small : Bool → ℕ → ℤ
small s q = cond (ltb q (2 ^ 31)) (signed s q) (pos 0)

-- a finite x is ±(m * up e) / (down e); an infinity has 0, where the Rust gives the end of the range, and so has a NaN
unfoldable pub whole_s : Float → ℤ
whole_s nan = pos 0
whole_s (inf s) = pos 0
whole_s (fin s m e) = small s (m * up e / down e)

-- whether the division leaves a remainder, from 2 ^ 31 on too; an infinity and a NaN have no fraction
unfoldable pub has_fraction_s : Float → Bool
has_fraction_s nan = false
has_fraction_s (inf s) = false
has_fraction_s (fin s m e) = not (eqb (m * up e % down e) 0)
