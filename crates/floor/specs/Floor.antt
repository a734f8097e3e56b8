-- floor, floorf: the greatest whole number that is at most x. Said of the value, and not in the Rust's order: its generic/floor.rs masks the
-- bits of the fraction.
use Rattle.std.specs.Prelude.{ℕ, ◌*◌, ◌/◌, ◌%◌, Bool, cond, ℤ, pos, negsuc, ◌==◌, Float}
use Rattle.std.specs.Float.{nan, inf, fin, Format}
use Rattle.std.specs.Float.Ieee.{up, down, of_int}

-- the whole number next below ±(q and a fraction): q, or -(q + 1)
abbrev pub below : Bool → ℕ → ℤ
below s q = cond s (negsuc q) (pos q)

-- A finite x is ±(m * up e) / (down e). Where that leaves no remainder x is whole and stays as it is, -0 too.
unfoldable pub floor_s : Format → Float → Float
floor_s f nan = nan
floor_s f (inf s) = inf s
floor_s f (fin s m e) =
    cond (m * up e % down e == 0) (fin s m e) (of_int f (below s (m * up e / down e)))
