-- That a float's order by `partial_cmp` is IEEE 754's, which proves what `real::Real` asks of f64 and f32.
use Rattle.std.specs.Prelude.{◌≡◌, refl, cond, Bool, true, false, Float, None, Some}
use Rattle.std.specs.Float.Ieee as Ieee
use Rattle.std.specs.Ordering.{partial_lt, is_some_and, is_lt, float_partial_cmp}
use Rattle.std.specs.declared.cmp.Ordering.TheVariants.{Less, Equal, Greater}

by_first : (a b c : Bool) → is_some_and is_lt (cond a (Some Less) (cond b (Some Equal) (cond c (Some Greater) None))) ≡ a
by_first true b c = refl
by_first false true c = refl
by_first false false true = refl
by_first false false false = refl

pub lt_is : (x y : Float) → partial_lt float_partial_cmp x y ≡ Ieee.lt x y
lt_is x y = by_first (Ieee.lt x y) (Ieee.eq x y) (Ieee.lt y x)
