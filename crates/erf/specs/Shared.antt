-- y, of which the private functions make erf and erfc. It stands here since their contracts cite it; no public promise does.
use Rattle.std.specs.Prelude.{◌≡◌, ℕ, ◌≤◌, ◌<◌, Float}
use Rattle.erf.specs.Plan.{Plan, erfc2_s, small_s}

-- y is what both are made of, where ix lies from one cut on and below another: small_s below 0.84375, and erfc2_s from there on
pub record Made (p : Plan) (from upto ix : ℕ) (x y : Float) : Type 0 where
  pub small : from ≤ ix → ix < p.at0·84375 → y ≡ small_s p x
  pub tail : p.at0·84375 ≤ ix → ix < upto → y ≡ erfc2_s p ix x
