-- HornerLaws: what each return of `horner` and `hornerf` gives
pub mod HornerLaws
-- HornerExpr: Horner's rule as an expression that intervals bound
pub mod HornerExpr
