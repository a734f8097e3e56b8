-- The sums of S(x) as folds over the coefficients: `down_is`, from the last on, and `up_is`, from the first on. Assumes nothing.
use mathlib.Core.Path.{◌≡◌, refl, ap, ◌∙◌}
use mathlib.Core.List.{List, [], ◌∷◌}
use lib.Ieee.{Float}
use Rattle.std.specs.Prelude.{reverse}
use Rattle.std.specs.List.{fold}
use Rattle.std.proofs.lemmas.Grind.{reverse_onto}
use Rattle.std.proofs.lemmas.List.Sums.{fold_push}
use Rattle.words.specs.F64.{◌⊕◌, ◌⊗◌, ◌⊘◌, bits}
use Rattle.tgamma.specs.Lanczos.{down_s, up_s}

-- ---- down
abbrev down_turn : Float → Float → Float → Float
down_turn x a c = a ⊗ x ⊕ c

down_fold : (cs : List Float) (x : Float) → fold (λ (a c : Float). a ⊗ x ⊕ c) (bits 0) (reverse cs) ≡ down_s cs x
unfolding down_s
down_fold [] x = refl
down_fold (c ∷ cs) x =
    ap (λ (l : List Float). fold (down_turn x) (bits 0) l) (reverse_onto cs c [])
    ∙ fold_push (down_turn x) (bits 0) (reverse cs) c
    ∙ ap (λ (a : Float). a ⊗ x ⊕ c) (down_fold cs x)

pub down_is : (cs : List Float) (x r : Float) → r ≡ fold (λ (a c : Float). a ⊗ x ⊕ c) (bits 0) (reverse cs) → r ≡ down_s cs x
down_is cs x r h = h ∙ down_fold cs x

-- ---- up
up_fold : (cs : List Float) (x a : Float) → fold (λ (a c : Float). a ⊘ x ⊕ c) a cs ≡ up_s a cs x
unfolding up_s
up_fold [] x a = refl
up_fold (c ∷ cs) x a = up_fold cs x (a ⊘ x ⊕ c)

pub up_is : (cs : List Float) (x r : Float) → r ≡ fold (λ (a c : Float). a ⊘ x ⊕ c) (bits 0) cs → r ≡ up_s (bits 0) cs x
up_is cs x r h = h ∙ up_fold cs x (bits 0)
