-- Laws of the shapes that there are, each by one test of the rows. Assumes nothing.
use mathlib.Core.Path.{◌≡◌, refl}
use mathlib.Core.Bool.{Bool, true, false, ◌&&◌, cond}
use mathlib.Core.List.{List, [], ◌∷◌}
use Prim.Native.Nat.{ℕ, ◌*◌, ◌≤◌}
use lib.Dec.{T, leb, eqb, leb→le}
use Rattle.kinds.specs.Shape.{Shape, shape, shape_in, request_length, answer_length}
use Rattle.kinds.specs.Kinds.{shapes, shape_of, longest_answer}
use Rattle.kinds.proofs.Every.{and_left, and_right}

-- the test passes at each row
abbrev pub rows : (Shape → Bool) → List Shape → Bool
rows f [] = true
rows f (s ∷ ss) = f s && rows f ss

either : (f : Shape → Bool) (t : Bool) (a b : Shape) → T (f a) → T (f b) → T (f (cond t a b))
either f true a b p q = p
either f false a b p q = q

-- what passes at each row, and where there is none, passes at every kind
pub rows_at : (f : Shape → Bool) (ss : List Shape) → T (rows f ss) → ((k : ℕ) → T (f (shape k 0 [] []))) → (k : ℕ) → T (f (shape_in ss k))
unfolding shape_in
rows_at f [] t n k = n k
rows_at f (s ∷ ss) t n k = either f (eqb k s.kind) s (shape_in ss k) (and_left (f s) (rows f ss) t) (rows_at f ss (and_right (f s) (rows f ss) t) n k)

-- a body is of at most eight bytes
pub body_small : (k : ℕ) → (shape_of k).body ≤ 8
unfolding shapes
body_small k = leb→le _ _ (rows_at (λ s. leb s.body 8) shapes tt (λ _. tt) k)

-- an answer is at most twice as long as its request
pub answer_light : (k : ℕ) → answer_length (shape_of k) ≤ 2 * request_length (shape_of k)
unfolding shapes
answer_light k = leb→le _ _ (rows_at (λ s. leb (answer_length s) (2 * request_length s)) shapes tt (λ _. tt) k)

-- no answer is longer than the longest, and kind 7 has one that long
pub answer_longest : (k : ℕ) → answer_length (shape_of k) ≤ longest_answer
unfolding shapes
answer_longest k = leb→le _ _ (rows_at (λ s. leb (answer_length s) longest_answer) shapes tt (λ _. tt) k)

pub longest_reached : answer_length (shape_of 7) ≡ longest_answer
unfolding shapes shape_in
longest_reached = refl
