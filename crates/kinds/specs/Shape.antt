-- The shape of a kind: of how many bytes its request and its answer are. No function is named here, and no float.
use Rattle.std.specs.Prelude.{ℕ, ◌+◌, cond, List, [], ◌∷◌, eqb, ℤ, pos, length}
use Rattle.std.specs.Int.Signed.{lt_z}

-- what a byte of an answer's tail tells
pub data Mark : Type 0 where
  sign : Mark

-- a sign's byte, 1 for plus and 255 for minus
abbrev pub sign_byte : ℤ → ℕ
sign_byte z = cond (lt_z (pos 0) z) 1 255

-- a request is a byte of its kind and a body; an answer is a byte of its kind, the values, a number of bytes each, and a tail of marks, a byte each
pub record Shape : Type 0 where
  pub kind : ℕ
  pub body : ℕ
  pub values : List ℕ
  pub tail : List Mark

abbrev pub shape : ℕ → ℕ → List ℕ → List Mark → Shape
shape k b v t = record { kind = k; body = b; values = v; tail = t }

abbrev pub total : List ℕ → ℕ
total [] = 0
total (n ∷ ns) = n + total ns

abbrev pub request_length : Shape → ℕ
request_length s = 1 + s.body

abbrev pub answer_length : Shape → ℕ
answer_length s = 1 + (total s.values + length s.tail)

-- the shape of a kind; a kind that is in no row has a body of no byte
unfoldable pub shape_in : List Shape → ℕ → Shape
shape_in [] k = shape k 0 [] []
shape_in (s ∷ ss) k = cond (eqb k s.kind) s (shape_in ss k)
