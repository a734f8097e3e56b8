-- A text: lines, each with a newline behind it. A last line without its newline counts if it has a byte.
use Rattle.std.specs.Prelude.{ℕ, List, [], ◌∷◌, ◌++◌, if◌then◌else◌}
use Prim.Native.Char.{code}
use Rattle.words.specs.Tests.{◌=?◌}

abbrev pub NEWLINE : ℕ
NEWLINE = code "\n"

-- a byte at the front of the first line
abbrev pub onto : ℕ → List (List ℕ) → List (List ℕ)
onto c [] = (c ∷ []) ∷ []
onto c (l ∷ ls) = (c ∷ l) ∷ ls

-- the lines of a text, without their newlines
unfoldable pub lines : List ℕ → List (List ℕ)
lines [] = []
lines (c ∷ s) = if c =? NEWLINE then [] ∷ lines s else onto c (lines s)

-- a line with its newline
abbrev pub closed : List ℕ → List ℕ
closed l = l ++ (NEWLINE ∷ [])

-- the text of such lines, each with its newline
unfoldable pub text_of : List (List ℕ) → List ℕ
text_of [] = []
text_of (l ∷ ls) = closed l ++ text_of ls

-- A text so far: the lines that are finished by a newline, and the bytes of the one that is not.
pub record Cut : Type 0 where
  pub finished : List (List ℕ)
  pub rest : List ℕ

-- a byte at the front of it
abbrev pub before : ℕ → List (List ℕ) → List ℕ → Cut
before c [] rest = record { finished = []; rest = c ∷ rest }
before c (l ∷ ls) rest = record { finished = (c ∷ l) ∷ ls; rest = rest }

unfoldable pub cut : List ℕ → Cut
cut [] = record { finished = []; rest = [] }
cut (c ∷ s) = if c =? NEWLINE then record { finished = [] ∷ (cut s).finished; rest = (cut s).rest } else before c (cut s).finished (cut s).rest
