-- A line, without its newline, over any table of names: what it asks for, and the line that asks for it.
use Rattle.std.specs.Prelude.{ℕ, ◌*◌, Bool, true, false, Option, Some, None, List, [], ◌∷◌, ◌++◌, length, drop, if◌then◌else◌}
use Prim.Native.Char.{code}
use Rattle.words.specs.Tests.{◌=?◌}
use Rattle.hexadecimal.specs.Hex.{hex, number_s}
use Rattle.kinds.specs.Kinds.{shape_of}
use Rattle.text.specs.Names.{Name}
use Rattle.text.specs.declared.Request.{Request}

abbrev pub SPACE : ℕ
SPACE = code " "

-- a name and a space
abbrev pub head_of : Name → List ℕ
head_of n = n.letters ++ (SPACE ∷ [])

-- how many hex digits a number of a kind has: two a byte
abbrev pub digits_of : ℕ → ℕ
digits_of k = 2 * (shape_of k).body

-- whether s begins with p
unfoldable pub begins : List ℕ → List ℕ → Bool
begins [] s = true
begins (a ∷ p) [] = false
begins (a ∷ p) (b ∷ s) = if b =? a then begins p s else false

-- what a line asks for: nothing where it is bad, and else the bits b of a kind k
abbrev pub Asked : Type 0
Asked = Option Request

abbrev pub Bad : Asked
Bad = None

abbrev pub Ask : ℕ → ℕ → Asked
Ask k b = Some (record { kind = k; bits = b })

abbrev pub ask_of : ℕ → Option ℕ → Asked
ask_of k None = Bad
ask_of k (Some b) = Ask k b

-- what the digits s ask of a kind
abbrev pub asked_by : ℕ → List ℕ → Asked
asked_by k s = if length s =? digits_of k then ask_of k (number_s s) else Bad

-- what s asks of a kind as a line with that head
unfoldable pub asked_as : List ℕ → ℕ → List ℕ → Asked
asked_as p k s = if begins p s then asked_by k (drop (length p) s) else Bad

-- where it is no such line, what the other names say
abbrev pub or_else : Asked → Asked → Asked
or_else None later = later
or_else (Some r) later = Some r

-- what a line asks for: it is bad where it is a line of no name, and else good
unfoldable pub asked : List Name → List ℕ → Asked
asked [] s = Bad
asked (n ∷ ns) s = or_else (asked_as (head_of n) n.kind s) (asked ns s)

-- the line that asks a kind for the number with bits b; empty where the kind has no name
unfoldable pub line_of : List Name → ℕ → ℕ → List ℕ
line_of [] k b = []
line_of (n ∷ ns) k b = if k =? n.kind then head_of n ++ hex (digits_of k) b else line_of ns k b
