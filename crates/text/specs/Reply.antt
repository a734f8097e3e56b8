-- The reply to a line and to a text, over any table of kinds: what a reply shows is the row's own answer.
use Rattle.std.specs.Prelude.{ℕ, ◌*◌, Some, None, List, [], ◌∷◌, ◌++◌, map, if◌then◌else◌}
use Rattle.words.specs.Tests.{◌=?◌}
use Rattle.hexadecimal.specs.Hex.{hex}
use Rattle.records.specs.Row.{Row, row_in}
use Rattle.records.specs.declared.Reply.{Reply}
use Rattle.text.specs.Quoted.{ascii}
use Rattle.text.specs.Names.{names}
use Rattle.text.specs.Line.{SPACE, asked, Asked}
use Rattle.text.specs.Text.{lines, text_of}

abbrev pub BAD : List ℕ
BAD = ascii "bad"

-- behind an answer's value its sign, where it has one: + for the sign byte 1, - for any other
abbrev pub sign_text : Reply → List ℕ
sign_text r = if r.more =? 0 then [] else (if r.extra =? 1 then ascii " +" else ascii " -")

-- an answer as text: a space, the value's bits in hex, two digits a byte, and the sign
unfoldable pub shown : Reply → List ℕ
shown r = SPACE ∷ (hex (2 * r.width) r.bits ++ sign_text r)

-- the line s and the answer to what it asks for
abbrev pub reply_of : List Row → List ℕ → Asked → List ℕ
reply_of T s None = BAD
reply_of T s (Some r) = s ++ shown ((row_in T r.kind).reply r.bits)

unfoldable pub reply_to : List Row → List ℕ → List ℕ
reply_to T s = reply_of T s (asked names s)

-- a reply for each line
abbrev pub replies_to : List Row → List ℕ → List ℕ
replies_to T s = text_of (map (reply_to T) (lines s))
