-- The program of lines, over any table of kinds: what it does in a turn with the bytes carried over and what the read brought. At the end of
-- the input the unfinished line counts.
use Rattle.std.specs.Prelude.{ℕ, Bool, true, false, List, [], ◌++◌, map, take}
use Rattle.records.specs.Row.{Row}
use Rattle.decide.specs.Decide.{at_end_s}
use Rattle.session.specs.Session.{returned, piece, Turn, Program}
use Rattle.text.specs.Text.{text_of, cut}
use Rattle.text.specs.Reply.{reply_to, replies_to}

-- Of an unfinished line the first 26 bytes are carried over: a line of so many is bad, whatever follows.
abbrev pub KEPT : ℕ
KEPT = 26

-- a turn over the text s: its finished lines are answered, and at the end of the input all of them
abbrev pub turn_on : List Row → Bool → List ℕ → Turn
turn_on T true s = record { bytes = replies_to T s; code = 0; left = [] }
turn_on T false s = record { bytes = text_of (map (reply_to T) (cut s).finished); code = 0; left = take KEPT (cut s).rest }

-- nothing closes the output
abbrev pub typing : List Row → Program
typing T = record { turn = λ rest h. turn_on T (at_end_s (returned h)) (rest ++ piece h); closing = λ code. [] }
