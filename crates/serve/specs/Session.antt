-- What the program `answers` does in a turn, which makes it a program in turns (session/specs/Session).
use Rattle.std.specs.Prelude.{List, [], ◌∷◌, ◌++◌, ℕ, drop, Some}
use Rattle.replies.specs.Table.{table}
use Rattle.records.specs.Codes.{number_s}
use Rattle.records.specs.Run.{Out, run}
use Rattle.decide.specs.Decide.{closing_s}
use Rattle.session.specs.Session.{Heard, piece, Program, Said}

-- A turn: the unread bytes and those that the read brought, a batch over them, and what it left.
abbrev pub there : List ℕ → Heard → List ℕ
there rest h = rest ++ piece h

abbrev pub done : ℕ → List ℕ → Heard → Out
done room rest h = run table (there rest h) room

abbrev pub left : ℕ → List ℕ → Heard → List ℕ
left room rest h = drop (done room rest h).tally.read (there rest h)

-- The program, with so much room for the answers of a turn.
abbrev pub answering : ℕ → Program
answering room =
    record {
      turn = λ rest h. record { bytes = (done room rest h).bytes; code = number_s (done room rest h).code; left = left room rest h };
      closing = closing_s;
    }

-- a batch, and the closing bytes
abbrev pub closed : Out → Said
closed o = record { bytes = o.bytes ++ (255 ∷ (number_s o.code ∷ [])); code = Some (number_s o.code) }
