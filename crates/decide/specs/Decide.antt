-- What a program decides after a turn, and at its end.
use Rattle.std.specs.Prelude.{ℕ, Bool, true, false, List, [], ◌∷◌, Option, None, Some, if◌then◌else◌}
use Rattle.words.specs.Tests.{◌=?◌}
use Rattle.decide.specs.declared.Next.{Next}
use Rattle.decide.specs.declared.Next.TheVariants.{Go, Close, Break}

-- After a read of so many bytes or one that failed, a turn with a code that carries over so many bytes, and a write that took all or not: a
-- failure breaks off; an unknown kind, code 1, closes at once; the end of the input, a read of no byte, closes with the turn's code; else it
-- goes on.
unfoldable pub after_s : Option ℕ → ℕ → ℕ → Bool → Next
after_s None code kept sent = Break
after_s (Some n) code kept false = Break
after_s (Some n) code kept true = if code =? 1 then Close code else (if n =? 0 then Close code else Go kept)

-- what closes the output of `answers`: byte 255 and the code
abbrev pub closing_s : ℕ → List ℕ
closing_s code = 255 ∷ (code ∷ [])

-- what `answers` gives back, where the closing bytes were taken and where not
abbrev pub end_s : Option ℕ → Bool → Option ℕ
end_s code sent = if sent then code else None

-- whether such a read is the end of the input
abbrev pub at_end_s : Option ℕ → Bool
at_end_s (Some n) = n =? 0
at_end_s None = false
