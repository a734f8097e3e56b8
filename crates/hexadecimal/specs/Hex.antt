-- Numbers in lower-case hex, the highest digit first.
use Rattle.std.specs.Prelude.{ℕ, zero, suc, ◌+◌, ◌-◌, ◌*◌, ◌^◌, ◌/◌, ◌%◌, Option, Some, None, Bool, true, false, List, [], ◌∷◌, length, if◌then◌else◌}
use Prim.Native.Char.{code}
use Rattle.words.specs.Tests.{◌<?◌, ◌≤?◌}

-- the character of a digit: 0 to 9, a to f
unfoldable pub char_of : ℕ → ℕ
char_of d = if d <? 10 then code "0" + d else code "a" + (d - 10)

-- the digit that a character is, 16 where it is none
unfoldable pub digit_of : ℕ → ℕ
digit_of c =
    if c <? code "0" then 16 else
    if c ≤? code "9" then c - code "0" else
    if c <? code "a" then 16 else
    if c ≤? code "f" then c - code "a" + 10 else
    16

-- and so none where it is none
unfoldable pub digit_s : ℕ → Option ℕ
digit_s c = if digit_of c <? 16 then Some (digit_of c) else None

-- the w lowest digits of x
unfoldable pub hex : ℕ → ℕ → List ℕ
hex zero x = []
hex (suc w) x = char_of (x / 16 ^ w % 16) ∷ hex w x

-- whether a text is of digits alone
unfoldable pub all_hex : List ℕ → Bool
all_hex [] = true
all_hex (c ∷ s) = if digit_of c <? 16 then all_hex s else false

-- the number that they make
unfoldable pub value : List ℕ → ℕ
value [] = 0
value (c ∷ s) = digit_of c * 16 ^ length s + value s

-- what a text says as a number: at most 16 digits, and nothing else; no digit at all is 0
unfoldable pub number_s : List ℕ → Option ℕ
number_s s = if length s ≤? 16 then (if all_hex s then Some (value s) else None) else None
