-- The table of kinds: for each its function by bits, answered in the shape that `kinds` gives it.
use Rattle.std.specs.Prelude.{ℕ, ◌+◌, ◌%◌, ◌^◌, List, [], ◌∷◌, map, ℤ, length}
use Rattle.std.specs.Float.{binary32, binary64}
use Rattle.tgamma.specs.Tgamma.{tgamma_s}
use Rattle.lgamma.specs.Lgamma64.{lgamma_s}
use Rattle.erf.specs.Erf64.{erf_s, erfc_s}
use Rattle.lgammaf.specs.Lgammaf.{lgammaf_s}
use Rattle.tgammaf.specs.Tgammaf.{tgammaf_s}
use Rattle.erff.specs.Erff.{erff_s, erfcf_s}
use Rattle.kinds.specs.Shape.{Shape, total, sign_byte}
use Rattle.kinds.specs.Kinds.{shape_of}
use Rattle.by_bits.specs.ByBits.{on_bits, value_on_bits, sign_on_bits}
use Rattle.records.specs.declared.Reply.{Reply}
use Rattle.records.specs.Row.{Row, row_in}

-- what a kind's answer says to the number that a body makes: the first value, and all that stands behind it as one number
pub record Meaning : Type 0 where
  pub kind : ℕ
  pub value : ℕ → ℕ
  pub behind : ℕ → ℕ

-- one value
abbrev pub plain : ℕ → (ℕ → ℕ) → Meaning
plain k f = record { kind = k; value = f; behind = λ b. 0 }

-- one value and its sign
abbrev pub signed : ℕ → (ℕ → ℕ) → (ℕ → ℤ) → Meaning
signed k f s = record { kind = k; value = f; behind = λ b. sign_byte (s b) }

-- two values, the second behind the first
abbrev pub paired : ℕ → (ℕ → ℕ) → (ℕ → ℕ) → Meaning
paired k f g = record { kind = k; value = f; behind = g }

unfoldable pub meanings : List Meaning
meanings =
    plain 1 (on_bits binary64 tgamma_s)
    ∷ signed 2 (value_on_bits binary64 lgamma_s) (sign_on_bits binary64 lgamma_s)
    ∷ plain 3 (on_bits binary64 erf_s)
    ∷ plain 4 (on_bits binary64 erfc_s)
    ∷ paired 7 (on_bits binary64 erf_s) (on_bits binary64 erfc_s)
    ∷ signed 17 (value_on_bits binary32 lgammaf_s) (sign_on_bits binary32 lgammaf_s)
    ∷ plain 18 (on_bits binary32 tgammaf_s)
    ∷ plain 19 (on_bits binary32 erff_s)
    ∷ plain 20 (on_bits binary32 erfcf_s)
    ∷ []

-- the bytes of the first value, and of the others
abbrev pub first_width : List ℕ → ℕ
first_width [] = 0
first_width (n ∷ ns) = n

abbrev pub other_widths : List ℕ → ℕ
other_widths [] = 0
other_widths (n ∷ ns) = total ns

-- an answer of a shape
abbrev pub answer : Shape → ℕ → ℕ → Reply
answer s v e = record { head = 128 + s.kind; width = first_width s.values; bits = v; more = other_widths s.values + length s.tail; extra = e }

-- a kind's row: its shape, and what is said in it
abbrev pub row_of : Meaning → Row
row_of m = record { kind = m.kind; width = (shape_of m.kind).body; reply = λ b. answer (shape_of m.kind) (m.value b) (m.behind b) }

unfoldable pub table : List Row
table = map row_of meanings

-- the reply to a kind and a number, of which as many of the lowest bytes count as the kind's body has
abbrev pub reply_s : ℕ → ℕ → Reply
reply_s k b = (row_in table k).reply (b % 256 ^ (row_in table k).width)
