-- What `rvt_erf_erfc` does: erf's bits and then erfc's, as bytes of a pair of 16. A pair of another length is code 10, and is not touched.
use Rattle.std.specs.Prelude.{◌≡◌, List, ◌++◌, ℕ, length, eqb}
use Rattle.std.specs.Float.{binary64}
use Rattle.words.specs.Pick.{pick}
use Rattle.erf.specs.Erf64.{erf_s, erfc_s}
use Rattle.by_bits.specs.ByBits.{on_bits}
use Rattle.digits.specs.Digits.{digits}
use Rattle.records.specs.Codes.{number_s}
use Rattle.records.specs.declared.Code.TheVariants.{Done}

-- a call: its code, and the pair as it leaves it
pub record Call : Type 0 where
  pub code : ℕ
  pub bytes : List ℕ

-- two numbers of eight bytes, the lowest first
unfoldable pub pair_of : ℕ → ℕ → List ℕ
pair_of erf erfc = digits 8 erf ++ digits 8 erfc

abbrev pub pair_s : ℕ → List ℕ → Call
pair_s x pair =
    pick (eqb (length pair) 16)
    (record { code = number_s Done; bytes = pair_of (on_bits binary64 erf_s x) (on_bits binary64 erfc_s x) })
    (record { code = 10; bytes = pair })

-- the entry gave this code, and left the pair so
pub record Given (c : Call) (r : ℕ) (b : List ℕ) : Type 0 where
  pub code : r ≡ c.code
  pub bytes : b ≡ c.bytes
