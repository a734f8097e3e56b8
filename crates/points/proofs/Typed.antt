-- A text that is typed and its replies, by one computation of the checker from the definitions: README.md's example. Assumes nothing.
use mathlib.Core.Path.{◌≡◌, refl}
use lib.Ieee.{add, sub, mul, div, neg, eq, lt, le, of_int, of_bits, to_bits}
use Rattle.words.specs.Fabs.{fabs_s}
use Rattle.poly.specs.Horner.{horner_s}
use Rattle.floor.specs.Floor.{floor_s}
use Rattle.whole.specs.Whole.{whole_s}
use Rattle.trig.specs.KSin.{k_sin_s}
use Rattle.sinpi.specs.Sinpi.{turn_s, quarter_s, sinpi_s}
use Rattle.lgamma.specs.Plan as lgamma
use Rattle.lgamma.specs.Plan.{size_s, reflected_s}
use Rattle.erf.specs.Plan as erf
use Rattle.hexadecimal.specs.Hex.{char_of, digit_of, hex, all_hex, value, number_s}
use Rattle.kinds.specs.Shape.{shape_in}
use Rattle.kinds.specs.Kinds.{shapes}
use Rattle.records.specs.Row.{row_in}
use Rattle.replies.specs.Table.{meanings, table}
use Rattle.text.specs.Quoted.{ascii}
use Rattle.text.specs.Names.{names}
use Rattle.text.specs.Line.{begins, asked_as, asked}
use Rattle.text.specs.Text.{lines, text_of}
use Rattle.text.specs.Reply.{shown, reply_to, replies_to}

pub typed :
    replies_to table (ascii "lgamma_r bff0000000000000\nerff 3f800000\nErf 4018000000000000\n")
    ≡ ascii "lgamma_r bff0000000000000 7ff0000000000000 +\nerff 3f800000 3f57bb3d\nbad\n"
unfolding table meanings shapes shape_in row_in reply_to shown lines text_of names asked asked_as begins number_s all_hex value digit_of hex char_of lgamma.lgamma_s size_s reflected_s sinpi_s turn_s quarter_s k_sin_s erf.erf_s erf.erfc2_s erf.erfc1_s fabs_s horner_s floor_s whole_s add sub mul div neg eq lt le of_int of_bits to_bits
typed = refl
