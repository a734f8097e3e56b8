-- What specs/Promises states; of replies and of the program, for every table of kinds. Assumes nothing.
use mathlib.Core.List.{List}
use Rattle.records.specs.Row.{Row}
use Rattle.text.specs.Names.{names}
use Rattle.text.specs.Promises.{GoodSays, SaysGood, LineBack, OneLine, LineAsks, ForthGood, ForthBad, ForthFull, ThereAndBack, BackStops, OneText, ReplyOrBad, ReplyLines, SameAnswer, ShowsValue, ShowsSign, CutsDoNotShow, AtOnce, BrokenIsFront, GivesBack, ZeroIsAll, BreaksByFailure, CarriesLittle}
use Rattle.text.proofs.LineLaws as line
use Rattle.text.proofs.TripLaws as text
use Rattle.text.proofs.ReplyLaws as reply
use Rattle.text.proofs.TypingLaws as program

pub good_says : GoodSays
good_says = line.good_says names

pub says_good : SaysGood
says_good = line.says_good

pub line_back : LineBack
line_back = line.line_back

pub one_line : OneLine
one_line = line.one_line

pub line_asks : LineAsks
line_asks = line.line_asks

pub forth_good : ForthGood
forth_good = text.forth_good

pub forth_bad : ForthBad
forth_bad = text.forth_bad

pub forth_full : ForthFull
forth_full = text.forth_full

pub there_and_back : ThereAndBack
there_and_back = text.there_and_back

pub back_stops : BackStops
back_stops = text.back_stops

pub one_text : OneText
one_text = text.one_text

pub shows_value : ShowsValue
shows_value = reply.shows_value

pub shows_sign : ShowsSign
shows_sign = reply.shows_sign

module _ (T : List Row) where
  pub reply_or_bad : ReplyOrBad T
  reply_or_bad = reply.reply_or_bad T

  pub reply_lines : ReplyLines T
  reply_lines s = (reply.reply_lines T s, reply.as_many T s)

  pub same_answer : SameAnswer T
  same_answer = reply.same_answer T

  pub cuts_do_not_show : CutsDoNotShow T
  cuts_do_not_show = program.cuts_do_not_show T

  pub at_once : AtOnce T
  at_once = program.at_once T

  pub broken_is_front : BrokenIsFront T
  broken_is_front = program.broken_is_front T

  pub gives_back : GivesBack T
  gives_back = program.gives_back T

  pub zero_is_all : ZeroIsAll T
  zero_is_all = program.zero_is_all T

  pub breaks_by_failure : BreaksByFailure T
  breaks_by_failure = program.breaks_by_failure T

  pub carries_little : CarriesLittle T
  carries_little = program.carries_little T
