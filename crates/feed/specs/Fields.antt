-- A feed's fields, and what they mean: the bytes held as the number that they make, and how many they are.
use Rattle.std.specs.Prelude.{length, if◌then◌else◌}
use Rattle.words.specs.Tests.{◌<?◌}
use Rattle.digits.specs.Digits.{word, digits}
use Rattle.feeding.specs.Feed.{State, Open, Stopped}
use Rattle.feed.specs.declared.Feed.{Feed}

-- more bytes than 8 are a feed that has stopped
unfoldable pub meant : Feed → State
meant f = if 8 <? f.length then Stopped else Open (digits f.length f.held)

-- the fields that a call leaves: 9 for a feed that has stopped
abbrev pub fields : State → Feed
fields (Open h) = record { held = word 8 h; length = length h }
fields Stopped = record { held = 0; length = 9 }
