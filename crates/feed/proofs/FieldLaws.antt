-- What a feed's fields mean, over any table. Assumes nothing.
use mathlib.Core.Path.{◌≡◌, refl, sym, ap, ◌∙◌}
use mathlib.Core.Bool.{true, false}
use mathlib.Core.List.{List, [], ◌∷◌, ◌++◌, append-nil}
use mathlib.Core.Logic.{⊎_elim}
use Prim.Native.Nat.{ℕ, suc, ◌+◌, ◌-◌, ◌/◌, ◌%◌, ◌≤◌, ◌<◌}
use native.Mathlib.Omega.{arith}
use borrow.Author.Tests.{lt-ltb, le-ltb}
use lib.ListN.{length, length-append}
use Rattle.digits.specs.Digits.{word, digits}
use Rattle.digits.proofs.DigitLaws.{digits_more, length_digits}
use Rattle.records.specs.declared.Code.TheVariants.{Done, Unknown}
use Rattle.records.specs.Row.{Row, row_in}
use Rattle.feeding.specs.Feed.{State, Open, Stopped, begun, ends, goes, takes, call, close}
use Rattle.feeding.proofs.TakeLaws.{le_or, call_open}
use Rattle.feeding.proofs.RecordLaws.{takes_start}
use Rattle.feeding.proofs.Promised.{stays_stopped, no_start}
use Rattle.feed.specs.Fields.{meant}
use Rattle.feed.specs.declared.Feed.{Feed}

pub none_held : word 8 [] ≡ 0
unfolding word
none_held = refl

pub meant_open : (f : Feed) → f.length ≤ 8 → meant f ≡ Open (digits f.length f.held)
unfolding meant
meant_open f h = rw (le-ltb 8 f.length h)

meant_stopped : (f : Feed) → 8 < f.length → meant f ≡ Stopped
unfolding meant
meant_stopped f h = rw (lt-ltb 8 f.length h)

pub meant_none : (f : Feed) → f.length ≡ 0 → meant f ≡ Open []
unfolding digits
meant_none f e = meant_open f (omega arith) ∙ ap (λ (n : ℕ). Open (digits n f.held)) e

-- where some bytes are held: the kind, and a part of its body
module _ (T : List Row) (x n : ℕ) (held : 0 < n) where
  abbrev pub kind : ℕ
  kind = x % 256

  abbrev pub part : List ℕ
  part = digits (n - 1) (x / 256)

  pub held_is : digits n x ≡ kind ∷ part
  held_is = digits_more n x held

  pub part_length : suc (length part) ≡ n
  part_length = omega (arith, length_digits (n - 1) (x / 256))

  pub held_begun : n ≤ (row_in T kind).width → begun T (digits n x) ≡ true
  unfolding begun
  held_begun h = ap (begun T) held_is ∙ lt-ltb (length part) (row_in T kind).width (omega (arith, part_length))

  held_not : (row_in T kind).width < n → begun T (digits n x) ≡ false
  unfolding begun
  held_not h = ap (begun T) held_is ∙ le-ltb (length part) (row_in T kind).width (omega (arith, part_length))

-- fields that hold the start of a record, and the record begun with more bytes behind them
module _ (T : List Row) (f : Feed) (z : 0 < f.length) (small : (row_in T (f.held % 256)).width ≤ 8) (le : f.length ≤ (row_in T (f.held % 256)).width) where
  abbrev h : List ℕ
  h = digits f.length f.held

  pub opened : (p : List ℕ) (room : ℕ) → call T (meant f) p room ≡ takes T h p room
  opened p room = ap (λ (y : State). call T y p room) (meant_open f (omega arith)) ∙ call_open T h p room (held_begun T f.held f.length z le)

  pub held_short : (p : List ℕ) (room : ℕ) → f.length + length p ≤ (row_in T (f.held % 256)).width →
      call T (meant f) p room ≡ goes (length p) [] (ends (Open (h ++ p)) Done)
  unfolding begun takes
  held_short p room l =
      let b : begun T (h ++ p) ≡ true =
      ap (λ (y : List ℕ). begun T (y ++ p)) (held_is T f.held f.length z)
      ∙ lt-ltb (length (part T f.held f.length z ++ p)) (row_in T (f.held % 256)).width
      (omega (arith, length-append (part T f.held f.length z) p, part_length T f.held f.length z)) in
      opened p room ∙ ap (λ (y : List ℕ). takes T h y room) (sym (append-nil p)) ∙ takes_start T h p [] room b

-- fields that hold no start of a record
pub held_stopped : (T : List Row) (f : Feed) → 0 < f.length → (row_in T (f.held % 256)).width < f.length →
    ((p : List ℕ) (room : ℕ) → call T (meant f) p room ≡ ends Stopped Unknown) × (close T (meant f) ≡ record { feed = Stopped; code = Unknown })
held_stopped T f z h =
    let s = stays_stopped T in
    ⊎_elim
    (λ (b : f.length ≤ 8).
    let e = meant_open f b in
    let n = no_start T (digits f.length f.held) (held_not T f.held f.length z h) in
    (λ p room. ap (λ (y : State). call T y p room) e ∙ n.0 p room ∙ s.0 p room, ap (close T) e ∙ n.1 ∙ s.1))
    (λ (b : 8 < f.length).
    let e = meant_stopped f b in
    (λ p room. ap (λ (y : State). call T y p room) e ∙ s.0 p room, ap (close T) e ∙ s.1))
    (le_or f.length 8)
