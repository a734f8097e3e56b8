-- `text::trip::RecordsStep::step` meets its contract: the tests that led to each return say which case of `to_line` it is. Assumes nothing.
use Rattle.std.specs.Prelude.{Some}
use mathlib.Core.Path.{◌≡◌, refl, sym, ap, ◌∙◌}
use mathlib.Core.List.{List, [], ◌∷◌, ◌++◌}
use Prim.Native.Nat.{ℕ, ◌+◌, ◌*◌, ◌≤◌, ◌<◌}
use native.Mathlib.Omega.{arith}
use lib.ListN.{length, length-append}
use Rattle.std.proofs.lemmas.List.{nil_from_length}
use Rattle.digits.specs.Digits.{word}
use Rattle.digits.proofs.DigitLaws.{word_take}
use Rattle.hexadecimal.specs.Hex.{hex}
use Rattle.hexadecimal.proofs.HexLaws.{length_hex}
use Rattle.kinds.specs.Kinds.{shape_of}
use Rattle.kinds.proofs.ShapeLaws.{body_small}
use Rattle.records.specs.Run.{choose}
use Rattle.records.specs.declared.Code.TheVariants.{Done, Unknown, Cut, Full}
use Rattle.records.proofs.StepLaws.{choose_unknown, choose_cut, choose_full, choose_whole, did_stop, did_took}
use Rattle.text.specs.Names.{names}
use Rattle.text.specs.Line.{line_of}
use Rattle.text.specs.Rows.{head_for}
use Rattle.text.specs.Text.{NEWLINE, closed}
use Rattle.text.specs.Trip.{body_in, to_line}
use Rattle.text.proofs.RowLaws.{told, told_none}
use Rattle.text.proofs.PlaceLaws.{line_at}
use Rattle.text.proofs.trip.RecordsStep.step.Goals as goal

-- the line of a head, a width and bits
abbrev line : List ℕ → ℕ → ℕ → List ℕ
line h width bits = closed (h ++ hex (2 * width) bits)

-- a kind with a name, where the width of its body is known
module _ (kind : ℕ) (h : List ℕ) (named : Some h ≡ head_for names kind) (width : ℕ) (body : width ≡ (shape_of kind).body) where
  width_is : (width ≡ body_in names kind) × (0 < width)
  width_is = let w = told kind h named in (body ∙ sym w.body_is, omega (arith, w.body_is, w.some))

  line_length : (bits : ℕ) → length (line h width bits) ≡ length h + 2 * width + 1
  line_length bits =
      omega (arith, length_hex (2 * width) bits, length-append h (hex (2 * width) bits), length-append (h ++ hex (2 * width) bits) (NEWLINE ∷ []))

  line_is : (bits : ℕ) → line h width bits ≡ closed (line_of names kind bits)
  line_is bits = ap closed (ap (λ (w : ℕ). h ++ hex (2 * w) bits) body ∙ sym ((told kind h named).line bits))

-- what the step does with a record whose kind has a name, and whose bits are told
module _ (q s : List ℕ) (k : ℕ) (front : q ≡ k ∷ s) (room : ℕ) (h : List ℕ) (named : Some h ≡ head_for names k) (width : ℕ) (body : width ≡ (shape_of k).body) where
  is_line : (bits : ℕ) → bits ≡ word width s → to_line names q room ≡ choose width (length s) room (line h width bits)
  is_line bits e =
      ap (λ (x : List ℕ). to_line names x room) front
      ∙ line_at names k s room width (line h width bits) (width_is k h named width body).0 (line_is k h named width body bits ∙ ap (λ (b : ℕ). closed (line_of names k b)) e)

pub returns-in_default : goal.returns-in_default
unfolding to_line
returns-in_default c =
    let none : c.args.requests.now ≡ [] = nil_from_length _ c.in_default.ensures.cases in
    did_stop _ _ Done 0 c.args.text.now c.stopped.ensures (ap (λ (x : List ℕ). to_line names x (length c.args.text.now)) none)

pub returns-in_default-name_of : goal.returns-in_default-name_of
returns-in_default-name_of c =
    let s = c.in-Some.rest.now in
    let k = c.in-Some.field-0-0.now in
    let room = length c.args.text.now in
    let x = closed (line_of names k (word (body_in names k) s)) in
    did_stop _ _ Unknown 0 c.args.text.now c.stopped-in_default-name_of.ensures
    (ap (λ (y : List ℕ). to_line names y room) c.in-Some.ensures.cases.0 ∙ line_at names k s room (body_in names k) x refl refl
    ∙ choose_unknown (body_in names k) (length s) room x (told_none k c.in_default-name_of.ensures))

pub returns-then-rest-width : goal.returns-then-rest-width
returns-then-rest-width c =
    let s = c.in-Some.rest.now in
    let k = c.in-Some.field-0-0.now in
    let room = length c.args.text.now in
    let h = c.in-Some-name_of.head.now in
    let w = c.body-width.result in
    let bits = word w s in
    let named = c.in-Some-name_of.ensures in
    let body = c.body-width.ensures in
    did_stop _ _ Cut 0 c.args.text.now c.stopped-then-rest-width.ensures
    (is_line _ s k c.in-Some.ensures.cases.0 room h named w body bits refl
    ∙ choose_cut w (length s) room (line h w bits) (omega (arith, (width_is k h named w body).1)) c.if-rest-width.true)

pub overflow_add-length : goal.overflow_add-length
overflow_add-length c =
    let k = c.in-Some.field-0-0.now in
    record { fits = omega (arith, c.body-width.ensures, body_small k, (told k c.in-Some-name_of.head.now c.in-Some-name_of.ensures).short) }

pub overflow_add-length-2 : goal.overflow_add-length-2
overflow_add-length-2 c =
    let k = c.in-Some.field-0-0.now in
    record { fits = omega (arith, c.body-width.ensures, body_small k, (told k c.in-Some-name_of.head.now c.in-Some-name_of.ensures).short) }

pub returns-then-text-length : goal.returns-then-text-length
returns-then-text-length c =
    let s = c.in-Some.rest.now in
    let k = c.in-Some.field-0-0.now in
    let room = length c.args.text.now in
    let h = c.in-Some-name_of.head.now in
    let w = c.body-width.result in
    let bits = word w s in
    let named = c.in-Some-name_of.ensures in
    let body = c.body-width.ensures in
    did_stop _ _ Full 0 c.args.text.now c.stopped-then-text-length.ensures
    (is_line _ s k c.in-Some.ensures.cases.0 room h named w body bits refl
    ∙ choose_full w (length s) room (line h w bits) (omega (arith, (width_is k h named w body).1)) (omega arith)
    (omega (arith, line_length k h named w body bits)))

pub put_line-requires : goal.put_line-requires
put_line-requires c =
    let k = c.in-Some.field-0-0.now in
    (omega (arith, c.body-width.ensures, body_small k), omega arith)

pub returns : goal.returns
returns c =
    let s = c.in-Some.rest.now in
    let k = c.in-Some.field-0-0.now in
    let room = length c.args.text.now in
    let h = c.in-Some-name_of.head.now in
    let w = c.body-width.result in
    let bits = c.get.result in
    let named = c.in-Some-name_of.ensures in
    let body = c.body-width.ensures in
    let small : w ≤ 8 = omega (arith, body, body_small k) in
    let long = line_length k h named w body bits in
    did_took _ _ w _ 0 (line h w bits) c.args.text.now c.put_line.new.text c.took.ensures
    (is_line _ s k c.in-Some.ensures.cases.0 room h named w body bits (c.get.ensures ∙ word_take 8 w s small)
    ∙ choose_whole w (length s) room (line h w bits) (omega (arith, (width_is k h named w body).1)) (omega arith) (omega (arith, long)))
    (sym long) c.put_line.ensures
