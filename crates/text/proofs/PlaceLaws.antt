-- A line and a record at the front: which case of `to_request` and of `to_line` it is, in the code's own numbers. Assumes nothing.
use Rattle.std.specs.Prelude.{if◌then◌else◌}
use mathlib.Core.Path.{◌≡◌, refl, sym, ap, ◌∙◌}
use mathlib.Core.Bool.{Bool, true, false, cond}
use mathlib.Core.List.{List, [], ◌∷◌}
use Prim.Native.Nat.{ℕ, suc, ◌+◌, ◌-◌, ◌≤◌, ◌<◌, min}
use native.Mathlib.Omega.{arith}
use borrow.Author.Tests.{ltb-false, lt-ltb, le-ltb}
use lib.ListN.{length, take}
use lib.Dec.{ltb}
use Rattle.std.proofs.Common.{Some, None}
use Rattle.std.specs.Option.{unwrap_or}
use Rattle.std.specs.List.{position_or_len}
use Rattle.std.proofs.lemmas.List.Recursion.{is_position_or_len}
use Rattle.words.specs.Tests.{◌=?◌}
use Rattle.digits.specs.Digits.{word}
use Rattle.digits.proofs.DigitLaws.{length_digits}
use Rattle.kinds.specs.Kinds.{shape_of}
use Rattle.records.specs.declared.Code.TheVariants.{Full}
use Rattle.records.specs.Run.{stop, took, choose}
use Rattle.text.specs.Names.{Name}
use Rattle.text.specs.Line.{asked, line_of, Asked, Ask}
use Rattle.text.specs.Text.{NEWLINE, closed}
use Rattle.text.specs.Trip.{record_of, first_line, as_request, to_request, body_in, to_line}

-- ---- the first line of a text

-- it stands at the front of the text
pub first_take : (s : List ℕ) → take (length (first_line s)) s ≡ first_line s
unfolding first_line
first_take [] = refl
first_take (c ∷ s) = by (c =? NEWLINE) (first_take s)
  where
    by : (t : Bool) → take (length (first_line s)) s ≡ first_line s → take (length (if t then [] else c ∷ first_line s)) (c ∷ s) ≡ (if t then [] else c ∷ first_line s)
    by true e = refl
    by false e = ap (λ (l : List ℕ). c ∷ l) e

pub first_in : (s : List ℕ) → length (first_line s) ≤ length s
unfolding first_line
first_in [] = omega arith
first_in (c ∷ s) = by (c =? NEWLINE) (first_in s)
  where
    by : (t : Bool) → length (first_line s) ≤ length s → length (if t then [] else c ∷ first_line s) ≤ suc (length s)
    by true h = omega arith
    by false h = omega arith

-- its length is the place of the first newline, or all of the text
pub first_place : (s : List ℕ) → length (first_line s) ≡ position_or_len (λ c. c =? NEWLINE) s
unfolding first_line
first_place s = is_position_or_len (λ (t : List ℕ). length (first_line t)) (λ c. c =? NEWLINE) refl (λ c t. by c t (c =? NEWLINE)) s
  where
    by : (c : ℕ) (t : List ℕ) (b : Bool) → length (if b then [] else c ∷ first_line t) ≡ cond b 0 (1 + length (first_line t))
    by c t true = refl
    by c t false = omega arith

pub place_or_end : (n l : ℕ) → n ≤ l → unwrap_or (cond (ltb n l) (Some n) None) l ≡ n
place_or_end n l h = by (ltb n l) refl
  where
    by : (t : Bool) → ltb n l ≡ t → unwrap_or (cond t (Some n) None) l ≡ n
    by true e = refl
    by false e = omega (arith, ltb-false n l e)

pub length_record : (k b : ℕ) → length (record_of k b) ≡ 1 + (shape_of k).body
length_record k b = omega (arith, length_digits (shape_of k).body b)

-- ---- a line as a request
module _ (n room k b : ℕ) where
  pub as_full : room < 1 + (shape_of k).body → as_request n room (Ask k b) ≡ stop Full
  as_full f = rw (lt-ltb room (length (record_of k b)) (omega (arith, length_record k b)))

  pub as_whole : 1 + (shape_of k).body ≤ room → as_request n room (Ask k b) ≡ took n (record_of k b)
  as_whole f = rw (le-ltb room (length (record_of k b)) (omega (arith, length_record k b)))

pub request_at : (N : List Name) (s : List ℕ) (room n : ℕ) (a : Asked) → 0 < length s → n ≡ min (length (first_line s)) (length s - 1) → asked N (first_line s) ≡ a →
    to_request N s room ≡ as_request n room a
unfolding to_request
request_at N [] room n a h en ea = absurd (omega arith)
request_at N (c ∷ s) room n a h en ea =
    let less : length (c ∷ s) - 1 ≡ length s = omega arith in
    ap (λ (m : ℕ). as_request m room (asked N (first_line (c ∷ s)))) (sym (en ∙ ap (min (length (first_line (c ∷ s)))) less)) ∙ ap (as_request n room) ea

-- ---- a record as a line
pub line_at : (N : List Name) (k : ℕ) (s : List ℕ) (room w : ℕ) (x : List ℕ) → w ≡ body_in N k → x ≡ closed (line_of N k (word w s)) →
    to_line N (k ∷ s) room ≡ choose w (length s) room x
unfolding to_line
line_at N k s room w x ew ex = ap (λ (v : ℕ). choose v (length s) room (closed (line_of N k (word v s)))) (sym ew) ∙ ap (choose w (length s) room) (sym ex)
