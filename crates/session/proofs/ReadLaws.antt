-- A turn of any program, from what its read answered: the bytes that it brought, and what comes next. Assumes nothing.
use mathlib.Core.Path.{◌≡◌, refl, sym, ap, ◌∙◌}
use mathlib.Core.Bool.{Bool}
use mathlib.Core.List.{List, ◌++◌}
use Prim.Native.Nat.{ℕ, ◌+◌, ◌-◌, ◌≤◌}
use native.Mathlib.Omega.{arith}
use lib.ListN.{length, take, drop, length-drop}
use lib.Seq.{length-take-le, take-append-add, take-append-le}
use Rattle.std.specs.Prelude.{Option, Some, None, unwrap_or}
use Rattle.session.specs.Moved.{Moved}
use Rattle.decide.specs.Decide.{after_s}
use Rattle.decide.specs.declared.Next.{Next}
use Rattle.session.specs.Session.{Heard, brought, failed, returned, piece, Program}
use Rattle.session.specs.Post.{Passed}

-- what a read brought that answered so much and left ys behind
abbrev pub heard_of : Option ℕ → List ℕ → Heard
heard_of (Some k) ys = brought (take k ys)
heard_of None ys = failed

pub returned_is : (got : Option ℕ) (ys : List ℕ) → Moved (length ys) got → returned (heard_of got ys) ≡ got
returned_is (Some k) ys m = ap Some (length-take-le k ys m)
returned_is None ys m = refl

piece_in : (got : Option ℕ) (ys : List ℕ) → Moved (length ys) got → length (piece (heard_of got ys)) ≤ length ys
piece_in (Some k) ys m = omega (arith, length-take-le k ys m)
piece_in None ys m = omega arith

-- and these they are, where the buffer goes on behind ys
got_front : (got : Option ℕ) (ys tail : List ℕ) → Moved (length ys) got → take (unwrap_or got 0) (ys ++ tail) ≡ piece (heard_of got ys)
got_front (Some k) ys tail m = take-append-le k ys tail m
got_front None ys tail m = refl

-- the buffer after a read behind its first `have` bytes that left ys there, and the part of it that was lent
abbrev pub full : ℕ → List ℕ → List ℕ → List ℕ
full have first ys = take have first ++ (ys ++ drop (length first - have) (drop have first))

abbrev pub part : ℕ → List ℕ → List ℕ
part have l = take (length l - have) (drop have l)

part_length : (have : ℕ) (l : List ℕ) → length (part have l) ≡ length l - have
part_length have l = let d = length-drop have l in length-take-le (length l - have) (drop have l) (omega arith)

-- such a read
module _ (have : ℕ) (first ys : List ℕ) (got : Option ℕ) (h : have ≤ length first) (same : length ys ≡ length (part have first))
    (moved : Moved (length ys) got) where
  -- the bytes that it brought and those before them are what was carried over and what the read brought
  pub behind : take (have + unwrap_or got 0) (full have first ys) ≡ take have first ++ piece (heard_of got ys)
  behind =
      let rest = take have first in
      let tail = drop (length first - have) (drop have first) in
      let lr : length rest ≡ have = length-take-le have first h in
      ap (λ (k : ℕ). take (k + unwrap_or got 0) (rest ++ (ys ++ tail))) (sym lr) ∙ take-append-add rest (ys ++ tail) (unwrap_or got 0)
      ∙ ap (λ (p : List ℕ). rest ++ p) (got_front got ys tail moved)

  -- a turn over it that did as the program says; b is the buffer that carries afterwards
  pub behind_passed : (P : Program) (x : Next) (b : List ℕ) (code kept : ℕ) (sent : Bool) → code ≡ (P.turn (take have first) (heard_of got ys)).code →
      kept ≡ length (P.turn (take have first) (heard_of got ys)).left → take kept b ≡ (P.turn (take have first) (heard_of got ys)).left →
      x ≡ after_s got code kept sent → Passed P (length first) (take have first) x b
  behind_passed P x b code kept sent ec ek eb ex =
      let g = heard_of got ys in
      let lr : length (take have first) ≡ have = length-take-le have first h in
      let l0 = part_length have first in
      record {
        event = record { heard = g; sent = sent };
        fits = omega (arith, piece_in got ys moved);
        next =
            ex ∙ ap (λ (z : Option ℕ). after_s z code kept sent) (sym (returned_is got ys moved))
            ∙ ap (λ (k : ℕ). after_s (returned g) k kept sent) ec ∙ ap (λ (k : ℕ). after_s (returned g) (P.turn (take have first) g).code k sent) ek;
        carried = ap (λ (k : ℕ). take k b) (sym ek) ∙ eb;
      }
