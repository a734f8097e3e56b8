-- What a turn over a text leaves: its replies at the front of one buffer, and what is carried over at the front of the other. Assumes nothing.
use mathlib.Core.Path.{◌≡◌, refl, sym, ap, ◌∙◌, subst}
use mathlib.Core.Bool.{Bool, true, false}
use mathlib.Core.List.{List, [], ◌∷◌, ◌++◌, map, map-append, append-nil}
use Prim.Native.Nat.{ℕ, ◌+◌, ◌-◌, ◌*◌, ◌≤◌, min}
use native.Mathlib.Nat.{min-eq_left, min-eq_right}
use native.Mathlib.Omega.{arith}
use borrow.Author.Tests.{ltb-true, ltb-false}
use lib.Dec.{ltb}
use lib.ListN.{length, take, drop, length-drop}
use lib.Seq.{sets, sets-eq, length-sets, take_at, take_all, take-take, length-take-le}
use Rattle.replies.specs.Table.{table}
use Rattle.session.proofs.FrontLaws.{take_drop, moved_front}
use Rattle.text.specs.Text.{closed, text_of, cut}
use Rattle.text.specs.Reply.{reply_to}
use Rattle.text.specs.Typing.{KEPT, turn_on}
use Rattle.text.proofs.TextLaws.{text_append, last_line, lines_cut}
use Rattle.text.proofs.ReplyLaws.{reply_light}
use Rattle.console.specs.Post.{Wrote, Replied, last_reply, Turned}
use Rattle.console.specs.declared.relay.Done.{Done}
use Rattle.console.specs.declared.relay.Round.{Round}
use Rattle.console.proofs.WriteLaws.{wrote_more, narrow}

-- what was written at the front, where it has room
module _ (x l o : List ℕ) (n : ℕ) (w : Wrote x 0 n l o) (h : n ≤ length l) where
  pub front : take n o ≡ x
  front =
      let m : 0 + length x ≤ length l = omega (arith, w.place) in
      ap (take n) (w.buffer ∙ sets-eq x l 0 m) ∙ take_at x (drop (0 + length x) l) n (let y : length x ≡ n = omega (arith, w.place) in y)

  pub front_in : n ≤ length o
  front_in = omega (arith, ap length w.buffer, length-sets l 0 x)

  pub front_length : n ≡ length (take n o)
  front_length = sym (length-take-le n o front_in)

-- the last line's reply
last_is : (r : List ℕ) → text_of (map (reply_to table) (last_line r)) ≡ last_reply r
unfolding text_of
last_is [] = refl
last_is (c ∷ r) = append-nil (closed (reply_to table (c ∷ r)))

last_light : (r : List ℕ) → length (last_reply r) ≤ 4 * length r
last_light [] = omega arith
last_light (c ∷ r) = (reply_light table narrow (c ∷ r)).1 (omega arith)

module _ (s l o : List ℕ) (d : Done) (p : Replied s d l o) where
  -- the finished lines
  pub open_wrote : Wrote (turn_on table false s).bytes 0 d.written l o
  open_wrote = record { place = omega (arith, p.written); buffer = p.buffer }

  pub open_light : d.written ≤ 4 * length s
  open_light = omega (arith, p.light, p.inside)

  rest_length : length (cut s).rest ≡ length s - d.read
  rest_length = ap length (sym p.rest) ∙ length-drop d.read s

  -- and the last
  module _ (q : List ℕ) (n : ℕ) (w : Wrote (last_reply (cut s).rest) d.written n o q) where
    pub end_wrote : Wrote (turn_on table true s).bytes 0 n l q
    end_wrote =
        let a = (cut s).finished in
        let r = (cut s).rest in
        let x : (turn_on table false s).bytes ++ last_reply r ≡ (turn_on table true s).bytes =
        ap (λ (y : List ℕ). (turn_on table false s).bytes ++ y) (sym (last_is r))
        ∙ sym (ap text_of (map-append (reply_to table) a (last_line r)) ∙ text_append (map (reply_to table) a) (map (reply_to table) (last_line r)))
        ∙ ap (λ (y : List (List ℕ)). text_of (map (reply_to table) y)) (sym (lines_cut s)) in
        subst (λ (y : List ℕ). Wrote y 0 n l q) x (wrote_more (turn_on table false s).bytes (last_reply r) l o q 0 d.written n open_wrote w)

    pub end_light : n ≤ 4 * length s
    end_light = omega (arith, w.place, p.light, p.inside, last_light (cut s).rest, rest_length)

-- the first bytes of a front
take_least : (m n : ℕ) (x : List ℕ) → n ≤ length x → take (min m n) x ≡ take m (take n x)
take_least m n x h = tested (ltb n m) refl
  where
    tested : (b : Bool) → ltb n m ≡ b → take (min m n) x ≡ take m (take n x)
    tested true e =
        let l = ltb-true n m e in
        let t = length-take-le n x h in
        ap (λ (k : ℕ). take k x) (min-eq_right (let y : n ≤ m = omega arith in y)) ∙ sym (take_all m (take n x) (omega arith))
    tested false e =
        let l = ltb-false n m e in
        ap (λ (k : ℕ). take k x) (min-eq_left l) ∙ sym (take-take m n x l)

-- of the unfinished line in the first `have` bytes of b so much is kept, moved to the front
module _ (b : List ℕ) (have : ℕ) (l o : List ℕ) (d : Done) (h : have ≤ length b) (p : Replied (take have b) d l o) where
  pub line_is : take (have - d.read) (drop d.read b) ≡ (cut (take have b)).rest
  line_is = let n = length-take-le have b h in take_drop b d.read have (omega (arith, p.inside)) h ∙ p.rest

  pub read_in : d.read ≤ have
  read_in = let n = length-take-le have b h in omega (arith, p.inside)

  module _ (r : Round) (q : List ℕ) (e : r.kept ≡ min KEPT (have - d.read)) (moved : q ≡ sets b 0 (take r.kept (drop d.read b))) where
    left : take r.kept (drop d.read b) ≡ (turn_on table false (take have b)).left
    left =
        let n = length-drop d.read b in
        ap (λ (k : ℕ). take k (drop d.read b)) e ∙ take_least KEPT (have - d.read) (drop d.read b) (omega arith) ∙ ap (take KEPT) line_is

    pub open_turned : Turned (turn_on table false (take have b)) r q
    open_turned =
        let i = read_in in
        let k : d.read + r.kept ≤ length b = omega (arith, e, i) in
        let n = length-drop d.read b in
        record {
          kept = sym (length-take-le r.kept (drop d.read b) (omega arith)) ∙ ap length left;
          rest = ap (take r.kept) moved ∙ moved_front b d.read r.kept k ∙ left;
        }
