-- What the loop over a text keeps: the lines that are finished so far are answered, and the place where the unfinished one begins. Assumes
-- nothing.
use mathlib.Core.Path.{◌≡◌, refl, sym, ap, ◌∙◌, subst}
use mathlib.Core.Bool.{false}
use mathlib.Core.List.{List, [], ◌∷◌, ◌++◌, map, map-append, append-nil}
use Prim.Native.Nat.{ℕ, ◌+◌, ◌-◌, ◌*◌, ◌≤◌, ◌<◌}
use native.Mathlib.Numerals.{add-one}
use native.Mathlib.Omega.{arith}
use lib.ListN.{length, take, drop, get_or, length-drop, drop_of_length-le}
use lib.Seq.{sets, take-suc, take_all, length-take-le, drop-append-le}
use Rattle.replies.specs.Table.{table}
use Rattle.text.specs.Text.{NEWLINE, closed, text_of, Cut, cut}
use Rattle.text.specs.Reply.{reply_to}
use Rattle.text.specs.Typing.{turn_on}
use Rattle.text.proofs.TextLaws.{free_append, text_append, rest_free, joined, cut_append, cut_closed, cut_free}
use Rattle.text.proofs.ReplyLaws.{reply_light}
use Rattle.session.proofs.FrontLaws.{take_drop}
use Rattle.console.specs.Post.{Wrote, Replied}
use Rattle.console.specs.declared.relay.Done.{Done}
use Rattle.console.proofs.WriteLaws.{wrote_more, narrow}

-- the replies to the finished lines of a text
abbrev said : List ℕ → List ℕ
said s = (turn_on table false s).bytes

-- the first i bytes of the text s are looked at
pub record Looked (s first out : List ℕ) (i read written : ℕ) : Type 0 where
  pub inside : i ≤ length s
  pub before : read ≤ i
  pub rest : drop read (take i s) ≡ (cut (take i s)).rest
  pub light : written ≤ 4 * read
  pub wrote : Wrote (said (take i s)) 0 written first out

pub looked_none : (s first : List ℕ) → Looked s first first 0 0 0
unfolding cut text_of
looked_none s first = record {
  inside = omega arith;
  before = omega arith;
  rest = refl;
  light = omega arith;
  wrote = record { place = refl; buffer = refl };
}

-- the same by other names
pub looked_as : (s first o p : List ℕ) (i r t w v : ℕ) → p ≡ o → t ≡ r → v ≡ w → Looked s first o i r w → Looked s first p i t v
looked_as s first o p i r t w v eo er ew l =
    subst (λ (x : List ℕ). Looked s first x i t v) (sym eo) (subst (λ (x : ℕ). Looked s first o i x v) (sym er) (subst (λ (x : ℕ). Looked s first o i r x) (sym ew) l))

-- all of them are
pub looked_all : (s first out : List ℕ) (i : ℕ) (r : Done) → Looked s first out i r.read r.written → length s ≤ i → Replied s r first out
looked_all s first out i r l h =
    let e : take i s ≡ s = take_all i s h in
    record {
      written = omega (arith, l.wrote.place, ap (λ (x : List ℕ). length (said x)) e);
      buffer = l.wrote.buffer ∙ ap (λ (x : List ℕ). sets first 0 (said x)) e;
      inside = omega (arith, l.before, l.inside);
      rest = ap (drop r.read) (sym e) ∙ l.rest ∙ ap (λ (x : List ℕ). (cut x).rest) e;
      light = l.light;
    }

-- one byte more
module _ (s first out : List ℕ) (i read written : ℕ) (l : Looked s first out i read written) (h : i < length s) where
  front : take (i + 1) s ≡ take i s ++ (get_or s i 0 ∷ [])
  front = ap (λ (k : ℕ). take k s) (add-one i) ∙ take-suc s i 0 h

  more : cut (take (i + 1) s) ≡ joined (cut (take i s)).finished (cut ((cut (take i s)).rest ++ (get_or s i 0 ∷ [])))
  more = ap cut front ∙ cut_append (take i s) (get_or s i 0 ∷ [])

  -- the line so far
  abbrev pub line : List ℕ
  line = (cut (take i s)).rest

  pub line_is : take (i - read) (drop read s) ≡ line
  line_is = take_drop s read i l.before (omega arith) ∙ l.rest

  -- that is no newline
  pub looked_on : (get_or s i 0 ≡ NEWLINE → ⊥) → Looked s first out (i + 1) read written
  looked_on z =
      let c = get_or s i 0 in
      let a = (cut (take i s)).finished in
      let e : cut (take (i + 1) s) ≡ record { finished = a; rest = line ++ (c ∷ []) } =
      more ∙ ap (joined a) (cut_free (line ++ (c ∷ [])) (free_append line (c ∷ []) (rest_free (take i s)) (z, tt)))
      ∙ ap (λ (x : List (List ℕ)). record { finished = x; rest = line ++ (c ∷ []) }) (append-nil a) in
      let n = length-take-le i s (omega arith) in
      record {
        inside = omega arith;
        before = omega (arith, l.before);
        rest =
            ap (drop read) front ∙ drop-append-le read (take i s) (c ∷ []) (omega (arith, l.before, n)) ∙ ap (λ (x : List ℕ). x ++ (c ∷ [])) l.rest
            ∙ sym (ap (λ (k : Cut). k.rest) e);
        light = l.light;
        wrote = subst (λ (x : List ℕ). Wrote x 0 written first out) (sym (ap (λ (k : Cut). text_of (map (reply_to table) k.finished)) e)) l.wrote;
      }

  -- that is one: the line is answered
  module _ (n : ℕ) (q : List ℕ) (w : Wrote (closed (reply_to table line)) written n out q) (z : get_or s i 0 ≡ NEWLINE) where
    shut_line : cut (line ++ (get_or s i 0 ∷ [])) ≡ record { finished = line ∷ []; rest = [] }
    unfolding cut
    shut_line = ap (λ (x : ℕ). cut (line ++ (x ∷ []))) z ∙ ap cut (sym (append-nil (closed line))) ∙ cut_closed line [] (rest_free (take i s))

    pub looked_line : Looked s first q (i + 1) (i + 1) n
    unfolding text_of
    looked_line =
        let a = (cut (take i s)).finished in
        let e : cut (take (i + 1) s) ≡ record { finished = a ++ (line ∷ []); rest = [] } = more ∙ ap (joined a) shut_line in
        let x : said (take i s) ++ closed (reply_to table line) ≡ said (take (i + 1) s) =
        ap (λ (y : List ℕ). said (take i s) ++ y) (sym (append-nil (closed (reply_to table line))))
        ∙ sym (ap text_of (map-append (reply_to table) a (line ∷ [])) ∙ text_append (map (reply_to table) a) (reply_to table line ∷ []))
        ∙ sym (ap (λ (k : Cut). text_of (map (reply_to table) k.finished)) e) in
        let m = length-take-le (i + 1) s (omega arith) in
        let d = length-drop read s in
        let t = ap length line_is in
        let u = length-take-le (i - read) (drop read s) (omega (arith, l.before)) in
        record {
          inside = omega arith;
          before = omega arith;
          rest = drop_of_length-le (take (i + 1) s) (let y : length (take (i + 1) s) ≤ i + 1 = omega arith in y) ∙ sym (ap (λ (k : Cut). k.rest) e);
          light = omega (arith, w.place, l.light, l.before, (reply_light table narrow line).0, t, u);
          wrote = subst (λ (y : List ℕ). Wrote y 0 n first q) x (wrote_more (said (take i s)) (closed (reply_to table line)) first out q 0 written n l.wrote w);
        }
