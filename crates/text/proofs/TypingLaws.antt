-- Laws of the program of lines over all that the outside does, over any table of kinds. Assumes nothing.
--     cuts_do_not_show    However the input is cut into pieces, where no read and no write fails, the bytes that are sent are the replies to
--                         all lines of the whole text, and the code is 0.
--     at_once             After each piece, those that were sent are the replies to the lines that are finished, and no others.
--     broken_is_front     Where something fails, those that were handed to write are a front of the replies to what was read.
--     gives_back          The program gives back 0, or nothing.
--     zero_is_all         Its code is 0 only where the input ended and nothing failed before.
--     breaks_by_failure   It gives back nothing only where something failed, or after 2 ^ 64 - 1 turns.
--     carries_little      It carries over 26 bytes at most.
use mathlib.Core.Path.{◌≡◌, refl, sym, ap, ◌∙◌, subst}
use mathlib.Core.Bool.{Bool, true, false}
use mathlib.Core.List.{List, [], ◌∷◌, ◌++◌, map, map-append, append_assoc, append-nil}
use mathlib.Core.Logic.{◌⊎◌, inl, inr, ⊎_elim}
use Prim.Native.Nat.{ℕ, ◌≤◌, ◌<◌}
use native.Mathlib.Omega.{arith}
use borrow.Author.Tests.{ltb-true, ltb-false, ne_eqb}
use lib.Dec.{ltb}
use Rattle.std.specs.Prelude.{Option, Some, None}
use lib.ListN.{length, take, length-append, length-take}
use lib.Seq.{take_all, take-append-le, length-take-le}
use Rattle.records.specs.Row.{Row}
use Rattle.records.specs.Pieces.{whole}
use Rattle.decide.specs.Decide.{at_end_s}
use Rattle.session.specs.Session.{Heard, brought, failed, returned, piece, Event, Turn, turn_of, Said, session, came, delivered, arriving, NoneEmpty}
use Rattle.session.proofs.SayLaws.{some_none, Front, end_came, more_came, ends_whole, front_end, front_of, coded}
use Rattle.session.proofs.SayLaws as say
use Rattle.text.specs.Text.{lines, text_of, Cut, cut}
use Rattle.text.specs.Reply.{reply_to, replies_to}
use Rattle.text.specs.Typing.{KEPT, turn_on, typing}
use Rattle.text.specs.Promises.{typed_of, typed, CutsDoNotShow, AtOnce, BrokenIsFront, GivesBack, ZeroIsAll, BreaksByFailure, CarriesLittle}
use Rattle.text.proofs.TextLaws.{Free, free_take, text_append, rest_free, graft, cut_front, cut_free, cut_append, last_line, lines_cut}
use Rattle.text.proofs.LineLaws.{long_bad}
use Rattle.text.proofs.ReplyLaws.{reply_bad}

-- the first n bytes of a line decide, with what follows, about the first n of the whole
short_or : (n : ℕ) (u : List ℕ) → (take n u ≡ u) ⊎ ((length (take n u) ≡ n) × (n < length u))
short_or n u = tested (ltb n (length u)) refl
  where
    tested : (b : Bool) → ltb n (length u) ≡ b → (take n u ≡ u) ⊎ ((length (take n u) ≡ n) × (n < length u))
    tested true e = let l = ltb-true n (length u) e in inr (length-take-le n u (omega arith), l)
    tested false e = inl (take_all n u (ltb-false n (length u) e))

take_front : (n : ℕ) (u r : List ℕ) → take n (take n u ++ r) ≡ take n (u ++ r)
take_front n u r = ⊎_elim
    (λ e. ap (λ (x : List ℕ). take n (x ++ r)) e)
    (λ l. take-append-le n (take n u) r (omega (arith, l.0)) ∙ take_all n (take n u) (omega (arith, l.0)) ∙ sym (take-append-le n u r (omega (arith, l.1))))
    (short_or n u)

module _ (T : List Row) where
  -- a line that is cut is answered as the whole: it is bad, or nothing was cut off
  reply_front : (u l : List ℕ) → reply_to T (take KEPT u ++ l) ≡ reply_to T (u ++ l)
  reply_front u l = ⊎_elim
      (λ e. ap (λ (x : List ℕ). reply_to T (x ++ l)) e)
      (λ n. reply_bad T (take KEPT u ++ l) (long_bad (take KEPT u ++ l) (omega (arith, n.0, length-append (take KEPT u) l)))
      ∙ sym (reply_bad T (u ++ l) (long_bad (u ++ l) (omega (arith, n.1, length-append u l)))))
      (short_or KEPT u)

  -- the replies to the lines of a text so far
  abbrev said : Cut → List ℕ
  said k = text_of (map (reply_to T) k.finished)

  abbrev said_all : Cut → List ℕ
  said_all k = text_of (map (reply_to T) (k.finished ++ last_line k.rest))

  last_front : (u r : List ℕ) → map (reply_to T) (last_line (take KEPT u ++ r)) ≡ map (reply_to T) (last_line (u ++ r))
  last_front [] r = refl
  last_front (c ∷ u) r = ap (λ (x : List ℕ). x ∷ []) (reply_front (c ∷ u) r)

  graft_said : (u : List ℕ) (k : Cut) → (said (graft (take KEPT u) k) ≡ said (graft u k)) × ((said_all (graft (take KEPT u) k) ≡ said_all (graft u k)) × (take KEPT (graft (take KEPT u) k).rest ≡ take KEPT (graft u k).rest))
  graft_said u k = by_lines k.finished k.rest
    where
      by_lines : (a : List (List ℕ)) (r : List ℕ) → (said (graft (take KEPT u) (record { finished = a; rest = r })) ≡ said (graft u (record { finished = a; rest = r })))
          × ((said_all (graft (take KEPT u) (record { finished = a; rest = r })) ≡ said_all (graft u (record { finished = a; rest = r })))
          × (take KEPT (graft (take KEPT u) (record { finished = a; rest = r })).rest ≡ take KEPT (graft u (record { finished = a; rest = r })).rest))
      by_lines [] r = (refl, (ap text_of (last_front u r), take_front KEPT u r))
      by_lines (l ∷ ls) r = (
        ap (λ (x : List ℕ). text_of (x ∷ map (reply_to T) ls)) (reply_front u l),
        (ap (λ (x : List ℕ). text_of (x ∷ map (reply_to T) (ls ++ last_line r))) (reply_front u l), refl),
      )

  -- so the bytes carried over tell all that the unfinished line would
  module _ (u t : List ℕ) (f : Free u) where
    kept_free : Free (take KEPT u)
    kept_free = free_take KEPT u f

    pub same_said : said (cut (take KEPT u ++ t)) ≡ said (cut (u ++ t))
    same_said = ap said (cut_front (take KEPT u) t kept_free) ∙ (graft_said u (cut t)).0 ∙ sym (ap said (cut_front u t f))

    pub same_left : take KEPT (cut (take KEPT u ++ t)).rest ≡ take KEPT (cut (u ++ t)).rest
    same_left = ap (λ (k : Cut). take KEPT k.rest) (cut_front (take KEPT u) t kept_free) ∙ (graft_said u (cut t)).1.1 ∙ sym (ap (λ (k : Cut). take KEPT k.rest) (cut_front u t f))

    pub same_all : replies_to T (take KEPT u ++ t) ≡ replies_to T (u ++ t)
    same_all =
        ap (λ (x : List (List ℕ)). text_of (map (reply_to T) x)) (lines_cut (take KEPT u ++ t)) ∙ ap said_all (cut_front (take KEPT u) t kept_free)
        ∙ (graft_said u (cut t)).1.0 ∙ sym (ap said_all (cut_front u t f)) ∙ sym (ap (λ (x : List (List ℕ)). text_of (map (reply_to T) x)) (lines_cut (u ++ t)))

  -- the replies to a text and to more of it: those to the lines that are finished come first
  pub replies_append : (s t : List ℕ) → replies_to T (s ++ t) ≡ said (cut s) ++ replies_to T ((cut s).rest ++ t)
  replies_append s t =
      let k = cut ((cut s).rest ++ t) in
      let e : lines (s ++ t) ≡ (cut s).finished ++ lines ((cut s).rest ++ t) =
      lines_cut (s ++ t) ∙ ap (λ (c : Cut). c.finished ++ last_line c.rest) (cut_append s t) ∙ append_assoc (cut s).finished k.finished (last_line k.rest)
      ∙ ap (λ (x : List (List ℕ)). (cut s).finished ++ x) (sym (lines_cut ((cut s).rest ++ t))) in
      ap (λ (x : List (List ℕ)). text_of (map (reply_to T) x)) e
      ∙ ap text_of (map-append (reply_to T) (cut s).finished (lines ((cut s).rest ++ t)))
      ∙ text_append (map (reply_to T) (cut s).finished) (map (reply_to T) (lines ((cut s).rest ++ t)))

  turn_over : (u p : List ℕ) → Free u → turn_on T false (take KEPT u ++ p) ≡ turn_on T false (u ++ p)
  turn_over u p f =
      ap (λ (x : List ℕ). record { bytes = x; code = 0; left = take KEPT (cut (take KEPT u ++ p)).rest }) (same_said u p f)
      ∙ ap (λ (x : List ℕ). record { bytes = said (cut (u ++ p)); code = 0; left = x }) (same_left u p f)

  -- a read that brings bytes is not the end
  more_comes : (p : List ℕ) → 0 < length p → at_end_s (Some (length p)) ≡ false
  more_comes p h = ne_eqb (length p) 0 (λ e. omega arith)

  -- a turn that brings bytes, and where the line goes on from
  module _ (u p : List ℕ) (f : Free u) (h : 0 < length p) where
    turn_more : turn_of (typing T) (take KEPT u) (came p) ≡ turn_on T false (u ++ p)
    turn_more = ap (λ (b : Bool). turn_on T b (take KEPT u ++ p)) (more_comes p h) ∙ turn_over u p f

  -- what a turn says and then the later ones, from what it left
  abbrev ahead : (List ℕ → Said) → Turn → Said
  ahead later t = record { bytes = t.bytes ++ (later t.left).bytes; code = (later t.left).code }

  goes_on : (u p : List ℕ) (es : List Event) → Free u → 0 < length p → session (typing T) (take KEPT u) (came p ∷ es)
      ≡ ahead (λ x. session (typing T) x es) (turn_on T false (u ++ p))
  goes_on u p es f h =
      let e = turn_more u p f h in
      more_came (typing T) (take KEPT u) p es (λ z. let y : 0 ≡ 1 = sym (ap (λ (t : Turn). t.code) e) ∙ z in omega arith) h
      ∙ ap (ahead (λ x. session (typing T) x es)) e

  -- all pieces to the end, whatever events are behind it
  by_pieces : (u : List ℕ) (ps : List (List ℕ)) (more : List Event) → Free u → NoneEmpty ps →
      session (typing T) (take KEPT u) (delivered ps ++ more) ≡ record { bytes = replies_to T (u ++ whole ps); code = Some 0 }
  by_pieces u [] more f s =
      end_came (typing T) (take KEPT u) more
      ∙ ap (λ (x : List ℕ). record { bytes = x; code = Some 0 }) (append-nil (replies_to T (take KEPT u ++ [])) ∙ same_all u [] f)
  by_pieces u (p ∷ ps) more f s =
      let v = (cut (u ++ p)).rest in
      goes_on u p (delivered ps ++ more) f s.0
      ∙ ap (λ (x : Said). record { bytes = said (cut (u ++ p)) ++ x.bytes; code = x.code }) (by_pieces v ps more (rest_free (u ++ p)) s.1)
      ∙ ap (λ (x : List ℕ). record { bytes = x; code = Some 0 }) (sym (replies_append (u ++ p) (whole ps)) ∙ ap (replies_to T) (append_assoc u p (whole ps)))

  pub cuts_do_not_show : CutsDoNotShow T
  cuts_do_not_show ps s = ap (session (typing T) []) (sym (append-nil (delivered ps))) ∙ by_pieces [] ps [] tt s

  -- ---- before the input ends

  so_far : (u : List ℕ) (ps : List (List ℕ)) → Free u → NoneEmpty ps → (session (typing T) (take KEPT u) (arriving ps)).bytes ≡ said (cut (u ++ whole ps))
  unfolding session text_of
  so_far u [] f s = sym (ap said (ap cut (append-nil u) ∙ cut_free u f))
  so_far u (p ∷ ps) f s =
      let v = (cut (u ++ p)).rest in
      let k = cut (v ++ whole ps) in
      ap (λ (x : Said). x.bytes) (goes_on u p (arriving ps) f s.0)
      ∙ ap (λ (x : List ℕ). said (cut (u ++ p)) ++ x) (so_far v ps (rest_free (u ++ p)) s.1)
      ∙ sym (ap text_of (map-append (reply_to T) (cut (u ++ p)).finished k.finished) ∙ text_append (map (reply_to T) (cut (u ++ p)).finished) (map (reply_to T) k.finished))
      ∙ sym (ap said (ap cut (sym (append_assoc u p (whole ps))) ∙ cut_append (u ++ p) (whole ps)))

  pub at_once : AtOnce T
  at_once ps s = so_far [] ps tt s

  -- ---- where something fails

  -- a turn over u and the bytes p, and what should be said behind it
  front_more : (u p : List ℕ) (h : Heard) (sent : Bool) (es : List Event) → Free u → piece h ≡ p → at_end_s (returned h) ≡ false →
      ((v : List ℕ) → Free v → Front (replies_to T (v ++ typed es)) (session (typing T) (take KEPT v) es)) →
      Front (replies_to T (u ++ (p ++ typed es))) (session (typing T) (take KEPT u) (record { heard = h; sent = sent } ∷ es))
  front_more u p h sent es f ep ee later =
      let e : Event = record { heard = h; sent = sent } in
      let t : turn_of (typing T) (take KEPT u) e ≡ turn_on T false (u ++ p) =
      ap (λ (b : Bool). turn_on T b (take KEPT u ++ piece h)) ee ∙ ap (λ (x : List ℕ). turn_on T false (take KEPT u ++ x)) ep ∙ turn_over u p f in
      let v = (cut (u ++ p)).rest in
      front_of (typing T) (take KEPT u) e es _ (replies_to T (v ++ typed es))
      (ap (replies_to T) (sym (append_assoc u p (typed es))) ∙ replies_append (u ++ p) (typed es) ∙ ap (λ (x : Turn). x.bytes ++ replies_to T (v ++ typed es)) (sym t))
      (subst (λ (x : List ℕ). Front (replies_to T (v ++ typed es)) (session (typing T) x es)) (ap (λ (x : Turn). x.left) (sym t)) (later v (rest_free (u ++ p))))

  fronts : (u : List ℕ) (es : List Event) → Free u → Front (replies_to T (u ++ typed es)) (session (typing T) (take KEPT u) es)
  unfolding session
  fronts u [] f = λ _. (replies_to T (u ++ []), refl)
  fronts u (e ∷ es) f = by-heard (λ v g. fronts v es g) e.heard
    where
      by-heard : ((v : List ℕ) → Free v → Front (replies_to T (v ++ typed es)) (session (typing T) (take KEPT v) es)) → (h : Heard) →
          Front (replies_to T (u ++ typed_of h (typed es))) (session (typing T) (take KEPT u) (record { heard = h; sent = e.sent } ∷ es))
      by-heard later failed = front_more u [] failed e.sent es f refl refl later
      by-heard later (brought []) = front_end (typing T) (take KEPT u) e.sent es _ (sym (same_all u [] f))
      by-heard later (brought (c ∷ p)) = front_more u (c ∷ p) (brought (c ∷ p)) e.sent es f refl (more_comes (c ∷ p) (omega arith)) later

  pub broken_is_front : BrokenIsFront T
  broken_is_front es z = fronts [] es tt z

  -- no turn stops it
  pub code_zero : (b : Bool) (s : List ℕ) → (turn_on T b s).code ≡ 0
  code_zero true s = refl
  code_zero false s = refl

  turn_zero : (rest : List ℕ) (h : Heard) → ((typing T).turn rest h).code ≡ 0
  turn_zero rest h = code_zero (at_end_s (returned h)) (rest ++ piece h)

  pub gives_back : GivesBack T
  gives_back size r n =
      subst (λ (c : Option ℕ). (c ≡ Some 0) ⊎ (c ≡ None)) (sym n.code)
      (coded (typing T) size (λ c. (c ≡ Some 0) ⊎ (c ≡ None)) (inr refl) (λ rest e h. inl (ap Some (turn_zero rest e.heard))) [] n.events n.fits)

  pub zero_is_all : ZeroIsAll T
  zero_is_all es z =
      let w = ends_whole (typing T) (λ rest h y. omega (arith, turn_zero rest h, y)) [] es (λ y. some_none 0 (sym z ∙ y)) in
      let q = w.1.1 in
      (w.0, (w.1.0, (q.0, (q.1, ap (λ (x : List Event). (session (typing T) [] x).bytes) q.1 ∙ ap (λ (x : Said). x.bytes) (by_pieces [] w.0 w.1.0 tt q.0)))))

  pub breaks_by_failure : BreaksByFailure T
  breaks_by_failure = say.breaks_by_failure (typing T)

  -- what is carried over is at most 26 bytes
  left_small : (b : Bool) (s : List ℕ) → length (turn_on T b s).left ≤ KEPT
  left_small true s = omega arith
  left_small false s = let l = length-take KEPT (cut s).rest in omega arith

  pub carries_little : CarriesLittle T
  carries_little rest h = left_small (at_end_s (returned h)) (rest ++ piece h)
