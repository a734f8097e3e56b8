-- Laws of texts: a text is its lines, and what a text so far is. Assumes nothing.
use mathlib.Core.Path.{◌≡◌, refl, sym, ap, ◌∙◌, subst}
use mathlib.Core.Bool.{Bool, true, false}
use mathlib.Core.List.{List, [], ◌∷◌, ◌++◌, append_assoc, append-nil}
use mathlib.Core.Logic.{◌⊎◌, inl, inr, ⊎_elim}
use Prim.Native.Nat.{ℕ, zero, suc}
use borrow.Author.Tests.{eqb-true, eqb-false, eq-eqb, ne_eqb}
use lib.Dec.{eqb}
use lib.ListN.{take}
use Rattle.text.specs.Text.{NEWLINE, onto, lines, closed, text_of, Cut, before, cut}
use Rattle.text.specs.Promises.{supplied, ended}

-- no newline among these bytes
abbrev pub Free : List ℕ → Type 0
Free [] = Unit
Free (c ∷ s) = (c ≡ NEWLINE → ⊥) × Free s

-- nor in any of these lines
abbrev pub AllFree : List (List ℕ) → Type 0
AllFree [] = Unit
AllFree (l ∷ ls) = Free l × AllFree ls

pub free_append : (s t : List ℕ) → Free s → Free t → Free (s ++ t)
free_append [] t f g = g
free_append (c ∷ s) t f g = (f.0, free_append s t f.1 g)

pub free_take : (n : ℕ) (s : List ℕ) → Free s → Free (take n s)
free_take zero s f = tt
free_take (suc n) [] f = tt
free_take (suc n) (c ∷ s) f = (f.0, free_take n s f.1)

newline_or : (c : ℕ) → (c ≡ NEWLINE) ⊎ (c ≡ NEWLINE → ⊥)
newline_or c = tested (eqb c NEWLINE) refl
  where
    tested : (b : Bool) → eqb c NEWLINE ≡ b → (c ≡ NEWLINE) ⊎ (c ≡ NEWLINE → ⊥)
    tested true e = inl (eqb-true c NEWLINE e)
    tested false e = inr (eqb-false c NEWLINE e)

-- the lines of a text from its front on
lines_newline : (c : ℕ) (s : List ℕ) → c ≡ NEWLINE → lines (c ∷ s) ≡ [] ∷ lines s
unfolding lines
lines_newline c s e = rw (eq-eqb c NEWLINE e)

lines_other : (c : ℕ) (s : List ℕ) → (c ≡ NEWLINE → ⊥) → lines (c ∷ s) ≡ onto c (lines s)
unfolding lines
lines_other c s h = rw (ne_eqb c NEWLINE h)

-- a line and its newline at the front are the first line
pub lines_closed : (l s : List ℕ) → Free l → lines (closed l ++ s) ≡ l ∷ lines s
lines_closed [] s f = lines_newline NEWLINE s refl
lines_closed (c ∷ l) s f = lines_other c (closed l ++ s) f.0 ∙ ap (onto c) (lines_closed l s f.1)

-- the lines of a text of lines are those lines
pub lines_text : (ls : List (List ℕ)) → AllFree ls → lines (text_of ls) ≡ ls
unfolding lines text_of
lines_text [] f = refl
lines_text (l ∷ ls) f = lines_closed l (text_of ls) f.0 ∙ ap (λ (x : List (List ℕ)). l ∷ x) (lines_text ls f.1)

pub text_append : (a b : List (List ℕ)) → text_of (a ++ b) ≡ text_of a ++ text_of b
unfolding text_of
text_append [] b = refl
text_append (l ∷ a) b = ap (λ (x : List ℕ). closed l ++ x) (text_append a b) ∙ sym (append_assoc (closed l) (text_of a) (text_of b))

-- a text so far, from its front on
abbrev shut : Cut → Cut
shut k = record { finished = [] ∷ k.finished; rest = k.rest }

abbrev grown : ℕ → Cut → Cut
grown c k = before c k.finished k.rest

cut_newline : (c : ℕ) (s : List ℕ) → c ≡ NEWLINE → cut (c ∷ s) ≡ shut (cut s)
unfolding cut
cut_newline c s e = rw (eq-eqb c NEWLINE e)

cut_other : (c : ℕ) (s : List ℕ) → (c ≡ NEWLINE → ⊥) → cut (c ∷ s) ≡ grown c (cut s)
unfolding cut
cut_other c s h = rw (ne_eqb c NEWLINE h)

-- what is so of a text so far where a byte is a newline and where it is none
by_byte : (P : Cut → Type 0) (c : ℕ) (s : List ℕ) → P (shut (cut s)) → ((c ≡ NEWLINE → ⊥) → P (grown c (cut s))) → P (cut (c ∷ s))
by_byte P c s f g = ⊎_elim (λ e. subst P (sym (cut_newline c s e)) f) (λ h. subst P (sym (cut_other c s h)) (g h)) (newline_or c)

-- the unfinished line has no newline
pub rest_free : (s : List ℕ) → Free (cut s).rest
unfolding cut
rest_free [] = tt
rest_free (c ∷ s) = by_byte (λ k. Free k.rest) c s (rest_free s) (λ h. front (rest_free s) h (cut s).finished)
  where
    front : Free (cut s).rest → (c ≡ NEWLINE → ⊥) → (a : List (List ℕ)) → Free (before c a (cut s).rest).rest
    front f h [] = (h, f)
    front f h (l ∷ ls) = f

pub whole_free : (s : List ℕ) → AllFree (cut s).finished
unfolding cut
whole_free [] = tt
whole_free (c ∷ s) = by_byte (λ k. AllFree k.finished) c s (tt, whole_free s) (λ h. front h (cut s).finished (whole_free s))
  where
    front : (c ≡ NEWLINE → ⊥) → (a : List (List ℕ)) → AllFree a → AllFree (before c a (cut s).rest).finished
    front h [] f = tt
    front h (l ∷ ls) f = ((h, f.0), f.1)

-- nothing is lost: the finished lines, each with its newline, and the unfinished one are the text
pub cut_all : (s : List ℕ) → text_of (cut s).finished ++ (cut s).rest ≡ s
unfolding cut text_of
cut_all [] = refl
cut_all (c ∷ s) = ⊎_elim
    (λ e. ap (λ (k : Cut). text_of k.finished ++ k.rest) (cut_newline c s e) ∙ ap (λ (x : List ℕ). NEWLINE ∷ x) (cut_all s) ∙ ap (λ (x : ℕ). x ∷ s) (sym e))
    (λ h. ap (λ (k : Cut). text_of k.finished ++ k.rest) (cut_other c s h) ∙ front (cut s).finished ∙ ap (λ (x : List ℕ). c ∷ x) (cut_all s))
    (newline_or c)
  where
    front : (a : List (List ℕ)) → text_of (before c a (cut s).rest).finished ++ (before c a (cut s).rest).rest ≡ c ∷ (text_of a ++ (cut s).rest)
    front [] = refl
    front (l ∷ ls) = refl

-- a line so far, and one that is finished at the front
pub cut_free : (l : List ℕ) → Free l → cut l ≡ record { finished = []; rest = l }
unfolding cut
cut_free [] f = refl
cut_free (c ∷ l) f = cut_other c l f.0 ∙ ap (grown c) (cut_free l f.1)

pub cut_closed : (l s : List ℕ) → Free l → cut (closed l ++ s) ≡ record { finished = l ∷ (cut s).finished; rest = (cut s).rest }
cut_closed [] s f = cut_newline NEWLINE s refl
cut_closed (c ∷ l) s f = cut_other c (closed l ++ s) f.0 ∙ ap (grown c) (cut_closed l s f.1)

-- bytes at the front of a text so far
abbrev pub grafted : List ℕ → List (List ℕ) → List ℕ → Cut
grafted u [] r = record { finished = []; rest = u ++ r }
grafted u (l ∷ ls) r = record { finished = (u ++ l) ∷ ls; rest = r }

abbrev pub graft : List ℕ → Cut → Cut
graft u k = grafted u k.finished k.rest

pub cut_front : (u s : List ℕ) → Free u → cut (u ++ s) ≡ graft u (cut s)
cut_front [] s f = sym (none (cut s).finished (cut s).rest)
  where
    none : (a : List (List ℕ)) (r : List ℕ) → grafted [] a r ≡ record { finished = a; rest = r }
    none [] r = refl
    none (l ∷ ls) r = refl
cut_front (c ∷ u) s f = cut_other c (u ++ s) f.0 ∙ ap (grown c) (cut_front u s f.1) ∙ more (cut s).finished (cut s).rest
  where
    more : (a : List (List ℕ)) (r : List ℕ) → grown c (grafted u a r) ≡ grafted (c ∷ u) a r
    more [] r = refl
    more (l ∷ ls) r = refl

-- A text and more of it: the finished lines stay, and the unfinished one goes on.
abbrev pub joined : List (List ℕ) → Cut → Cut
joined a k = record { finished = a ++ k.finished; rest = k.rest }

pub cut_append : (s t : List ℕ) → cut (s ++ t) ≡ joined (cut s).finished (cut ((cut s).rest ++ t))
unfolding cut
cut_append [] t = refl
cut_append (c ∷ s) t = ⊎_elim
    (λ e. cut_newline c (s ++ t) e ∙ ap shut (cut_append s t) ∙ sym (ap next (cut_newline c s e)))
    (λ h. cut_other c (s ++ t) h ∙ ap (grown c) (cut_append s t) ∙ front h (cut s).finished (cut s).rest ∙ sym (ap next (cut_other c s h)))
    (newline_or c)
  where
    next : Cut → Cut
    next k = joined k.finished (cut (k.rest ++ t))

    front : (c ≡ NEWLINE → ⊥) → (a : List (List ℕ)) (r : List ℕ) → grown c (joined a (cut (r ++ t))) ≡ next (before c a r)
    front h [] r = sym (cut_other c (r ++ t) h)
    front h (l ∷ ls) r = refl

-- the unfinished line as a line, if it has a byte
abbrev pub last_line : List ℕ → List (List ℕ)
last_line [] = []
last_line (c ∷ l) = (c ∷ l) ∷ []

-- the lines of a text are those that are finished, and the last
pub lines_cut : (s : List ℕ) → lines s ≡ (cut s).finished ++ last_line (cut s).rest
unfolding cut lines
lines_cut [] = refl
lines_cut (c ∷ s) = ⊎_elim
    (λ e. lines_newline c s e ∙ ap (λ (x : List (List ℕ)). [] ∷ x) (lines_cut s) ∙ sym (ap all (cut_newline c s e)))
    (λ h. lines_other c s h ∙ ap (onto c) (lines_cut s) ∙ front (cut s).finished (cut s).rest ∙ sym (ap all (cut_other c s h)))
    (newline_or c)
  where
    all : Cut → List (List ℕ)
    all k = k.finished ++ last_line k.rest

    front : (a : List (List ℕ)) (r : List ℕ) → onto c (a ++ last_line r) ≡ all (before c a r)
    front [] [] = refl
    front [] (d ∷ r) = refl
    front (l ∷ ls) r = refl

-- every line is free of newlines
pub lines_free : (s : List ℕ) → AllFree (lines s)
lines_free s = subst AllFree (sym (lines_cut s)) (both (cut s).finished (cut s).rest (whole_free s) (rest_free s))
  where
    one : (r : List ℕ) → Free r → AllFree (last_line r)
    one [] f = tt
    one (c ∷ r) f = (f, tt)

    both : (a : List (List ℕ)) (r : List ℕ) → AllFree a → Free r → AllFree (a ++ last_line r)
    both [] r f g = one r g
    both (l ∷ a) r f g = (f.0, both a r f.1 g)

-- THE TEXT OF ITS LINES: a text that ends with a newline is the text of its lines, and to any other the missing newline is supplied.
pub text_lines : (s : List ℕ) → text_of (lines s) ≡ ended s
unfolding text_of
text_lines s =
    ap text_of (lines_cut s) ∙ text_append (cut s).finished (last_line (cut s).rest)
    ∙ ap (λ (x : List ℕ). text_of (cut s).finished ++ x) (last (cut s).rest)
    ∙ sym (append_assoc (text_of (cut s).finished) (cut s).rest (supplied (cut s).rest))
    ∙ ap (λ (x : List ℕ). x ++ supplied (cut s).rest) (cut_all s)
  where
    last : (r : List ℕ) → text_of (last_line r) ≡ r ++ supplied r
    last [] = refl
    last (c ∷ r) = append-nil (closed (c ∷ r))
