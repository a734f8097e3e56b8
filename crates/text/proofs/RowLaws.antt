-- The table of names as the code has it: row by row, and what the head of a kind says of the kind's line. Assumes nothing.
use Rattle.std.specs.Prelude.{Option, Some, None, if◌then◌else◌}
use mathlib.Core.Path.{◌≡◌, refl, sym, ◌∙◌}
use mathlib.Core.Bool.{Bool, true, false, ◌&&◌}
use mathlib.Core.List.{List, [], ◌∷◌, ◌++◌}
use Prim.Native.Nat.{ℕ, zero, suc, ◌+◌, ◌≤◌, ◌<◌}
use native.Mathlib.Numerals.{add-one}
use native.Mathlib.Omega.{arith}
use borrow.Author.Tests.{eqb-true, eq-eqb, ne_eqb}
use lib.Dec.{T, leb, leb→le}
use lib.ListN.{length, drop, get_or, length-append}
use Rattle.words.specs.Tests.{◌=?◌}
use Rattle.hexadecimal.specs.Hex.{hex}
use Rattle.kinds.specs.Shape.{shape_in}
use Rattle.kinds.specs.Kinds.{shapes, shape_of}
use Rattle.kinds.proofs.Every.{and_left, and_right}
use Rattle.text.specs.Names.{Name, names}
use Rattle.text.specs.Line.{SPACE, head_of, digits_of, line_of, asked_as, or_else, asked, Asked}
use Rattle.text.specs.Trip.{body_in}
use Rattle.text.specs.Rows.{Rows, head_for}
use Rattle.text.specs.declared.names.Row.{Row}
use Rattle.text.proofs.LineLaws.{all}

-- so of the names from row i on row i tells first
module _ (k : ℕ) (d : Row) where
  row_next : (R : List Row) (N : List Name) (i : ℕ) → Rows R N → i < length R →
      head_for (drop i N) k ≡ (if k =? (get_or R i d).kind then Some (get_or R i d).head.now else head_for (drop (suc i) N) k)
  unfolding head_for
  row_next [] N i t h = absurd (omega arith)
  row_next (r ∷ R) [] i t h = absurd t
  row_next (r ∷ R) (n ∷ N) zero t h = rw (t.0, t.1.0)
  row_next (r ∷ R) (n ∷ N) (suc i) t h = row_next R N i t.1.1 (omega arith)

  module _ (R : List Row) (N : List Name) (i : ℕ) (t : Rows R N) (h : i < length R) where
    pub row_here : k ≡ (get_or R i d).kind → head_for (drop i N) k ≡ Some (get_or R i d).head.now
    row_here e = row_next R N i t h ∙ rw (eq-eqb k (get_or R i d).kind e)

    pub row_later : (k ≡ (get_or R i d).kind → ⊥) → head_for (drop (i + 1) N) k ≡ head_for (drop i N) k
    row_later e = sym (row_next R N i t h ∙ rw (ne_eqb k (get_or R i d).kind e, add-one))

pub rows_end : (k : ℕ) (R : List Row) (N : List Name) (i : ℕ) → Rows R N → length R ≤ i → head_for (drop i N) k ≡ None
unfolding head_for
rows_end k [] [] zero t h = refl
rows_end k [] [] (suc i) t h = refl
rows_end k [] (n ∷ N) i t h = absurd t
rows_end k (r ∷ R) [] i t h = absurd t
rows_end k (r ∷ R) (n ∷ N) zero t h = absurd (omega arith)
rows_end k (r ∷ R) (n ∷ N) (suc i) t h = rows_end k R N i t.1.1 (omega arith)

-- and of a line
module _ (s : List ℕ) (d : Row) where
  ask_next : (R : List Row) (N : List Name) (i : ℕ) → Rows R N → i < length R →
      asked (drop i N) s ≡ or_else (asked_as (get_or R i d).head.now (get_or R i d).kind s) (asked (drop (suc i) N) s)
  unfolding asked
  ask_next [] N i t h = absurd (omega arith)
  ask_next (r ∷ R) [] i t h = absurd t
  ask_next (r ∷ R) (n ∷ N) zero t h = rw (t.0, t.1.0)
  ask_next (r ∷ R) (n ∷ N) (suc i) t h = ask_next R N i t.1.1 (omega arith)

  pub ask_row : (R : List Row) (N : List Name) (i : ℕ) (a : Asked) → Rows R N → i < length R → a ≡ asked_as (get_or R i d).head.now (get_or R i d).kind s →
      asked (drop i N) s ≡ or_else a (asked (drop (i + 1) N) s)
  ask_row R N i a t h e = ask_next R N i t h ∙ rw (e, add-one)

pub ask_end : (s : List ℕ) (R : List Row) (N : List Name) (i : ℕ) → Rows R N → length R ≤ i → asked (drop i N) s ≡ None
unfolding asked
ask_end s [] [] zero t h = refl
ask_end s [] [] (suc i) t h = refl
ask_end s [] (n ∷ N) i t h = absurd t
ask_end s (r ∷ R) [] i t h = absurd t
ask_end s (r ∷ R) (n ∷ N) zero t h = absurd (omega arith)
ask_end s (r ∷ R) (n ∷ N) (suc i) t h = ask_end s R N i t.1.1 (omega arith)

-- ---- the head of a kind, its body and its line
module _ (P : Option (List ℕ) → ℕ → (ℕ → List ℕ) → Type 0) (f : Name → Bool) (k : ℕ) (none : P None 0 (λ b. []))
    (some : (n : Name) → T (f n) → k ≡ n.kind → P (Some (head_of n)) (shape_of k).body (λ b. head_of n ++ hex (digits_of k) b)) where
  -- what is so of a name that passes, and of none, is so of the head of a kind
  row_elim : (N : List Name) → T (all f N) → P (head_for N k) (body_in N k) (line_of N k)
  unfolding head_for body_in line_of
  row_elim [] t = none
  row_elim (n ∷ N) t = by (k =? n.kind) refl (row_elim N (and_right (f n) (all f N) t))
    where
      by : (b : Bool) → k =? n.kind ≡ b → P (head_for N k) (body_in N k) (line_of N k) →
          P (if b then Some (head_of n) else head_for N k) (if b then (shape_of k).body else body_in N k)
          (λ x. if b then head_of n ++ hex (digits_of k) x else line_of N k x)
      by true e later = some n (and_left (f n) (all f N) t) (eqb-true k n.kind e)
      by false e later = later

-- what the code takes from it: where there is none the kind has no line, and else its line begins with the head
pub record Told (k : ℕ) (h : List ℕ) (body : ℕ) (lines : ℕ → List ℕ) : Type 0 where
  pub short : length h ≤ 10
  pub body_is : body ≡ (shape_of k).body
  pub some : 0 < body
  pub line : (b : ℕ) → lines b ≡ h ++ hex (digits_of k) b

abbrev Tells : ℕ → Option (List ℕ) → ℕ → (ℕ → List ℕ) → Type 0
Tells k None body lines = body ≡ 0
Tells k (Some h) body lines = Told k h body lines

-- a name has at most nine letters, and its kind a body
abbrev fits : Name → Bool
fits n = leb (length n.letters) 9 && leb 1 (shape_of n.kind).body

tells : (k : ℕ) → Tells k (head_for names k) (body_in names k) (line_of names k)
unfolding names shapes shape_in
tells k =
    row_elim (Tells k) fits k refl
    (λ n t e.
    let l = leb→le (length n.letters) 9 (and_left (leb (length n.letters) 9) (leb 1 (shape_of n.kind).body) t) in
    let w = leb→le 1 (shape_of n.kind).body (and_right (leb (length n.letters) 9) (leb 1 (shape_of n.kind).body) t) in
    record {
      short = omega (arith, length-append n.letters (SPACE ∷ []));
      body_is = refl;
      some = rw e w;
      line = λ b. refl;
    })
    names tt

pub told_none : (k : ℕ) → None ≡ head_for names k → body_in names k ≡ 0
told_none k e = rw (sym e) at (tells k)

pub told : (k : ℕ) (h : List ℕ) → Some h ≡ head_for names k → Told k h (body_in names k) (line_of names k)
told k h e = rw (sym e) at (tells k)
