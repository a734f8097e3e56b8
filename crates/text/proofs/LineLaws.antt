-- A line and what it asks for: a good line is the line of its request, and the line of a request asks for it. Assumes nothing.
use Rattle.std.specs.Prelude.{Option, Some, None}
use mathlib.Core.Path.{◌≡◌, refl, sym, ap, ◌∙◌, subst}
use mathlib.Core.Bool.{Bool, true, false, not, ◌&&◌}
use mathlib.Core.List.{List, [], ◌∷◌, ◌++◌}
use mathlib.Core.Logic.{◌⊎◌, inl, inr, ⊎_elim}
use Prim.Native.Nat.{ℕ, ◌+◌, ◌*◌, ◌^◌, ◌≤◌, ◌<◌}
use native.Mathlib.Nat.{mul_comm}
use native.Mathlib.Omega.{arith}
use borrow.Author.Tests.{eqb-true, eq-eqb, ne_eqb}
use lib.Dec.{T, eqb, leb, leb→le}
use lib.ListN.{length, drop, length-append}
use lib.Seq.{drop-append_seam}
use Rattle.words.specs.Pick.{pick}
use Rattle.digits.proofs.DigitLaws.{pow_mul}
use Rattle.hexadecimal.specs.Hex.{hex, number_s}
use Rattle.hexadecimal.proofs.HexLaws.{length_hex, number_hex, hex_number}
use Rattle.kinds.specs.Kinds.{shapes, shape_of}
use Rattle.kinds.specs.Shape.{shape_in}
use Rattle.kinds.proofs.Every.{and_left, and_right}
use Rattle.kinds.proofs.ShapeLaws.{body_small}
use Rattle.text.specs.Names.{Name, names}
use Rattle.text.specs.Line.{head_of, digits_of, begins, ask_of, asked_by, asked_as, or_else, asked, line_of, Asked, Bad, Ask}
use Rattle.text.specs.Trip.{body_in}
use Rattle.text.specs.Promises.{In, Says, SaysGood, LineBack, OneLine, LineAsks}

-- a test that passes at each name of a table
abbrev pub all : (Name → Bool) → List Name → Bool
all f [] = true
all f (n ∷ ns) = f n && all f ns

pub all_at : (f : Name → Bool) (N : List Name) (n : Name) → T (all f N) → In n N → T (f n)
all_at f [] n t i = absurd i
all_at f (m ∷ ms) n t (inl e) = subst (λ (x : Name). T (f x)) (sym e) (and_left (f m) (all f ms) t)
all_at f (m ∷ ms) n t (inr i) = all_at f ms n (and_right (f m) (all f ms) t) i

no_ask : {A : Type 0} (k b : ℕ) → Bad ≡ Ask k b → A
no_ask k b e = let z : ◌≡◌ {A = ℕ} 0 1 = cc in absurd (omega arith)

same_ask : (j y k b : ℕ) → Ask j y ≡ Ask k b → (k ≡ j) × (y ≡ b)
same_ask j y k b e = (sym (ap kind e), ap bits e)
  where
    kind : Asked → ℕ
    kind None = j
    kind (Some r) = r.kind

    bits : Asked → ℕ
    bits None = y
    bits (Some r) = r.bits

-- s is p and what stands behind it
pub begins_split : (p s : List ℕ) → begins p s ≡ true → p ++ drop (length p) s ≡ s
unfolding begins
begins_split [] s e = refl
begins_split (a ∷ p) [] e = let z : ◌≡◌ {A = ℕ} 0 1 = cc in absurd (omega arith)
begins_split (a ∷ p) (b ∷ s) e = by-test (λ h. begins_split p s h) (eqb b a) refl e
  where
    by-test : (begins p s ≡ true → p ++ drop (length p) s ≡ s) → (t : Bool) → eqb b a ≡ t → pick t (begins p s) false ≡ true → a ∷ (p ++ drop (length p) s) ≡ b ∷ s
    by-test rest true q h = ap (λ (x : List ℕ). a ∷ x) (rest h) ∙ ap (λ (x : ℕ). x ∷ s) (sym (eqb-true b a q))
    by-test rest false q h = let z : ◌≡◌ {A = ℕ} 0 1 = cc in absurd (omega arith)

-- two digits a byte
pub two_a_byte : (w : ℕ) → 16 ^ (2 * w) ≡ 256 ^ w
two_a_byte w = ap (λ (j : ℕ). 16 ^ j) (mul_comm 2 w) ∙ pow_mul 16 2 w

-- what digits say that ask for something
digits_say : (k j b : ℕ) (d : List ℕ) → asked_by j d ≡ Ask k b → (k ≡ j) × ((d ≡ hex (digits_of j) b) × (b < 16 ^ digits_of j))
digits_say k j b d = by_length (eqb (length d) (digits_of j)) refl
  where
    by_number : (x : Option ℕ) → number_s d ≡ x → length d ≡ digits_of j → ask_of j x ≡ Ask k b → (k ≡ j) × ((d ≡ hex (digits_of j) b) × (b < 16 ^ digits_of j))
    by_number None q l e = no_ask k b e
    by_number (Some y) q l e =
        let same = same_ask j y k b e in
        let h = hex_number d y q in
        let r : (d ≡ hex (digits_of j) y) × (y < 16 ^ digits_of j) = subst (λ (m : ℕ). (d ≡ hex m y) × (y < 16 ^ m)) l (sym h.0, h.1) in
        (same.0, subst (λ (v : ℕ). (d ≡ hex (digits_of j) v) × (v < 16 ^ digits_of j)) same.1 r)

    by_length : (t : Bool) → eqb (length d) (digits_of j) ≡ t → pick t (ask_of j (number_s d)) Bad ≡ Ask k b → (k ≡ j) × ((d ≡ hex (digits_of j) b) × (b < 16 ^ digits_of j))
    by_length true q e = by_number (number_s d) refl (eqb-true _ _ q) e
    by_length false q e = no_ask k b e

as_says : (n : Name) (s : List ℕ) (k b : ℕ) → asked_as (head_of n) n.kind s ≡ Ask k b → Says n s k b
unfolding asked_as
as_says n s k b = by-head (begins (head_of n) s) refl
  where
    by-head : (t : Bool) → begins (head_of n) s ≡ t → pick t (asked_by n.kind (drop (length (head_of n)) s)) Bad ≡ Ask k b → Says n s k b
    by-head true q e =
        let d = digits_say k n.kind b (drop (length (head_of n)) s) e in
        record {
          kind = d.0;
          line = sym (begins_split (head_of n) s q) ∙ ap (λ (x : List ℕ). head_of n ++ x) d.1.0 ∙ ap (λ (j : ℕ). head_of n ++ hex (digits_of j) b) (sym d.0);
          small = subst (λ (j : ℕ). b < 256 ^ (shape_of j).body) (sym d.0) (subst (λ (m : ℕ). b < m) (two_a_byte (shape_of n.kind).body) d.1.1);
        }
    by-head false q e = no_ask k b e

-- a good line is a line of some name of the table
pub good_says : (N : List Name) (s : List ℕ) (k b : ℕ) → asked N s ≡ Ask k b → (n : Name) × (In n N × Says n s k b)
unfolding asked
good_says [] s k b e = no_ask k b e
good_says (n ∷ ns) s k b e = by_first (λ h. good_says ns s k b h) (asked_as (head_of n) n.kind s) refl e
  where
    by_first : (asked ns s ≡ Ask k b → (m : Name) × (In m ns × Says m s k b)) → (a : Asked) → asked_as (head_of n) n.kind s ≡ a → or_else a (asked ns s) ≡ Ask k b →
        (m : Name) × (In m (n ∷ ns) × Says m s k b)
    by_first later None q h = let r = later h in (r.0, (inr r.1.0, r.1.1))
    by_first later (Some r) q h = (n, (inl refl, as_says n s k b (q ∙ h)))

-- ---- the line of a request

-- no name of the table has kind k
abbrev pub apart : ℕ → List Name → Bool
apart k N = all (λ n. not (eqb k n.kind)) N

-- the names of a table have kinds of their own
abbrev pub distinct : List Name → Bool
distinct [] = true
distinct (n ∷ ns) = apart n.kind ns && distinct ns

not_same : (j k : ℕ) → T (not (eqb j k)) → j ≡ k → ⊥
not_same j k t e = subst (λ (x : Bool). T (not x)) (eq-eqb j k e) t

-- the line of a kind is its name's
pub line_in : (N : List Name) → T (distinct N) → (n : Name) → In n N → (b : ℕ) → line_of N n.kind b ≡ head_of n ++ hex (digits_of n.kind) b
unfolding line_of
line_in [] t n i b = absurd i
line_in (m ∷ ms) t n (inl e) b =
    subst (λ (x : Name). line_of (m ∷ ms) x.kind b ≡ head_of x ++ hex (digits_of x.kind) b) (sym e) (rw (eq-eqb m.kind m.kind refl))
line_in (m ∷ ms) t n (inr i) b =
    let h = not_same m.kind n.kind (all_at (λ n. not (eqb m.kind n.kind)) ms n (and_left (apart m.kind ms) (distinct ms) t) i) in
    rw (ne_eqb n.kind m.kind (λ e. h (sym e))) (line_in ms (and_right (apart m.kind ms) (distinct ms) t) n i b)

names_distinct : T (distinct names)
unfolding names
names_distinct = tt

-- the line of what a good line asks for is that line
pub line_back : LineBack
line_back s k b e =
    let g = good_says names s k b e in
    let n = g.0 in
    let y = g.1.1 in
    ap (λ (j : ℕ). line_of names j b) y.kind ∙ line_in names names_distinct n g.1.0 b ∙ ap (λ (j : ℕ). head_of n ++ hex (digits_of j) b) (sym y.kind) ∙ sym y.line

-- no two good lines ask for the same
pub one_line : OneLine
one_line s t k b e f = sym (line_back s k b e) ∙ line_back t k b f

-- ---- and what it asks for

-- two heads that differ where both have a byte
abbrev pub differs : List ℕ → List ℕ → Bool
differs [] q = false
differs (a ∷ p) [] = false
differs (a ∷ p) (b ∷ q) = pick (eqb b a) (differs p q) true

begins_not : (p q d : List ℕ) → T (differs p q) → begins p (q ++ d) ≡ false
unfolding begins
begins_not [] q d t = absurd t
begins_not (a ∷ p) [] d t = absurd t
begins_not (a ∷ p) (b ∷ q) d t = by-test (λ h. begins_not p q d h) (eqb b a) t
  where
    by-test : (T (differs p q) → begins p (q ++ d) ≡ false) → (u : Bool) → T (pick u (differs p q) true) → pick u (begins p (q ++ d)) false ≡ false
    by-test rest true h = rest h
    by-test rest false h = refl

begins_itself : (p d : List ℕ) → begins p (p ++ d) ≡ true
unfolding begins
begins_itself [] d = refl
begins_itself (a ∷ p) d = rw (eq-eqb a a refl) (begins_itself p d)

-- no head of the table can be taken for a later one
abbrev pub unlike : List Name → Bool
unlike [] = true
unlike (n ∷ ns) = all (λ m. differs (head_of n) (head_of m)) ns && unlike ns

-- digits that were written ask for their number
digits_ask : (k b : ℕ) → b < 256 ^ (shape_of k).body → asked_by k (hex (digits_of k) b) ≡ Ask k b
digits_ask k b h =
    let w : digits_of k ≤ 16 = omega (arith, body_small k) in
    let l : b < 16 ^ digits_of k = subst (λ (m : ℕ). b < m) (sym (two_a_byte (shape_of k).body)) h in
    rw (eq-eqb (length (hex (digits_of k) b)) (digits_of k) (length_hex (digits_of k) b), number_hex (digits_of k) b w l)

-- a name's own line asks its kind
pub ask_in : (N : List Name) → T (unlike N) → (n : Name) → In n N → (b : ℕ) → b < 256 ^ (shape_of n.kind).body → asked N (head_of n ++ hex (digits_of n.kind) b) ≡ Ask n.kind b
unfolding asked asked_as
ask_in [] t n i b h = absurd i
ask_in (m ∷ ms) t n (inl e) b h =
    let d = hex (digits_of n.kind) b in
    let a : asked_as (head_of n) n.kind (head_of n ++ d) ≡ Ask n.kind b =
    rw (begins_itself (head_of n) d, drop-append_seam (head_of n) d) (digits_ask n.kind b h) in
    ap (λ (x : Name). or_else (asked_as (head_of x) x.kind (head_of n ++ d)) (asked ms (head_of n ++ d))) (sym e)
    ∙ ap (λ (x : Asked). or_else x (asked ms (head_of n ++ d))) a
ask_in (m ∷ ms) t n (inr i) b h =
    let d = hex (digits_of n.kind) b in
    let other = all_at (λ x. differs (head_of m) (head_of x)) ms n (and_left (all (λ x. differs (head_of m) (head_of x)) ms) (unlike ms) t) i in
    rw (begins_not (head_of m) (head_of n) d other) (ask_in ms (and_right (all (λ x. differs (head_of m) (head_of x)) ms) (unlike ms) t) n i b h)

names_unlike : T (unlike names)
unfolding names
names_unlike = tt

-- what was written is asked for
pub line_asks : LineAsks
line_asks n i b h = ap (asked names) (line_in names names_distinct n i b) ∙ ask_in names names_unlike n i b h

-- a line of a name is good, and there is no other (good_says)
pub says_good : SaysGood
says_good n s k b i y =
    let e = y.kind in
    ap (asked names) (y.line ∙ ap (λ (j : ℕ). head_of n ++ hex (digits_of j) b) e)
    ∙ ask_in names names_unlike n i b (subst (λ (j : ℕ). b < 256 ^ (shape_of j).body) e y.small) ∙ ap (λ (j : ℕ). Ask j b) (sym e)

-- ---- sizes, each by one test of the names

-- a good line has from 13 to 25 bytes
pub good_length : (s : List ℕ) (k b : ℕ) → asked names s ≡ Ask k b → (12 < length s) × (length s ≤ 25)
unfolding names shapes shape_in
good_length s k b e =
    let g = good_says names s k b e in
    let n = g.0 in
    let y = g.1.1 in
    let size = length (head_of n) + digits_of n.kind in
    let low : 13 ≤ size = leb→le 13 size (all_at (λ n. leb 13 (length (head_of n) + digits_of n.kind)) names n tt g.1.0) in
    let high : size ≤ 25 = leb→le size 25 (all_at (λ n. leb (length (head_of n) + digits_of n.kind) 25) names n tt g.1.0) in
    let l = ap length y.line ∙ length-append (head_of n) (hex (digits_of k) b) in
    let w = length_hex (digits_of k) b in
    let j = ap digits_of y.kind in
    (omega (arith, l, w, j, low), omega (arith, l, w, j, high))

-- what a good line asks for fits the body of its request, which has a byte
pub ask_small : (s : List ℕ) (k b : ℕ) → asked names s ≡ Ask k b → b < 256 ^ (shape_of k).body
ask_small s k b e = (good_says names s k b e).1.1.small

body_some : (n : Name) → In n names → 0 < (shape_of n.kind).body
unfolding names shapes shape_in
body_some n i = leb→le 1 (shape_of n.kind).body (all_at (λ n. leb 1 (shape_of n.kind).body) names n tt i)

body_named : (N : List Name) (n : Name) → In n N → body_in N n.kind ≡ (shape_of n.kind).body
unfolding body_in
body_named [] n i = absurd i
body_named (m ∷ ms) n (inl e) = rw (eq-eqb n.kind m.kind (ap (λ (x : Name). x.kind) e))
body_named (m ∷ ms) n (inr i) = by-test (eqb n.kind m.kind) (body_named ms n i)
  where
    by-test : (t : Bool) → body_in ms n.kind ≡ (shape_of n.kind).body → pick t (shape_of n.kind).body (body_in ms n.kind) ≡ (shape_of n.kind).body
    by-test true h = refl
    by-test false h = h

pub body_of : (n : Name) (k : ℕ) → In n names → k ≡ n.kind → (body_in names k ≡ (shape_of k).body) × (0 < (shape_of k).body)
body_of n k i e = subst (λ (j : ℕ). (body_in names j ≡ (shape_of j).body) × (0 < (shape_of j).body)) (sym e) (body_named names n i, body_some n i)

pub body_none : (N : List Name) (k : ℕ) → ((n : Name) → In n N → k ≡ n.kind → ⊥) → body_in N k ≡ 0
unfolding body_in
body_none [] k h = refl
body_none (n ∷ ns) k h = rw (ne_eqb k n.kind (h n (inl refl))) (body_none ns k (λ m i. h m (inr i)))

pub ask_body : (s : List ℕ) (k b : ℕ) → asked names s ≡ Ask k b → (body_in names k ≡ (shape_of k).body) × (0 < (shape_of k).body)
ask_body s k b e = let g = good_says names s k b e in body_of g.0 k g.1.0 g.1.1.kind

-- every line asks for something or is bad
pub bad_or_ask : (N : List Name) (s : List ℕ) → (asked N s ≡ Bad) ⊎ ((k : ℕ) × ((b : ℕ) × (asked N s ≡ Ask k b)))
bad_or_ask N s = by-case (asked N s) refl
  where
    by-case : (a : Asked) → asked N s ≡ a → (asked N s ≡ Bad) ⊎ ((k : ℕ) × ((b : ℕ) × (asked N s ≡ Ask k b)))
    by-case None e = inl e
    by-case (Some r) e = inr (r.kind, (r.bits, e))

-- a line over 25 bytes is bad
pub long_bad : (s : List ℕ) → 25 < length s → asked names s ≡ Bad
long_bad s h = ⊎_elim (λ e. e) (λ g. absurd (omega (arith, (good_length s g.0 g.1.0 g.1.1).1))) (bad_or_ask names s)

-- and so is one of none
pub empty_bad : asked names [] ≡ Bad
unfolding asked asked_as begins names
empty_bad = refl
