-- The table of kinds: the row of a kind that there is not, and that every reply has the shape of its kind. Assumes nothing.
use mathlib.Core.Path.{◌≡◌, refl, sym, ap, ◌∙◌, subst}
use mathlib.Core.Bool.{Bool, true, false, ◌&&◌, cond}
use mathlib.Core.List.{List, [], ◌∷◌, map}
use mathlib.Core.Logic.{◌⊎◌, inl, inr, ⊎_elim}
use Prim.Native.Nat.{ℕ, ◌+◌, ◌*◌, ◌%◌, ◌^◌, ◌≤◌, ◌<◌}
use native.Mathlib.Nat.{mod-eq_of_lt}
use native.Mathlib.Omega.{arith}
use borrow.Author.Tests.{ne_eqb, eqb-true}
use lib.Dec.{T, eqb, leb, eqb→eq, leb→le}
use lib.ListN.{length}
use Rattle.words.specs.Pick.{pick}
use Rattle.kinds.specs.Shape.{Shape, shape, total, shape_in, answer_length}
use Rattle.kinds.specs.Kinds.{shapes, shape_of, longest_answer}
use Rattle.kinds.proofs.Every.{and_left, and_right}
use Rattle.kinds.proofs.ShapeLaws.{body_small, answer_light, answer_longest}
use Rattle.records.specs.Reply.{bytes_of}
use Rattle.records.specs.Row.{Row, no_row, row_in}
use Rattle.replies.specs.Table.{Meaning, meanings, first_width, other_widths, answer, row_of, table, reply_s}
use Rattle.records.proofs.ReplyLaws.{length_bytes}

-- k is the kind of no row: what is left of `rest` where it was tested against each, one after the other
abbrev pub Apart : Type 0 → List Row → ℕ → Type 0
Apart rest [] k = rest
Apart rest (r ∷ rs) k = Apart (rest × (k ≡ r.kind → ⊥)) rs k

apart_first : (rest : Type 0) (rs : List Row) (k : ℕ) → Apart rest rs k → rest
apart_first rest [] k h = h
apart_first rest (r ∷ rs) k h = (apart_first (rest × (k ≡ r.kind → ⊥)) rs k h).0

pub row_none : (rest : Type 0) (rs : List Row) (k : ℕ) → Apart rest rs k → row_in rs k ≡ no_row k
unfolding row_in
row_none rest [] k h = refl
row_none rest (r ∷ rs) k h =
    rw (ne_eqb k r.kind (apart_first (rest × (k ≡ r.kind → ⊥)) rs k h).1) (row_none (rest × (k ≡ r.kind → ⊥)) rs k h)

-- an answer of a shape is as long as the shape says
split : (vs : List ℕ) → first_width vs + other_widths vs ≡ total vs
split [] = refl
split (n ∷ ns) = refl

length_answer : (s : Shape) (v e : ℕ) → length (bytes_of (answer s v e)) ≡ answer_length s
length_answer s v e = omega (arith, length_bytes (answer s v e), split s.values)

-- the kinds of the functions are those of the shapes, in the same order
joined : List Meaning → List Shape → Bool
joined [] [] = true
joined [] (s ∷ ss) = false
joined (m ∷ ms) [] = false
joined (m ∷ ms) (s ∷ ss) = eqb m.kind s.kind && joined ms ss

module _ (k : ℕ) where
  -- a row with the shape of kind k
  Fits : Row → Type 0
  Fits r = (r.width ≡ (shape_of k).body) × ((b : ℕ) → length (bytes_of (r.reply b)) ≡ answer_length (shape_of k))

  Told : Row → Shape → Type 0
  Told r s = Fits r ⊎ ((r ≡ no_row k) × (s ≡ shape k 0 [] []))

  found : (m : Meaning) → k ≡ m.kind → Fits (row_of m)
  unfolding Fits
  found m e =
      (ap (λ (j : ℕ). (shape_of j).body) (sym e), λ b. length_answer (shape_of m.kind) (m.value b) (m.behind b) ∙ ap (λ (j : ℕ). answer_length (shape_of j)) (sym e))

  either : (m : Meaning) (s : Shape) (r : Row) (q : Shape) (t : Bool) → eqb k m.kind ≡ t → Told r q → Told (pick t (row_of m) r) (cond t s q)
  unfolding Told
  either m s r q true e h = inl (found m (eqb-true k m.kind e))
  either m s r q false e h = h

  told : (ms : List Meaning) (ss : List Shape) → T (joined ms ss) → Told (row_in (map row_of ms) k) (shape_in ss k)
  unfolding joined Told row_in shape_in
  told [] [] t = inr (refl, refl)
  told [] (s ∷ ss) t = absurd t
  told (m ∷ ms) [] t = absurd t
  told (m ∷ ms) (s ∷ ss) t =
      let e : m.kind ≡ s.kind = eqb→eq m.kind s.kind (and_left (eqb m.kind s.kind) (joined ms ss) t) in
      let h = told ms ss (and_right (eqb m.kind s.kind) (joined ms ss) t) in
      subst (λ (j : ℕ). Told (pick (eqb k m.kind) (row_of m) (row_in (map row_of ms) k)) (cond (eqb k j) s (shape_in ss k))) e
      (either m s (row_in (map row_of ms) k) (shape_in ss k) (eqb k m.kind) refl h)

  fits : Fits (row_in table k)
  unfolding Fits Told joined table meanings shapes
  fits =
      ⊎_elim (λ h. h)
      (λ n. (
        ap (λ (r : Row). r.width) n.0 ∙ sym (ap (λ (s : Shape). s.body) n.1),
        λ b. ap (λ (r : Row). length (bytes_of (r.reply b))) n.0 ∙ length_bytes _ ∙ sym (ap answer_length n.1),
      ))
      (told meanings shapes tt)

-- a row is as wide as its kind's body
pub row_width : (k : ℕ) → (row_in table k).width ≡ (shape_of k).body
unfolding Fits
row_width k = (fits k).0

-- every reply has the length that its kind's shape says
pub reply_length : (k b : ℕ) → length (bytes_of ((row_in table k).reply b)) ≡ answer_length (shape_of k)
unfolding Fits
reply_length k b = (fits k).1 b

-- the first value of each kind has at most eight bytes
short : List Meaning → Bool
short [] = true
short (m ∷ ms) = leb (first_width (shape_of m.kind).values) 8 && short ms

short_in : (ms : List Meaning) → T (short ms) → (k b : ℕ) → ((row_in (map row_of ms) k).reply b).width ≤ 8
unfolding short row_in
short_in [] t k b = omega arith
short_in (m ∷ ms) t k b =
    either (eqb k m.kind) (leb→le _ 8 (and_left (leb (first_width (shape_of m.kind).values) 8) (short ms) t)) (short_in ms (and_right (leb (first_width (shape_of m.kind).values) 8) (short ms) t) k b)
  where
    either : (t : Bool) → ((row_of m).reply b).width ≤ 8 → ((row_in (map row_of ms) k).reply b).width ≤ 8 → ((pick t (row_of m) (row_in (map row_of ms) k)).reply b).width ≤ 8
    either true p q = p
    either false p q = q

pub value_short : (k b : ℕ) → ((row_in table k).reply b).width ≤ 8
unfolding table meanings short shapes shape_in
value_short k b = short_in meanings tt k b

-- a reply is at most twice as long as its request
pub reply_light : (k b : ℕ) → length (bytes_of ((row_in table k).reply b)) ≤ 2 * (1 + (row_in table k).width)
reply_light k b = omega (arith, reply_length k b, row_width k, answer_light k)

-- no reply is longer than the longest answer
pub reply_longest : (k b : ℕ) → length (bytes_of ((row_in table k).reply b)) ≤ longest_answer
reply_longest k b = omega (arith, reply_length k b, answer_longest k)

-- the values of kind 7 are that of kind 3 and that of kind 4
pub both_are_each : (b : ℕ) → ((reply_s 7 b).bits ≡ (reply_s 3 b).bits) × ((reply_s 7 b).extra ≡ (reply_s 4 b).bits)
unfolding table meanings row_in shapes shape_in
both_are_each b = (refl, refl)

pub width_small : (k : ℕ) → (row_in table k).width ≤ 8
width_small k = omega (arith, row_width k, body_small k)

-- a number that the body of a kind can make counts whole
pub reply_whole : (k b : ℕ) → b < 256 ^ (row_in table k).width → reply_s k b ≡ (row_in table k).reply b
reply_whole k b h = ap (row_in table k).reply (mod-eq_of_lt h)

-- the reply to a kind that is in no row
pub reply_none : (rest : Type 0) (k b : ℕ) → Apart rest table k → reply_s k b ≡ (no_row k).reply 0
reply_none rest k b h = ap (λ (r : Row). r.reply (b % 256 ^ r.width)) (row_none rest table k h)
