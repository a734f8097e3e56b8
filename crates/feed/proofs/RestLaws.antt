-- Where bytes are held and the piece ends their record: a batch over that record, and then a call on the rest of the piece and of the answer buffer.
-- Over any table. Assumes nothing.
use mathlib.Core.Path.{◌≡◌, refl, sym, ap, ◌∙◌, subst}
use mathlib.Core.List.{List, [], ◌∷◌, ◌++◌, append-nil}
use mathlib.Core.Logic.{◌⊎◌, inl, inr, ⊎_elim}
use Prim.Native.Nat.{ℕ, zero, suc, ◌+◌, ◌-◌, ◌%◌, ◌≤◌, ◌<◌}
use native.Mathlib.Omega.{arith}
use lib.ListN.{length, take, drop, set, length-append, length-drop, drop_of_length-le}
use lib.Seq.{sets, length-sets, take_all, take-take}
use Rattle.digits.specs.Digits.{digits}
use Rattle.digits.proofs.StoreLaws.{sets_append}
use Rattle.records.specs.declared.Code.TheVariants.{Done, Full}
use Rattle.records.specs.Row.{Row, row_in}
use Rattle.records.specs.Run.{stop, run}
use Rattle.feeding.specs.Feed.{Open, Call, ends, goes, takes}
use Rattle.feeding.proofs.RecordLaws.{takes_rest}
use Rattle.feed.specs.Fields.{fields}
use Rattle.feed.specs.Post.{Pushed}
use Rattle.feed.specs.declared.Fed.{Fed}
use Rattle.feed.proofs.FieldLaws.{kind, part, held_is, part_length}

-- the report of a call that wrote nothing
pub pushed : (c e : Call) (r : Fed) (a b : List ℕ) → c ≡ e → e.bytes ≡ [] → b ≡ a → r.feed ≡ fields e.feed → r.taken ≡ e.taken → r.written ≡ 0 → r.code ≡ e.code → Pushed c r a b
pushed c e r a b i n k f t w d =
    subst (λ (y : Call). Pushed y r a b) (sym i)
    (record { feed = f; taken = t; written = w ∙ ap length (sym n); code = d; buffer = k ∙ ap (sets a 0) (sym n) })

-- ---- the record

module _ (T : List Row) (x have w : ℕ) (p bytes : List ℕ) (held : 0 < have) (le : have ≤ w) (ew : w ≡ (row_in T (x % 256)).width) (there : w + 1 ≤ have + length p)
    (joined : take (have + (w + 1 - have)) bytes ≡ digits have x ++ take (w + 1 - have) p) where
  -- how many bytes it wants
  abbrev pub need : ℕ
  need = w + 1 - have

  record_is : take (w + 1) bytes ≡ kind T x have held ∷ (part T x have held ++ take need p)
  record_is =
      let m : w + 1 ≡ have + need = omega arith in
      ap (λ (n : ℕ). take n bytes) m ∙ joined ∙ ap (λ (y : List ℕ). y ++ take need p) (held_is T x have held)

  -- what a batch over it says, and what the call does
  abbrev pub Refused : ℕ → Type 0
  Refused room = (run T (take (w + 1) bytes) room ≡ stop Full) × (takes T (digits have x) p room ≡ goes (need - 1) [] (ends (Open (take w bytes)) Full))

  abbrev pub Answered : ℕ → Type 0
  Answered room =
      let o = run T (take (w + 1) bytes) room in
      (o.code ≡ Done) × (takes T (digits have x) p room ≡ goes need o.bytes (takes T [] (drop need p) (room - o.tally.written)))

  pub by_batch : (room : ℕ) → Refused room ⊎ Answered room
  by_batch room =
      let k = kind T x have held in
      let g = part T x have held in
      let size : suc (length g) + need ≡ (row_in T k).width + 1 = omega (arith, part_length T x have held) in
      let l = takes_rest T k g p need room (λ z. omega arith) (omega arith) size in
      let h : takes T (digits have x) p room ≡ takes T (k ∷ g) p room = ap (λ (y : List ℕ). takes T y p room) (held_is T x have held) in
      let front : take (row_in T k).width (k ∷ (g ++ take need p)) ≡ take w bytes =
      ap (take (row_in T k).width) (sym record_is) ∙ ap (λ (n : ℕ). take n (take (w + 1) bytes)) (sym ew) ∙ take-take w (w + 1) bytes (omega arith) in
      ⊎_elim
      (λ r. inl (
        ap (λ (y : List ℕ). run T y room) record_is ∙ r.0,
        h ∙ r.1 ∙ ap (λ (y : List ℕ). goes (need - 1) [] (ends (Open y) Full)) front,
      ))
      (λ r. inr (
        ap (λ (y : List ℕ). (run T y room).code) record_is ∙ r.0,
        h ∙ r.1 ∙ ap (λ (y : List ℕ). goes need (run T y room).bytes (takes T [] (drop need p) (room - (run T y room).tally.written))) (sym record_is),
      ))
      l

-- ---- the rest

-- the part of a slice from a place on
part_all : (l : List ℕ) (n : ℕ) → take (length l - n) (drop n l) ≡ drop n l
part_all l n = let d = length-drop n l in take_all (length l - n) (drop n l) (omega arith)

-- stores behind a place
sets_cons : (y : ℕ) (l x : List ℕ) (i : ℕ) → sets (y ∷ l) (suc i) x ≡ y ∷ sets l i x
sets_cons y l [] i = refl
sets_cons y l (v ∷ x) i = sets_cons y (set l i v) x (suc i)

sets_behind : (n : ℕ) (l x : List ℕ) → n ≤ length l → take n l ++ sets (drop n l) 0 x ≡ sets l n x
sets_behind zero l x h = refl
sets_behind (suc n) [] x h = absurd (omega arith)
sets_behind (suc n) (y ∷ l) x h = ap (λ (s : List ℕ). y ∷ s) (sets_behind n l x (omega arith)) ∙ sym (sets_cons y l x n)

-- n bytes taken and x written; r is the report of the call on the rest of p and of a₁, and s the one of both
pub push_on : (T : List Row) (c : Call) (p x a a₁ b : List ℕ) (n v : ℕ) (r s : Fed) → c ≡ goes n x (takes T [] (drop n p) (length a - v)) → v ≡ length x →
    a₁ ≡ sets a 0 x → v ≤ length a₁ →
    Pushed (takes T [] (take (length p - n) (drop n p)) (length (take (length a₁ - v) (drop v a₁)))) r (take (length a₁ - v) (drop v a₁)) b →
    s.feed ≡ r.feed → s.taken ≡ n + r.taken → s.written ≡ v + r.written → s.code ≡ r.code →
    Pushed c s a (take v a₁ ++ (b ++ drop (length a₁ - v) (drop v a₁)))
push_on T c p x a a₁ b n v r s e ev ea fits d ef et ew ec =
    let la : length a₁ ≡ length a = ap length ea ∙ length-sets a 0 x in
    let lr : length (drop v a₁) ≡ length a - v = length-drop v a₁ ∙ ap (λ (m : ℕ). m - v) la in
    let rest = takes T [] (drop n p) (length a - v) in
    let same : takes T [] (take (length p - n) (drop n p)) (length (take (length a₁ - v) (drop v a₁))) ≡ rest =
    ap (λ (y : List ℕ). takes T [] y (length (take (length a₁ - v) (drop v a₁)))) (part_all p n)
    ∙ ap (takes T [] (drop n p)) (ap length (part_all a₁ v) ∙ lr) in
    let f : Pushed rest r (take (length a₁ - v) (drop v a₁)) b = subst (λ (y : Call). Pushed y r (take (length a₁ - v) (drop v a₁)) b) same d in
    let y = rest.bytes in
    let none : drop (length a₁ - v) (drop v a₁) ≡ [] = let l : length (drop v a₁) ≤ length a₁ - v = omega arith in drop_of_length-le (drop v a₁) l in
    let z : v ≡ 0 + length x = omega arith in
    let lx = length-append x y in
    subst (λ (k : Call). Pushed k s a (take v a₁ ++ (b ++ drop (length a₁ - v) (drop v a₁)))) (sym e)
    (record {
      feed = ef ∙ f.feed;
      taken = et ∙ ap (◌+◌ n) f.taken;
      written = omega (arith, ew, f.written);
      code = ec ∙ f.code;
      buffer = ap (λ (t : List ℕ). take v a₁ ++ (b ++ t)) none ∙ ap (λ (t : List ℕ). take v a₁ ++ t) (append-nil b ∙ f.buffer ∙ ap (λ (t : List ℕ). sets t 0 y) (part_all a₁ v))
          ∙ sets_behind v a₁ y fits ∙ ap (λ (t : List ℕ). sets t v y) ea ∙ ap (λ (j : ℕ). sets (sets a 0 x) j y) z ∙ sets_append x y a 0;
    })
