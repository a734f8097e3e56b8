-- The record at the front: which case of `one` it is, by the tests in the code's order. Assumes nothing.
use mathlib.Core.Path.{◌≡◌, refl, sym, ap, ◌∙◌}
use mathlib.Core.List.{List, ◌∷◌}
use Prim.Native.Nat.{ℕ, ◌+◌, ◌≤◌, ◌<◌}
use borrow.Author.Tests.{lt-ltb, le-ltb, eq-eqb, ne_eqb}
use lib.ListN.{length}
use lib.Seq.{sets}
use Rattle.digits.specs.Digits.{word}
use Rattle.records.specs.Reply.{bytes_of}
use Rattle.records.specs.Row.{Row, row_in}
use Rattle.records.specs.declared.Code.{Code}
use Rattle.records.specs.declared.Code.TheVariants.{Done, Unknown, Cut, Full}
use Rattle.records.specs.Tally.{nothing}
use Rattle.records.specs.Run.{Out, stop, took, choose, one}
use Rattle.records.specs.Did.{Did}
use Rattle.records.specs.declared.Report.{Report}

-- the tests
module _ (w l room : ℕ) (x : List ℕ) where
  pub choose_unknown : w ≡ 0 → choose w l room x ≡ stop Unknown
  choose_unknown z = rw (eq-eqb w 0 z)

  pub choose_cut : (w ≡ 0 → ⊥) → l < w → choose w l room x ≡ stop Cut
  choose_cut z h = rw (ne_eqb w 0 z, lt-ltb l w h)

  pub choose_full : (w ≡ 0 → ⊥) → w ≤ l → room < length x → choose w l room x ≡ stop Full
  choose_full z h f = rw (ne_eqb w 0 z, le-ltb l w h, lt-ltb room (length x) f)

  pub choose_whole : (w ≡ 0 → ⊥) → w ≤ l → length x ≤ room → choose w l room x ≡ took w x
  choose_whole z h f = rw (ne_eqb w 0 z, le-ltb l w h, le-ltb room (length x) f)

-- a record at the front, in the code's own numbers: w is the width of its body
module _ (T : List Row) (k : ℕ) (s : List ℕ) (room w : ℕ) (ew : w ≡ (row_in T k).width) where
  at_front : one T (k ∷ s) room ≡ choose w (length s) room (bytes_of ((row_in T k).reply (word w s)))
  unfolding one
  at_front = ap (λ (v : ℕ). choose v (length s) room (bytes_of ((row_in T k).reply (word v s)))) (sym ew)

  pub at_unknown : w ≡ 0 → one T (k ∷ s) room ≡ stop Unknown
  at_unknown z = at_front ∙ choose_unknown w (length s) room (bytes_of ((row_in T k).reply (word w s))) z

  pub at_cut : (w ≡ 0 → ⊥) → length s < w → one T (k ∷ s) room ≡ stop Cut
  at_cut z l = at_front ∙ choose_cut w (length s) room (bytes_of ((row_in T k).reply (word w s))) z l

  module _ (x : List ℕ) (ex : x ≡ bytes_of ((row_in T k).reply (word w s))) (z : w ≡ 0 → ⊥) (l : w ≤ length s) where
    pub at_full : room < length x → one T (k ∷ s) room ≡ stop Full
    at_full f = at_front ∙ ap (choose w (length s) room) (sym ex) ∙ choose_full w (length s) room x z l f

    pub at_whole : length x ≤ room → one T (k ∷ s) room ≡ took w x
    at_whole f = at_front ∙ ap (choose w (length s) room) (sym ex) ∙ choose_whole w (length s) room x z l f

pub did_stop : (o : Out) (r : Report Code) (c : Code) (out : ℕ) (a : List ℕ) → r ≡ record { code = c; tally = nothing } → o ≡ stop c → Did o r out a a
did_stop o r c out a er eo = rw (er, eo) (record { code = refl; tally = refl; buffer = refl })

pub did_took : (o : Out) (r : Report Code) (w n out : ℕ) (x a b : List ℕ) → r ≡ record { code = Done; tally = record { records = 1; read = 1 + w; written = n } } →
    o ≡ took w x → n ≡ length x → b ≡ sets a out x → Did o r out a b
did_took o r w n out x a b er eo l f = rw (er, eo, l) (record { code = refl; tally = refl; buffer = f })

-- two reports of one thing done are the same
pub did_same : (o : Out) (r r' : Report Code) (p : ℕ) (a b b' : List ℕ) → Did o r p a b → Did o r' p a b' → (r ≡ r') × (b ≡ b')
did_same o r r' p a b b' d d' = (
  λ i. record {
    code = (d.code ∙ sym d'.code) i;
    tally = (d.tally ∙ sym d'.tally) i;
  },
  d.buffer ∙ sym d'.buffer,
)
