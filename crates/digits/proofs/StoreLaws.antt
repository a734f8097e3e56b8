-- Laws of `sets`, a run of stores, and of a run of digits among them. Assumes nothing.
use mathlib.Core.Path.{◌≡◌, refl, sym, ap, ◌∙◌}
use mathlib.Core.List.{List, [], ◌∷◌, ◌++◌}
use Prim.Native.Nat.{ℕ, zero, suc, ◌+◌, ◌-◌, ◌≤◌, ◌<◌, min}
use native.Mathlib.Nat.{add-zero, add-suc, suc-add}
use native.Mathlib.Omega.{arith}
use lib.ListN.{take, drop, length, set, length-set}
use lib.Seq.{sets, set_out, drop-drop}
use borrow.Rule.Slice.PartMut.{put_mid}
use Rattle.std.proofs.Common.{append_assoc}
use lib.Seq.{take-nil}
use Rattle.std.proofs.lemmas.List.{length-take-le}
use Rattle.std.proofs.lemmas.List.Edits.{sets-eq}

-- one run behind another
pub sets_append : (a b l : List ℕ) (i : ℕ) → sets (sets l i a) (i + length a) b ≡ sets l i (a ++ b)
sets_append [] b l i = ap (λ (k : ℕ). sets l k b) (add-zero i)
sets_append (x ∷ a) b l i =
    ap (λ (k : ℕ). sets (sets (set l i x) (suc i) a) k b) (add-suc i (length a) ∙ sym (suc-add i (length a)))
    ∙ sets_append a b (set l i x) (suc i)

-- past the end nothing changes
pub sets_out : (a l : List ℕ) (i : ℕ) → length l ≤ i → sets l i a ≡ l
sets_out [] l i h = refl
sets_out (x ∷ a) l i h =
    let e : set l i x ≡ l = set_out l i x h in
    ap (λ (k : List ℕ). sets k (suc i) a) e ∙ sets_out a l (suc i) (omega arith)

-- so of a run only what has room counts
sets_room : (a l : List ℕ) (i n : ℕ) → (n < length a → length l ≤ i + n) → sets l i (take n a) ≡ sets l i a
sets_room [] l i n r = rw take-nil
sets_room (x ∷ a) l i zero r = sym (sets_out (x ∷ a) l i (omega (arith, r (omega arith))))
sets_room (x ∷ a) l i (suc n) r = sets_room a (set l i x) (suc i) n (λ k. omega (arith, length-set l i x, r (omega arith)))

-- and the run is stored where the part that has room is written
pub sets_part : (l a b : List ℕ) (i n : ℕ) → i ≤ length l → n ≡ min (length a) (length l - i) → b ≡ take n a → put_mid i (i + n - i) l b ≡ sets l i a
sets_part l a b i n h m e =
    let k : i + n - i ≡ n = omega arith in
    let t : length (take n a) ≡ n = length-take-le n a (omega arith) in
    let s : sets l i (take n a) ≡ take i l ++ take n a ++ drop (i + length (take n a)) l = sets-eq (take n a) l i (omega arith) in
    rw (k, e, ← sets_room a l i n (λ s. omega arith), s, t, drop-drop, append_assoc)
