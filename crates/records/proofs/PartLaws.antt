-- What is written into the rest of a buffer, behind a place: it is written into the buffer from that place on. Assumes nothing.
use mathlib.Core.Path.{◌≡◌, refl, sym, ap, ◌∙◌, subst}
use mathlib.Core.List.{List, [], ◌∷◌, ◌++◌, append-nil}
use Prim.Native.Nat.{ℕ, zero, suc, ◌-◌, ◌≤◌}
use native.Mathlib.Omega.{arith}
use lib.ListN.{length, take, drop, set, length-drop, drop_of_length-le}
use lib.Seq.{sets}
use Rattle.std.proofs.lemmas.List.{take_rest}
use Rattle.records.specs.Run.{Out}
use Rattle.records.specs.Did.{Did}
use Rattle.records.specs.declared.Code.{Code}
use Rattle.records.specs.declared.Report.{Report}

sets_cons : (y : ℕ) (l x : List ℕ) (i : ℕ) → sets (y ∷ l) (suc i) x ≡ y ∷ sets l i x
sets_cons y l [] i = refl
sets_cons y l (v ∷ x) i = sets_cons y (set l i v) x (suc i)

pub sets_behind : (n : ℕ) (l x : List ℕ) → n ≤ length l → take n l ++ sets (drop n l) 0 x ≡ sets l n x
sets_behind zero l x h = refl
sets_behind (suc n) [] x h = absurd (omega arith)
sets_behind (suc n) (y ∷ l) x h = ap (λ (s : List ℕ). y ∷ s) (sets_behind n l x (omega arith)) ∙ sym (sets_cons y l x n)

-- a buffer whose rest behind w became b
abbrev pub with_rest : ℕ → List ℕ → List ℕ → List ℕ
with_rest w a b = take w a ++ (b ++ drop (length a - w) (drop w a))

-- a step over the rests, told of the whole
pub did_rest : (S : List ℕ → ℕ → Out) (s a b : List ℕ) (n w : ℕ) (r : Report Code) → w ≤ length a →
    Did (S (take (length s - n) (drop n s)) (length (take (length a - w) (drop w a)))) r 0 (take (length a - w) (drop w a)) b →
    Did (S (drop n s) (length a - w)) r w a (with_rest w a b)
did_rest S s a b n w r h d =
    let l : length (drop w a) ≡ length a - w = length-drop w a in
    let none : drop (length a - w) (drop w a) ≡ [] = drop_of_length-le (drop w a) (omega arith) in
    let rest = take_rest a w in
    let o = S (drop n s) (length a - w) in
    let e : S (take (length s - n) (drop n s)) (length (take (length a - w) (drop w a))) ≡ o =
    ap (λ (x : List ℕ). S x (length (take (length a - w) (drop w a)))) (take_rest s n) ∙ ap (S (drop n s)) (ap length rest ∙ l) in
    let f : Did o r 0 (drop w a) b = subst (λ (x : List ℕ). Did o r 0 x b) rest (subst (λ (x : Out). Did x r 0 (take (length a - w) (drop w a)) b) e d) in
    record {
      code = f.code;
      tally = f.tally;
      buffer = ap (λ (x : List ℕ). take w a ++ (b ++ x)) none ∙ ap (λ (x : List ℕ). take w a ++ x) (append-nil b ∙ f.buffer) ∙ sets_behind w a o.bytes h;
    }
