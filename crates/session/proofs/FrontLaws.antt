-- A move to the front of a buffer, and what stands at the front after it. Assumes nothing.
--     moved                   as many bytes as there are, copied to the front, are what a move stores there
--     moved_front             where there are so many bytes, they are the front
--     take_drop               the bytes between two places, taken in either order
use mathlib.Core.Path.{◌≡◌, sym, ap, ◌∙◌}
use mathlib.Core.List.{List, ◌++◌}
use Prim.Native.Nat.{ℕ, ◌+◌, ◌-◌, ◌≤◌, min}
use native.Mathlib.Omega.{arith}
use lib.ListN.{length, take, drop, length-take, length-drop}
use lib.Seq.{paste, sets, sets-eq, take-add, take_at, drop_at, length-take-le}
use Rattle.std.proofs.lemmas.List.{take_min, drop_min}

-- so many bytes that are stored from the front on, and the rest
front_of : (l vs : List ℕ) (n : ℕ) → length vs ≡ n → n ≤ length l → sets l 0 vs ≡ vs ++ drop n l
front_of l vs n e h = sets-eq vs l 0 (omega (arith, e)) ∙ ap (λ (k : ℕ). vs ++ drop k l) (let q : 0 + length vs ≡ n = omega (arith, e) in q)

there_length : (l : List ℕ) (from n : ℕ) → from + n ≤ length l → length (take n (drop from l)) ≡ n
there_length l from n h = length-take-le n (drop from l) (omega (arith, length-drop from l))

pub moved : (l : List ℕ) (from count start end : ℕ) → start ≡ min from (length l) → end ≡ start + min count (length l - start) →
    paste l 0 (drop start l) (end - start) ≡ sets l 0 (take count (drop from l))
moved l from count start end es ee =
    let d = drop from l in
    let n = min count (length d) in
    let m = length-drop from l in
    let ds : drop start l ≡ d = ap (λ (k : ℕ). drop k l) es ∙ drop_min from l in
    let en : end - start ≡ n = omega (arith, ee, es, m) in
    let w = length-take count d in
    ap (λ (x : List ℕ). paste l 0 x (end - start)) ds ∙ ap (paste l 0 d) en
    ∙ ap (λ (x : List ℕ). take 0 l ++ x ++ drop (0 + n) l) (take_min count d)
    ∙ ap (λ (k : ℕ). take 0 l ++ take count d ++ drop (0 + k) l) (sym w) ∙ sym (sets-eq (take count d) l 0 (omega (arith, w, m)))

pub moved_front : (l : List ℕ) (from count : ℕ) → from + count ≤ length l →
    take count (sets l 0 (take count (drop from l))) ≡ take count (drop from l)
moved_front l from count h =
    let x = take count (drop from l) in
    let e = there_length l from count h in
    ap (take count) (front_of l x count e (omega arith)) ∙ take_at x (drop count l) count e

pub take_drop : (l : List ℕ) (k n : ℕ) → k ≤ n → n ≤ length l → take (n - k) (drop k l) ≡ drop k (take n l)
take_drop l k n h e =
    let q : k + (n - k) ≡ n = omega arith in
    sym
    (ap (λ (m : ℕ). drop k (take m l)) (sym q) ∙ ap (drop k) (take-add k (n - k) l)
    ∙ drop_at (take k l) (take (n - k) (drop k l)) k (length-take-le k l (omega arith)))
