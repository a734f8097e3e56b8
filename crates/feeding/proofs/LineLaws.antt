-- A stream that comes piece by piece, each behind what was left of those before it: it is offered, and so answered, as a whole. Assumes nothing.
use mathlib.Core.Path.{◌≡◌, refl, sym, ap, ◌∙◌, subst}
use mathlib.Core.List.{List, [], ◌∷◌, ◌++◌, append-nil, append_assoc}
use mathlib.Core.Logic.{◌⊎◌, inl, inr, ⊎_elim}
use Prim.Native.Nat.{ℕ, zero, suc, ◌+◌, ◌≤◌}
use native.Mathlib.Omega.{arith}
use lib.ListN.{length, take, drop, length-append, length-drop}
use lib.Seq.{take_all, take-append_seam, drop-drop, drop-append-le}
use Rattle.records.specs.declared.Code.TheVariants.{Full}
use Rattle.records.specs.Row.{Row}
use Rattle.records.specs.Run.{run}
use Rattle.feeding.specs.Feed.{State, Open, Stopped, Call, goes, call}
use Rattle.feeding.specs.Host.{Offer, host, Piece, stream, line, again, Through, Longest}
use Rattle.feeding.specs.Promises.{Same, Good, SamePieces}
use Rattle.feeding.proofs.TakeLaws.{goes_none, goes_goes, begun_none}
use Rattle.feeding.proofs.CallLaws.{call_good}
use Rattle.feeding.proofs.HostLaws.{fewer, host_stopped, same_once_done}

-- the offers that pieces make
unfoldable pub offers : List Row → State → List ℕ → List Piece → List Offer
offers T f left [] = []
offers T f left (p ∷ ps) =
    record { size = length (left ++ p.bytes); room = p.room }
    ∷ offers T (call T f (left ++ p.bytes) p.room).feed (drop (call T f (left ++ p.bytes) p.room).taken (left ++ p.bytes)) ps

pub line_host : (T : List Row) (f : State) (left : List ℕ) (ps : List Piece) → Good T f → line T f left ps ≡ host T f (left ++ stream ps) (offers T f left ps)
unfolding line host offers
line_host T f left [] g = refl
line_host T f left (p ∷ ps) g =
    let q = left ++ p.bytes in
    let s = left ++ (p.bytes ++ stream ps) in
    let j : s ≡ q ++ stream ps = sym (append_assoc left p.bytes (stream ps)) in
    let t : take (length q) s ≡ q = ap (take (length q)) j ∙ take-append_seam q (stream ps) in
    let c = call T f q p.room in
    let b = call_good T f q p.room g in
    let d : drop c.taken s ≡ drop c.taken q ++ stream ps = ap (drop c.taken) j ∙ drop-append-le c.taken q (stream ps) b.1 in
    let os = offers T c.feed (drop c.taken q) ps in
    ap (goes c.taken c.bytes) (line_host T c.feed (drop c.taken q) ps b.0)
    ∙ ap (λ (y : List ℕ). goes c.taken c.bytes (host T c.feed y os)) (sym d)
    ∙ ap (λ (y : List ℕ). goes (call T f y p.room).taken (call T f y p.room).bytes (host T (call T f y p.room).feed (drop (call T f y p.room).taken s) os)) (sym t)

-- once all is taken, or the feed has stopped
line_done : (T : List Row) (ps : List Piece) → Through (stream ps) (line T (Open []) [] ps) →
    (room : ℕ) → ((run T (stream ps) room).code ≡ Full → ⊥) → Same T (line T (Open []) [] ps) (run T (stream ps) room)
line_done T ps d room n =
    let e = line_host T (Open []) [] ps (begun_none T) in
    subst (λ (r : Call). Same T r (run T (stream ps) room)) (sym e) (same_once_done T (stream ps) (offers T (Open []) [] ps) (subst (Through (stream ps)) e d) room n)

line_append : (T : List Row) (f : State) (left : List ℕ) (ps qs : List Piece) → Good T f →
    line T f left (ps ++ qs)
    ≡ goes (line T f left ps).taken (line T f left ps).bytes (line T (line T f left ps).feed (drop (line T f left ps).taken (left ++ stream ps)) qs)
unfolding line
line_append T f left [] qs g = ap (λ (y : List ℕ). line T f y qs) (sym (append-nil left)) ∙ sym (goes_none (line T f (left ++ []) qs))
line_append T f left (p ∷ ps) qs g =
    let q = left ++ p.bytes in
    let c = call T f q p.room in
    let b = call_good T f q p.room g in
    let u = drop c.taken q in
    let r = line T c.feed u ps in
    let j : q ++ stream ps ≡ left ++ (p.bytes ++ stream ps) = append_assoc left p.bytes (stream ps) in
    let d : drop r.taken (u ++ stream ps) ≡ drop (c.taken + r.taken) (left ++ (p.bytes ++ stream ps)) =
    ap (drop r.taken) (sym (drop-append-le c.taken q (stream ps) b.1)) ∙ drop-drop r.taken c.taken (q ++ stream ps) ∙ ap (drop (c.taken + r.taken)) j in
    ap (goes c.taken c.bytes) (line_append T c.feed u ps qs b.0)
    ∙ goes_goes c.taken r.taken c.bytes r.bytes (line T r.feed (drop r.taken (u ++ stream ps)) qs)
    ∙ ap (λ (y : List ℕ). goes (c.taken + r.taken) (c.bytes ++ r.bytes) (line T r.feed y qs)) d

line_good : (T : List Row) (f : State) (left : List ℕ) (ps : List Piece) → Good T f → Good T (line T f left ps).feed × ((line T f left ps).taken ≤ length (left ++ stream ps))
unfolding line
line_good T f left [] g = (g, omega arith)
line_good T f left (p ∷ ps) g =
    let q = left ++ p.bytes in
    let c = call T f q p.room in
    let b = call_good T f q p.room g in
    let u = drop c.taken q in
    let r = line_good T c.feed u ps b.0 in
    let d = length-drop c.taken q in
    let e = ap length (append_assoc left p.bytes (stream ps)) in
    (r.0, omega (arith, r.1, b.1, e, length-append u (stream ps), length-append q (stream ps)))

-- what is left, offered again as often as it has bytes
settle : (T : List Row) (L : ℕ) → Longest T L → (f : State) (left : List ℕ) (n room : ℕ) → Good T f → L ≤ room → length left ≤ n → Through left (line T f left (again n room))
unfolding line
settle T L a f left zero room g l h = inl (omega arith)
settle T L a f left (suc n) room g l h =
    let q = left ++ [] in
    let e : q ≡ left = append-nil left in
    let m = ap length e in
    let c = call T f q room in
    let b = call_good T f q room g in
    let u = drop c.taken q in
    let d = length-drop c.taken q in
    let t : take (suc (length q)) q ≡ q = take_all (suc (length q)) q (omega arith) in
    let k : (length u ≤ n) ⊎ (c.feed ≡ Stopped) =
    subst (λ (y : List ℕ). (length (drop (call T f y room).taken q) ≤ n) ⊎ ((call T f y room).feed ≡ Stopped)) t (fewer T L a f q (suc (length q)) room n l (omega arith)) in
    ⊎_elim
    (λ (i : length u ≤ n).
    ⊎_elim (λ (j : (line T c.feed u (again n room)).taken ≡ length u). inl (omega (arith, b.1))) inr (settle T L a c.feed u n room b.0 l i))
    (λ (i : c.feed ≡ Stopped).
    inr (ap (λ (y : Call). y.feed) (line_host T c.feed u (again n room) b.0) ∙ host_stopped T c.feed (u ++ stream (again n room)) (offers T c.feed u (again n room)) i))
    k

stream_again : (ps : List Piece) (n room : ℕ) → stream (ps ++ again n room) ≡ stream ps
stream_again [] zero room = refl
stream_again [] (suc n) room = stream_again [] n room
stream_again (p ∷ ps) n room = ap (λ (y : List ℕ). p.bytes ++ y) (stream_again ps n room)

pub same_pieces : (T : List Row) (L : ℕ) → SamePieces T L
same_pieces T L a ps n more l h room z =
    let qs = ps ++ again n more in
    let e : stream qs ≡ stream ps = stream_again ps n more in
    let g = line_good T (Open []) [] ps (begun_none T) in
    let r = line T (Open []) [] ps in
    let left = drop r.taken (stream ps) in
    let d = length-drop r.taken (stream ps) in
    let s = settle T L a r.feed left n more g.0 l (omega arith) in
    let k = line_append T (Open []) [] ps (again n more) (begun_none T) in
    let done : Through (stream ps) (goes r.taken r.bytes (line T r.feed left (again n more))) =
    ⊎_elim (λ (i : (line T r.feed left (again n more)).taken ≡ length left). inl (omega (arith, g.1))) inr s in
    let all : Through (stream qs) (line T (Open []) [] qs) = subst (λ (y : List ℕ). Through y (line T (Open []) [] qs)) (sym e) (subst (Through (stream ps)) (sym k) done) in
    subst (λ (y : List ℕ). Same T (line T (Open []) [] qs) (run T y room)) e
    (line_done T qs all room (λ y. z (ap (λ (x : List ℕ). (run T x room).code) (sym e) ∙ y)))
