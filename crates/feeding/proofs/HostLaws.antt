-- Calls in turn, over any table: together they are one call, and they come to the end of the stream. Assumes nothing.
use mathlib.Core.Path.{◌≡◌, refl, sym, ap, ◌∙◌}
use mathlib.Core.Bool.{true}
use mathlib.Core.List.{List, [], ◌∷◌, ◌++◌, append-nil}
use mathlib.Core.Logic.{◌⊎◌, inl, inr, ⊎_elim}
use Prim.Native.Nat.{ℕ, zero, suc, ◌+◌, ◌-◌, ◌≤◌, ◌<◌}
use native.Mathlib.Omega.{arith}
use borrow.Author.Tests.{lt-ltb}
use lib.ListN.{length, take, drop, length-append, length-drop, take-append-drop}
use lib.Seq.{drop-nil, drop-drop, drop-append-le, drop-length}
use Rattle.records.specs.Codes.{number_s}
use Rattle.records.specs.declared.Code.{Code}
use Rattle.records.specs.declared.Code.TheVariants.{Done, Unknown, Full}
use Rattle.records.specs.Row.{Row, row_in}
use Rattle.records.specs.Run.{stop, one, run}
use Rattle.records.proofs.SplitLaws.{run_ends}
use Rattle.feeding.specs.Feed.{State, Open, Stopped, begun, Call, ends, goes, call, Close, close}
use Rattle.feeding.specs.Host.{Offer, host, Through, Longest, Roomy, counted, offering}
use Rattle.feeding.specs.Promises.{Same, Good}
use Rattle.feeding.proofs.TakeLaws.{goes_none, goes_goes, begun_none, call_open}
use Rattle.feeding.proofs.RecordLaws.{ending, takes_run, refused}
use Rattle.feeding.proofs.CallLaws.{stopped_stays, stopped_closes, others_close, empty_piece, call_good, call_more, progress}

-- ---- some calls in turn

pub host_good : (T : List Row) (f : State) (s : List ℕ) (os : List Offer) → Good T f → Good T (host T f s os).feed
unfolding host
host_good T f s [] g = g
host_good T f s (o ∷ os) g =
    let c = call T f (take o.size s) o.room in
    host_good T c.feed (drop c.taken s) os (call_good T f (take o.size s) o.room g).0

pub host_stopped : (T : List Row) (f : State) (s : List ℕ) (os : List Offer) → f ≡ Stopped → (host T f s os).feed ≡ Stopped
unfolding host call
host_stopped T f s [] e = e
host_stopped T f s (o ∷ os) e =
    let c = call T f (take o.size s) o.room in
    host_stopped T c.feed (drop c.taken s) os (ap (λ (g : State). (call T g (take o.size s) o.room).feed) e)

-- the calls in turn and one more on all that is left are one call on all
pub host_call : (T : List Row) (f : State) (s : List ℕ) (os : List Offer) (large : ℕ) → Good T f → ((call T f s large).code ≡ Full → ⊥) →
    call T f s large
    ≡ goes (host T f s os).taken (host T f s os).bytes (call T (host T f s os).feed (drop (host T f s os).taken s) (large - length (host T f s os).bytes))
unfolding host
host_call T f s [] large g n =
    let e : large ≡ large - 0 = omega arith in
    ap (call T f s) e ∙ sym (goes_none (call T f s (large - 0)))
host_call T f s (o ∷ os) large g n =
    let p = take o.size s in
    let t = drop o.size s in
    let j : p ++ t ≡ s = take-append-drop o.size s in
    let c = call T f p o.room in
    let b = call_good T f p o.room g in
    let d : drop c.taken p ++ t ≡ drop c.taken s = sym (drop-append-le c.taken p t b.1) ∙ ap (drop c.taken) j in
    let m = large - length c.bytes in
    let u = drop c.taken s in
    let first : call T f s large ≡ goes c.taken c.bytes (call T c.feed u m) =
    ap (λ (y : List ℕ). call T f y large) (sym j)
    ∙ call_more T f p t o.room large g (inr (λ z. n (ap (λ (y : List ℕ). (call T f y large).code) (sym j) ∙ z)))
    ∙ ap (λ (y : List ℕ). goes c.taken c.bytes (call T c.feed y m)) d in
    let r = host T c.feed u os in
    let l = length-append c.bytes r.bytes in
    let q : m - length r.bytes ≡ large - length (c.bytes ++ r.bytes) = omega arith in
    first
    ∙ ap (goes c.taken c.bytes) (host_call T c.feed u os m b.0 (λ z. n (ap (λ (y : Call). y.code) first ∙ z)))
    ∙ goes_goes c.taken r.taken c.bytes r.bytes (call T r.feed (drop r.taken u) (m - length r.bytes))
    ∙ ap (λ (k : ℕ). goes (c.taken + r.taken) (c.bytes ++ r.bytes) (call T r.feed (drop r.taken u) k)) q
    ∙ ap (λ (y : List ℕ). goes (c.taken + r.taken) (c.bytes ++ r.bytes) (call T r.feed y (large - length (c.bytes ++ r.bytes)))) (drop-drop r.taken c.taken s)

-- where nothing is left to take, or the feed has stopped, one more call writes nothing and leaves the feed
open_or : {h : List ℕ} → Open h ≡ Stopped → ⊥
open_or {h} e = let z : ◌≡◌ {A = ℕ} 0 1 = ap which e in omega arith
  where
    which : State → ℕ
    which (Open h) = 0
    which Stopped = 1

rests : (T : List Row) (f : State) (s : List ℕ) (room : ℕ) → Good T f → (s ≡ []) ⊎ (f ≡ Stopped) → ((call T f s room).feed ≡ f) × ((call T f s room).bytes ≡ [])
rests T (Open h) s room g d =
    ⊎_elim
    (λ (e : s ≡ []).
    let c : call T (Open h) s room ≡ ends (Open h) Done = ap (λ (y : List ℕ). call T (Open h) y room) e ∙ empty_piece T h room g in
    (ap (λ (y : Call). y.feed) c, ap (λ (y : Call). y.bytes) c))
    (λ (e : Open h ≡ Stopped). absurd (open_or e))
    d
rests T Stopped s room g d = let c = stopped_stays T s room in (ap (λ (y : Call). y.feed) c, ap (λ (y : Call). y.bytes) c)

-- ---- the theorem

begun_short : (T : List Row) (k : ℕ) (s : List ℕ) → length s < (row_in T k).width → begun T (k ∷ s) ≡ true
unfolding begun
begun_short T k s l = lt-ltb (length s) (row_in T k).width l

-- what a batch that had room for all leaves, in a feed's terms
batch_close : (T : List Row) (s : List ℕ) (room : ℕ) (c : Code) → one T s room ≡ stop c → (c ≡ Full → ⊥) → ((close T (ending T s c).feed).code ≡ c) × (((ending T s c).bytes ≡ []) × ((ending T s c).code ≡ Full → ⊥))
batch_close T s room c e n =
    refused T s room c e
    (λ (m : Code). (m ≡ Full → ⊥) → ((close T (ending T s m).feed).code ≡ m) × (((ending T s m).bytes ≡ []) × ((ending T s m).code ≡ Full → ⊥)))
    (λ i _. (ap (λ (y : Close). y.code) (others_close T [] (begun_none T)), (refl, λ z. let y : ◌≡◌ {A = ℕ} 0 3 = ap number_s z in omega arith)))
    (λ k t i z _. (ap (λ (y : Close). y.code) (stopped_closes T), (refl, λ z. let y : ◌≡◌ {A = ℕ} 1 3 = ap number_s z in omega arith)))
    (λ k t i l _. (
      ap (λ (y : List ℕ). (close T (Open y)).code) i ∙ ap (λ (y : Close). y.code) (others_close T (k ∷ t) (begun_short T k t l)),
      (refl, λ z. let y : ◌≡◌ {A = ℕ} 0 3 = ap number_s z in omega arith),
    ))
    (λ k t i z l f m. absurd (m refl))
    n

-- Whatever pieces and rooms the calls have: once all is taken, or the feed has stopped, the answers in a row and the closing code are those of a
-- batch over the whole stream that does not want for room.
pub same_once_done : (T : List Row) (s : List ℕ) (os : List Offer) → Through s (host T (Open []) s os) →
    (room : ℕ) → ((run T s room).code ≡ Full → ⊥) → Same T (host T (Open []) s os) (run T s room)
same_once_done T s os d room n =
    let o = run T s room in
    let rest = drop o.tally.read s in
    let k : call T (Open []) s room ≡ goes o.tally.read o.bytes (ending T rest o.code) = call_open T [] s room (begun_none T) ∙ takes_run T s room in
    let b = batch_close T rest (room - o.tally.written) o.code (run_ends T s room) n in
    let r = host T (Open []) s os in
    let left = drop r.taken s in
    let more = call T r.feed left (room - length r.bytes) in
    let h : call T (Open []) s room ≡ goes r.taken r.bytes more =
    host_call T (Open []) s os room (begun_none T) (λ z. b.1.1 (ap (λ (y : Call). y.code) (sym k) ∙ z)) in
    let e : (left ≡ []) ⊎ (r.feed ≡ Stopped) = ⊎_elim (λ (a : r.taken ≡ length s). inl (ap (λ (m : ℕ). drop m s) a ∙ drop-length s)) inr d in
    let q = rests T r.feed left (room - length r.bytes) (host_good T (Open []) s os (begun_none T)) e in
    let f : r.feed ≡ (ending T rest o.code).feed = sym q.0 ∙ ap (λ (y : Call). y.feed) (sym h ∙ k) in
    let x : r.bytes ++ more.bytes ≡ o.bytes ++ (ending T rest o.code).bytes = ap (λ (y : Call). y.bytes) (sym h ∙ k) in
    record {
      answers = sym (append-nil r.bytes) ∙ ap (λ (y : List ℕ). r.bytes ++ y) (sym q.1) ∙ x
          ∙ ap (λ (y : List ℕ). o.bytes ++ y) b.1.0 ∙ append-nil o.bytes;
      code = ap (λ (y : State). (close T y).code) f ∙ b.0;
    }

-- ---- and it comes to that

pub fewer : (T : List Row) (L : ℕ) → Longest T L → (f : State) (s : List ℕ) (n room k : ℕ) → L ≤ room → length s ≤ counted n k →
    (length (drop (call T f (take n s) room).taken s) ≤ k) ⊎ ((call T f (take n s) room).feed ≡ Stopped)
fewer T L a f s zero room k l h = let d = length-drop (call T f [] room).taken s in inl (omega arith)
fewer T L a f [] (suc n) room k l h = inl (omega (arith, ap length (drop-nil {A = ℕ} (call T f (take (suc n) []) room).taken)))
fewer T L a f (b ∷ s) (suc n) room k l h =
    let c = call T f (b ∷ take n s) room in
    let d = length-drop c.taken (b ∷ s) in
    ⊎_elim (λ (i : 0 < c.taken). inl (omega arith)) (λ (i : c ≡ ends Stopped Unknown). inr (ap (λ (y : Call). y.feed) i)) (progress T L a f b (take n s) room l)

pub length_take_in : (n : ℕ) (s : List ℕ) → length (take n s) ≤ length s
length_take_in n s = omega (arith, ap length (take-append-drop n s), length-append (take n s) (drop n s))

-- Where each call has room for the longest answer, as many calls that offer a byte as the stream has bytes are enough.
pub gets_done : (T : List Row) (L : ℕ) → Longest T L → (f : State) (s : List ℕ) (os : List Offer) → Good T f → Roomy L os → length s ≤ offering os → Through s (host T f s os)
unfolding host
gets_done T L a f s [] g r h = inl (omega arith)
gets_done T L a f s (o ∷ os) g r h =
    let p = take o.size s in
    let c = call T f p o.room in
    let b = call_good T f p o.room g in
    let u = drop c.taken s in
    let n = length_take_in o.size s in
    let d = length-drop c.taken s in
    ⊎_elim
    (λ (l : length u ≤ offering os).
    ⊎_elim (λ (i : (host T c.feed u os).taken ≡ length u). inl (omega (arith, b.1))) inr (gets_done T L a c.feed u os b.0 r.1 l))
    (λ (i : c.feed ≡ Stopped). inr (host_stopped T c.feed u os i))
    (fewer T L a f s o.size o.room (offering os) r.0 h)
