-- Laws of one call, over any table: of a feed that has stopped and of any other, of a call cut in two, and that a call gets on. Assumes nothing.
use mathlib.Core.Path.{◌≡◌, refl, sym, ap, ◌∙◌, subst}
use mathlib.Core.Bool.{Bool, true, false}
use mathlib.Core.List.{List, [], ◌∷◌, ◌++◌, append-nil}
use mathlib.Core.Logic.{◌⊎◌, inl, inr}
use Prim.Native.Nat.{ℕ, ◌+◌, ◌-◌, ◌≤◌, ◌<◌}
use native.Mathlib.Omega.{arith}
use lib.ListN.{length, drop}
use Rattle.records.specs.declared.Code.TheVariants.{Done, Unknown}
use Rattle.records.specs.Row.{Row}
use Rattle.records.specs.Run.{Out}
use Rattle.feeding.specs.Feed.{State, Open, Stopped, begun, Call, ends, goes, turn, takes, call, over, close}
use Rattle.feeding.specs.Host.{Longest}
use Rattle.feeding.specs.Promises.{Good, GoesOn}
use Rattle.feeding.proofs.TakeLaws.{byte_elim, takes_good, call_open, Ample, takes_more}

-- ---- a feed that has stopped

-- it stays so, takes nothing, writes nothing, and answers 1 to every call and to the one that closes it
pub stopped_stays : (T : List Row) (p : List ℕ) (room : ℕ) → call T Stopped p room ≡ ends Stopped Unknown
unfolding call
stopped_stays T p room = refl

pub stopped_closes : (T : List Row) → close T Stopped ≡ record { feed = Stopped; code = Unknown }
unfolding close
stopped_closes T = refl

-- one whose bytes are no start of a record is as one that has stopped
pub no_start : (T : List Row) (h p : List ℕ) (room : ℕ) → begun T h ≡ false → (call T (Open h) p room ≡ call T Stopped p room) × (close T (Open h) ≡ close T Stopped)
unfolding call close
no_start T h p room e = (rw e, rw e)

-- closing any other gives back an empty one, and 0 or 2
pub others_close : (T : List Row) (h : List ℕ) → begun T h ≡ true → close T (Open h) ≡ record { feed = Open []; code = over h }
unfolding close
others_close T h e = rw e

-- an empty piece, whatever the room
pub empty_piece : (T : List Row) (h : List ℕ) (room : ℕ) → begun T h ≡ true → call T (Open h) [] room ≡ ends (Open h) Done
unfolding takes
empty_piece T h room e = call_open T h [] room e

-- ---- a call cut in two

pub call_good : (T : List Row) (f : State) (p : List ℕ) (room : ℕ) → Good T f → Good T (call T f p room).feed × ((call T f p room).taken ≤ length p)
unfolding call
call_good T (Open h) p room e = rw e (takes_good T h p room e)
call_good T Stopped p room e = (tt, omega arith)

-- What a call took and wrote stands. The next call, on what it left and more behind it, goes on as one call on all would have, if that has as
-- much room, or never wants for it.
pub call_more : (T : List Row) (f : State) (p t : List ℕ) (room large : ℕ) → Good T f → Ample room large (call T f (p ++ t) large) →
    call T f (p ++ t) large
    ≡ goes (call T f p room).taken (call T f p room).bytes
    (call T (call T f p room).feed (drop (call T f p room).taken p ++ t) (large - length (call T f p room).bytes))
call_more T (Open h) p t room large e a =
    let b : Ample room large (takes T h (p ++ t) large) = subst (Ample room large) (call_open T h (p ++ t) large e) a in
    call_open T h (p ++ t) large e ∙ takes_more T h p t room large e b
    ∙ ap (λ (c : Call). goes c.taken c.bytes (call T c.feed (drop c.taken p ++ t) (large - length c.bytes))) (sym (call_open T h p room e))
call_more T Stopped p t room large e a =
    stopped_stays T (p ++ t) large
    ∙ sym (ap (goes 0 []) (stopped_stays T (drop 0 p ++ t) (large - 0)))
    ∙ ap (λ (c : Call). goes c.taken c.bytes (call T c.feed (drop c.taken p ++ t) (large - length c.bytes))) (sym (stopped_stays T p room))

-- what a call with room for `large` does after what the call did
abbrev Onward : List Row → List ℕ → ℕ → Call → Call
Onward T p large c = goes c.taken c.bytes (call T c.feed (drop c.taken p) (large - length c.bytes))

good_goes_on : (T : List Row) (f : State) (p : List ℕ) (room more : ℕ) → Good T f → call T f p (room + more) ≡ Onward T p (room + more) (call T f p room)
good_goes_on T f p room more g =
    let c = call T f p room in
    let e : p ++ [] ≡ p = append-nil p in
    ap (λ (y : List ℕ). call T f y (room + more)) (sym e)
    ∙ call_more T f p [] room (room + more) g (inl (omega arith))
    ∙ ap (λ (y : List ℕ). goes c.taken c.bytes (call T c.feed y (room + more - length c.bytes))) (append-nil (drop c.taken p))

by_begun : {P : Type 0} (t : Bool) → (t ≡ true → P) → (t ≡ false → P) → P
by_begun true f g = f refl
by_begun false f g = g refl

-- After a 3 in particular: the same call with more room is that call and one on what it left.
pub goes_on : (T : List Row) → GoesOn T
goes_on T (Open h) p room more =
    by_begun (begun T h) (good_goes_on T (Open h) p room more)
    (λ e.
    let s : (r : ℕ) → call T (Open h) p r ≡ ends Stopped Unknown = λ r. (no_start T h p r e).0 ∙ stopped_stays T p r in
    s (room + more) ∙ sym (ap (goes 0 []) (stopped_stays T p (room + more - 0))) ∙ ap (Onward T p (room + more)) (sym (s room)))
goes_on T Stopped p room more = good_goes_on T Stopped p room more tt

-- ---- progress

pub takes_some : (T : List Row) (L : ℕ) → Longest T L → (h : List ℕ) (b : ℕ) (p : List ℕ) (room : ℕ) → begun T h ≡ true → L ≤ room →
    (0 < (takes T h (b ∷ p) room).taken) ⊎ (takes T h (b ∷ p) room ≡ ends Stopped Unknown)
unfolding takes
takes_some T L a h b p room e l =
    let s = h ++ (b ∷ []) in
    byte_elim T h b room
    (λ (o : Out). (0 < (turn o.code h o.bytes (takes T s p room) (takes T [] p (room - o.tally.written))).taken)
    ⊎ (turn o.code h o.bytes (takes T s p room) (takes T [] p (room - o.tally.written)) ≡ ends Stopped Unknown))
    e
    (λ u. inr refl)
    (λ i. inl (omega arith))
    (λ w x n k f. absurd (omega (arith, k L a)))
    (λ w x n f. inl (omega arith))

-- With room for the longest answer, a call with a piece that is not empty takes a byte, or stops on an unknown kind.
pub progress : (T : List Row) (L : ℕ) → Longest T L → (f : State) (b : ℕ) (p : List ℕ) (room : ℕ) → L ≤ room →
    (0 < (call T f (b ∷ p) room).taken) ⊎ (call T f (b ∷ p) room ≡ ends Stopped Unknown)
progress T L a (Open h) b p room l =
    by_begun (begun T h) (λ e. subst (λ (c : Call). (0 < c.taken) ⊎ (c ≡ ends Stopped Unknown)) (sym (call_open T h (b ∷ p) room e)) (takes_some T L a h b p room e l))
    (λ e. inr ((no_start T h (b ∷ p) room e).0 ∙ stopped_stays T (b ∷ p) room))
progress T L a Stopped b p room l = inr (stopped_stays T (b ∷ p) room)
