-- Where a call ends, and within what, over any table. Assumes nothing.
use mathlib.Core.Path.{◌≡◌, refl, sym, ap, ◌∙◌, subst}
use mathlib.Core.Bool.{true}
use mathlib.Core.List.{List, [], ◌∷◌, ◌++◌}
use mathlib.Core.Logic.{inl, inr, ⊎_elim}
use Prim.Native.Nat.{ℕ, ◌-◌, ◌≤◌}
use native.Mathlib.Omega.{arith}
use borrow.Author.Tests.{lt-ltb}
use lib.ListN.{length, length-append}
use Rattle.digits.specs.Digits.{word}
use Rattle.records.specs.Codes.{number_s}
use Rattle.records.specs.declared.Code.TheVariants.{Cut}
use Rattle.records.specs.Reply.{bytes_of}
use Rattle.records.specs.Row.{Row, row_in}
use Rattle.records.specs.Run.{Out, stop, one}
use Rattle.records.proofs.RunLaws.{choose_elim}
use Rattle.feeding.specs.Feed.{Open, Stopped, begun, Call, goes, turn, takes}
use Rattle.feeding.specs.Promises.{Starts, Within, Ended, used_up, unknown, no_room, Ends}
use Rattle.feeding.proofs.TakeLaws.{byte_elim, begun_none, call_open, drop_one}
use Rattle.feeding.proofs.RecordLaws.{begun_cut}
use Rattle.feeding.proofs.CallLaws.{call_good, stopped_stays}

-- ---- what is held

cut_begun : (T : List Row) (h : List ℕ) (room : ℕ) → one T h room ≡ stop Cut → begun T h ≡ true
unfolding begun one
cut_begun T [] room e = refl
cut_begun T (k ∷ s) room e =
    let w = (row_in T k).width in
    let x = bytes_of ((row_in T k).reply (word w s)) in
    choose_elim (λ (o : Out). o ≡ stop Cut → begun T (k ∷ s) ≡ true) w (length s) room x
    (λ _ q. let z : ◌≡◌ {A = ℕ} 1 2 = ap (λ (o : Out). number_s o.code) q in absurd (omega arith))
    (λ _ l _. lt-ltb (length s) w l)
    (λ _ _ _ q. let z : ◌≡◌ {A = ℕ} 3 2 = ap (λ (o : Out). number_s o.code) q in absurd (omega arith))
    (λ _ _ _ q. let z : ◌≡◌ {A = ℕ} 0 2 = ap (λ (o : Out). number_s o.code) q in absurd (omega arith))
    e

pub starts : (T : List Row) → Starts T
starts T [] room = (λ _. inl refl, λ _. begun_none T)
starts T (k ∷ s) room = (λ e. inr (begun_cut T k s room e), ⊎_elim (λ e. subst (λ (y : List ℕ). begun T y ≡ true) (sym e) (begun_none T)) (cut_begun T (k ∷ s) room))

-- ---- within the room

pub takes_fits : (T : List Row) (h p : List ℕ) (room : ℕ) → begun T h ≡ true → length (takes T h p room).bytes ≤ room
unfolding takes
takes_fits T h [] room e = omega arith
takes_fits T h (b ∷ p) room e =
    let s = h ++ (b ∷ []) in
    byte_elim T h b room
    (λ (o : Out). length (turn o.code h o.bytes (takes T s p room) (takes T [] p (room - o.tally.written))).bytes ≤ room)
    e
    (λ u. omega arith)
    (λ i. takes_fits T s p room i.0)
    (λ w x l n f. omega arith)
    (λ w x l f.
    let r = takes T [] p (room - length x) in
    omega (arith, length-append x r.bytes, takes_fits T [] p (room - length x) (begun_none T)))

pub within : (T : List Row) → Within T
within T (Open h) p room e =
    let g = call_good T (Open h) p room e in
    (g.1, (rw (call_open T h p room e) (takes_fits T h p room e), g.0))
within T Stopped p room e = rw (stopped_stays T p room) (omega arith, (omega arith, tt))

-- ---- the end

left : (x : List ℕ) (c : Call) (room : ℕ) → room - length (x ++ c.bytes) ≡ (room - length x) - length c.bytes
left x c room = omega (arith, length-append x c.bytes)

-- one byte more in front, which was taken, and x written before
later : (T : List Row) (p x : List ℕ) (b room : ℕ) (c : Call) → Ended T p (room - length x) c → Ended T (b ∷ p) room (goes 1 x c)
later T p x b room c (used_up d t) = used_up d (omega (arith, t))
later T p x b room c (unknown h q y t o d f) = unknown h q y (drop_one c.taken b p ∙ t) (ap (one T (h ++ (y ∷ []))) (left x c room) ∙ o) d f
later T p x b room c (no_room h q y t o d f) = no_room h q y (drop_one c.taken b p ∙ t) (ap (one T (h ++ (y ∷ []))) (left x c room) ∙ o) d f

takes_ended : (T : List Row) (h p : List ℕ) (room : ℕ) → begun T h ≡ true → Ended T p room (takes T h p room)
unfolding takes
takes_ended T h [] room e = used_up refl refl
takes_ended T h (b ∷ p) room e =
    let s = h ++ (b ∷ []) in
    let m : room ≡ room - 0 = omega arith in
    byte_elim T h b room
    (λ (o : Out). Ended T (b ∷ p) room (turn o.code h o.bytes (takes T s p room) (takes T [] p (room - o.tally.written))))
    e
    (λ u. unknown h p b refl (u (room - 0)) refl refl)
    (λ i. later T p [] b room (takes T s p room) (subst (λ (r : ℕ). Ended T p r (takes T s p room)) m (takes_ended T s p room i.0)))
    (λ w x l n f. no_room h p b refl (l.1.1 (room - 0) (omega arith)) refl refl)
    (λ w x l f. later T p x b room (takes T [] p (room - length x)) (takes_ended T [] p (room - length x) (begun_none T)))

pub call_ends : (T : List Row) → Ends T
call_ends T h p room e = subst (Ended T p room) (sym (call_open T h p room e)) (takes_ended T h p room e)
