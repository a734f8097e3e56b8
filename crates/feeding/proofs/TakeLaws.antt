-- Laws of `takes` and `call`, over any table: what the next byte can be, and that a piece cut in two is one piece. Assumes nothing.
use mathlib.Core.Path.{◌≡◌, refl, sym, ap, ◌∙◌}
use mathlib.Core.Bool.{true}
use mathlib.Core.List.{List, [], ◌∷◌, ◌++◌, append_assoc}
use mathlib.Core.Logic.{◌⊎◌, inl, inr, ⊎_elim}
use Prim.Native.Nat.{ℕ, suc, ◌+◌, ◌-◌, ◌≤◌, ◌<◌}
use native.Mathlib.Nat.{zero-add, add_assoc}
use native.Mathlib.Omega.{arith}
use borrow.Author.Tests.{ltb-true, ltb-false, lt-ltb}
use lib.Dec.{ltb}
use lib.ListN.{length, drop, length-append}
use Rattle.digits.specs.Digits.{word}
use Rattle.records.specs.Reply.{bytes_of}
use Rattle.records.specs.Row.{Row, row_in}
use Rattle.records.specs.declared.Code.{Code}
use Rattle.records.specs.declared.Code.TheVariants.{Done, Unknown, Cut, Full}
use Rattle.records.specs.Run.{Out, stop, took, one}
use Rattle.records.proofs.RunLaws.{pick_elim, choose_elim}
use Rattle.records.proofs.StepLaws.{choose_unknown, choose_cut, choose_full, choose_whole}
use Rattle.feeding.specs.Feed.{Open, Stopped, begun, Call, ends, goes, turn, takes, call}
use Rattle.feeding.specs.Promises.{Good}

pub goes_none : (c : Call) → goes 0 [] c ≡ c
goes_none c = λ i. record { feed = c.feed; taken = zero-add c.taken i; bytes = c.bytes; code = c.code }

pub goes_goes : (a b : ℕ) (x y : List ℕ) (c : Call) → goes a x (goes b y c) ≡ goes (a + b) (x ++ y) c
goes_goes a b x y c = λ i. record {
  feed = c.feed;
  taken = sym (add_assoc a b c.taken) i;
  bytes = sym (append_assoc x y c.bytes) i;
  code = c.code;
}

-- What a batch can say of the bytes s of a record that ends with them or after them, with room, and then what it says with any other room.
abbrev Strange : List Row → List ℕ → Type 0
Strange T s = (room : ℕ) → one T s room ≡ stop Unknown

abbrev Within : List Row → List ℕ → Type 0
Within T s = (begun T s ≡ true) × ((room : ℕ) → one T s room ≡ stop Cut)

-- the last byte of a record, whose answer is x
abbrev Last : List Row → List ℕ → ℕ → List ℕ → Type 0
Last T s w x = (length s ≡ 1 + w) × (((room : ℕ) → length x ≤ room → one T s room ≡ took w x) × ((room : ℕ) → room < length x → one T s room ≡ stop Full))

abbrev Known : List Row → List ℕ → Type 0
Known T x = (L : ℕ) → ((k b : ℕ) → ((row_in T k).width ≡ 0 → ⊥) → length (bytes_of ((row_in T k).reply b)) ≤ L) → length x ≤ L

front_elim : (T : List Row) (k : ℕ) (s : List ℕ) (room : ℕ) (P : Out → Type 0) → length s ≤ (row_in T k).width →
    (Strange T (k ∷ s) → P (stop Unknown)) → (Within T (k ∷ s) → P (stop Cut)) →
    ((w : ℕ) (x : List ℕ) → Last T (k ∷ s) w x → Known T x → room < length x → P (stop Full)) →
    ((w : ℕ) (x : List ℕ) → Last T (k ∷ s) w x → length x ≤ room → P (took w x)) → P (one T (k ∷ s) room)
unfolding one begun
front_elim T k s room P le unknown within full whole =
    let w = (row_in T k).width in
    let x = bytes_of ((row_in T k).reply (word w s)) in
    choose_elim P w (length s) room x
    (λ z. unknown (λ m. choose_unknown w (length s) m x z))
    (λ z l. within (lt-ltb (length s) w l, λ m. choose_cut w (length s) m x z l))
    (λ z l f. full w x (omega arith, (λ m. choose_whole w (length s) m x z l, λ m. choose_full w (length s) m x z l)) (λ L a. a k (word w s) z) f)
    (λ z l f. whole w x (omega arith, (λ m. choose_whole w (length s) m x z l, λ m. choose_full w (length s) m x z l)) f)

-- the next byte, behind the bytes of a record that has begun
pub byte_elim : (T : List Row) (h : List ℕ) (b room : ℕ) (P : Out → Type 0) → begun T h ≡ true →
    (Strange T (h ++ (b ∷ [])) → P (stop Unknown)) → (Within T (h ++ (b ∷ [])) → P (stop Cut)) →
    ((w : ℕ) (x : List ℕ) → Last T (h ++ (b ∷ [])) w x → Known T x → room < length x → P (stop Full)) →
    ((w : ℕ) (x : List ℕ) → Last T (h ++ (b ∷ [])) w x → length x ≤ room → P (took w x)) → P (one T (h ++ (b ∷ [])) room)
unfolding begun
byte_elim T [] b room P e = front_elim T b [] room P (omega arith)
byte_elim T (k ∷ h) b room P e =
    let l = length-append h (b ∷ []) in
    let g = ltb-true (length h) (row_in T k).width e in
    front_elim T k (h ++ (b ∷ [])) room P (omega arith)

pub begun_none : (T : List Row) → begun T [] ≡ true
unfolding begun
begun_none T = refl

pub call_open : (T : List Row) (h p : List ℕ) (room : ℕ) → begun T h ≡ true → call T (Open h) p room ≡ takes T h p room
unfolding call
call_open T h p room e = rw e

-- ---- a piece cut in two

-- what a call with more behind the piece, and with another room, does after what the call did
abbrev After : List Row → List ℕ → List ℕ → ℕ → Call → Call
After T p t large c = goes c.taken c.bytes (call T c.feed (drop c.taken p ++ t) (large - length c.bytes))

same_room : (n : ℕ) → n ≡ n - 0
same_room n = omega arith

rest_stays : (T : List Row) (h p t : List ℕ) (large : ℕ) (code : Code) → begun T h ≡ true → takes T h (p ++ t) large ≡ After T p t large (ends (Open h) code)
rest_stays T h p t large code e =
    sym (goes_none (call T (Open h) (p ++ t) (large - 0)) ∙ call_open T h (p ++ t) (large - 0) e ∙ ap (takes T h (p ++ t)) (sym (same_room large)))

pub drop_one : (n b : ℕ) (p : List ℕ) → drop (1 + n) (b ∷ p) ≡ drop n p
drop_one n b p = let e : 1 + n ≡ suc n = omega arith in ap (λ (k : ℕ). drop k (b ∷ p)) e

-- one byte more in front
after_byte : (T : List Row) (b : ℕ) (p t x : List ℕ) (large : ℕ) (c : Call) →
    goes 1 x (After T p t (large - length x) c) ≡ After T (b ∷ p) t large (goes 1 x c)
after_byte T b p t x large c =
    let l = length-append x c.bytes in
    let m : (large - length x) - length c.bytes ≡ large - length (x ++ c.bytes) = omega arith in
    goes_goes 1 c.taken x c.bytes (call T c.feed (drop c.taken p ++ t) ((large - length x) - length c.bytes))
    ∙ ap (λ (k : ℕ). goes (1 + c.taken) (x ++ c.bytes) (call T c.feed (drop c.taken p ++ t) k)) m
    ∙ ap (λ (q : List ℕ). goes (1 + c.taken) (x ++ c.bytes) (call T c.feed (q ++ t) (large - length (x ++ c.bytes)))) (sym (drop_one c.taken b p))

-- there is room for whatever was written: more room than before, or room for all
abbrev pub Ample : ℕ → ℕ → Call → Type 0
Ample room large c = (room ≤ large) ⊎ (c.code ≡ Full → ⊥)

pub le_or : (a b : ℕ) → (a ≤ b) ⊎ (b < a)
le_or a b = pick_elim (λ (_ : ℕ). (a ≤ b) ⊎ (b < a)) (ltb b a) 0 0 (λ e. inr (ltb-true b a e)) (λ e. inl (ltb-false b a e))

-- a feed that stopped does nothing more
rest_stopped : (T : List Row) (p t : List ℕ) (large : ℕ) → ends Stopped Unknown ≡ After T p t large (ends Stopped Unknown)
unfolding call
rest_stopped T p t large = refl

-- at a byte, where o is what a batch with the larger room says
abbrev at_byte : List Row → List ℕ → List ℕ → List ℕ → ℕ → Out → Call
at_byte T h s q large o = turn o.code h o.bytes (takes T s q large) (takes T [] q (large - o.tally.written))

pub takes_more : (T : List Row) (h p t : List ℕ) (room large : ℕ) → begun T h ≡ true → Ample room large (takes T h (p ++ t) large) →
    takes T h (p ++ t) large ≡ After T p t large (takes T h p room)
unfolding takes
takes_more T h [] t room large e a = rest_stays T h [] t large Done e
takes_more T h (b ∷ p) t room large e a =
    let s = h ++ (b ∷ []) in
    let q = p ++ t in
    byte_elim T h b room
    (λ (o : Out). takes T h (b ∷ q) large ≡ After T (b ∷ p) t large (turn o.code h o.bytes (takes T s p room) (takes T [] p (room - o.tally.written))))
    e
    (λ u. ap (at_byte T h s q large) (u large) ∙ rest_stopped T (b ∷ p) t large)
    (λ i.
    let k = ap (at_byte T h s q large) (i.1 large) in
    let d : Ample room large (takes T s q large) = ⊎_elim inl (λ (n : (takes T h (b ∷ q) large).code ≡ Full → ⊥). inr (λ m. n (ap (λ (c : Call). c.code) k ∙ m))) a in
    k ∙ ap (goes 1 []) (takes_more T s p t room large i.0 d)
    ∙ ap (λ (n : ℕ). goes 1 [] (After T p t n (takes T s p room))) (same_room large)
    ∙ after_byte T b p t [] large (takes T s p room))
    (λ w x l n f. rest_stays T h (b ∷ p) t large Full e)
    (λ w x l f.
    ⊎_elim
    (λ (g : length x ≤ large).
    let k = ap (at_byte T h s q large) (l.1.0 large g) in
    let d : Ample (room - length x) (large - length x) (takes T [] q (large - length x)) =
    ⊎_elim (λ (m : room ≤ large). inl (omega arith)) (λ (n : (takes T h (b ∷ q) large).code ≡ Full → ⊥). inr (λ m. n (ap (λ (c : Call). c.code) k ∙ m))) a in
    k ∙ ap (goes 1 x) (takes_more T [] p t (room - length x) (large - length x) (begun_none T) d)
    ∙ after_byte T b p t x large (takes T [] p (room - length x)))
    (λ (g : large < length x).
    let k = ap (at_byte T h s q large) (l.1.1 large g) in
    absurd (⊎_elim (λ (m : room ≤ large). omega arith) (λ (n : (takes T h (b ∷ q) large).code ≡ Full → ⊥). n (ap (λ (c : Call). c.code) k)) a))
    (le_or (length x) large))

-- a call takes no more than the piece, and leaves such a feed
pub takes_good : (T : List Row) (h p : List ℕ) (room : ℕ) → begun T h ≡ true → Good T (takes T h p room).feed × ((takes T h p room).taken ≤ length p)
unfolding takes
takes_good T h [] room e = (e, omega arith)
takes_good T h (b ∷ p) room e =
    let s = h ++ (b ∷ []) in
    byte_elim T h b room
    (λ (o : Out). Good T (turn o.code h o.bytes (takes T s p room) (takes T [] p (room - o.tally.written))).feed
    × ((turn o.code h o.bytes (takes T s p room) (takes T [] p (room - o.tally.written))).taken ≤ suc (length p)))
    e
    (λ u. (tt, omega arith))
    (λ i. let g = takes_good T s p room i.0 in (g.0, omega (arith, g.1)))
    (λ w x l n f. (e, omega arith))
    (λ w x l f. let g = takes_good T [] p (room - length x) (begun_none T) in (g.0, omega (arith, g.1)))
