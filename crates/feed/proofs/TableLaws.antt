-- The theorems at the table that there is, and that they hold of pushes: the fields that a push leaves mean the state that its call left. Assumes
-- nothing.
use mathlib.Core.Path.{◌≡◌, refl, sym, ap, ◌∙◌}
use mathlib.Core.Bool.{true}
use mathlib.Core.List.{List, [], ◌∷◌, ◌++◌}
use Prim.Native.Nat.{ℕ, zero, suc, ◌-◌, ◌≤◌, ◌<◌}
use native.Mathlib.Omega.{arith}
use borrow.Author.Tests.{ltb-true}
use lib.ListN.{length, take, drop, get_or}
use lib.Seq.{take-length}
use Rattle.digits.specs.Digits.{digits}
use Rattle.digits.proofs.DigitLaws.{word_short, digits_word}
use Rattle.kinds.specs.Kinds.{longest_answer}
use Rattle.records.specs.Row.{Row, row_in}
use Rattle.records.specs.Run.{Out}
use Rattle.replies.specs.Table.{table}
use Rattle.replies.proofs.TableLaws.{reply_longest, width_small}
use Rattle.feeding.specs.Feed.{State, Open, Stopped, begun, Call, turn, takes, call, close}
use Rattle.feeding.specs.Host.{Offer, host, Longest}
use Rattle.feeding.specs.Promises.{Good, Progress}
use Rattle.feeding.proofs.TakeLaws.{begun_none, byte_elim, call_open}
use Rattle.feeding.proofs.CallLaws.{call_good, stopped_stays}
use Rattle.feeding.proofs.HostLaws.{host_good}
use Rattle.feeding.proofs.Promised.{same_answers, progress}
use Rattle.feed.specs.Fields.{meant, fields}
use Rattle.feed.specs.Pushes.{Bytes, Pushes, pushes, PushedAsBatch}
use Rattle.feed.proofs.FieldLaws.{meant_open}

-- no answer is longer than the longest
pub longest : Longest table longest_answer
longest k b _ = reply_longest k b

-- with room for the longest a push gets on
pub gets_on : Progress table longest_answer
gets_on = progress table longest_answer

-- ---- bytes

bytes_append : (s t : List ℕ) → Bytes s → Bytes t → Bytes (s ++ t)
bytes_append [] t a b = b
bytes_append (x ∷ s) t a b = (a.0, bytes_append s t a.1 b)

pub bytes_take : (n : ℕ) (s : List ℕ) → Bytes s → Bytes (take n s)
bytes_take zero s a = tt
bytes_take (suc n) [] a = tt
bytes_take (suc n) (x ∷ s) a = (a.0, bytes_take n s a.1)

pub bytes_drop : (n : ℕ) (s : List ℕ) → Bytes s → Bytes (drop n s)
bytes_drop zero s a = a
bytes_drop (suc n) [] a = tt
bytes_drop (suc n) (x ∷ s) a = bytes_drop n s a.1

pub each_byte : (s : List ℕ) → Bytes s → (i : ℕ) → get_or s i 0 < 256
each_byte [] a i = omega arith
each_byte (x ∷ s) a zero = a.0
each_byte (x ∷ s) a (suc i) = each_byte s a.1 i

-- what is held are bytes
abbrev pub Held : State → Type 0
Held (Open h) = Bytes h
Held Stopped = Unit

takes_held : (T : List Row) (h p : List ℕ) (room : ℕ) → begun T h ≡ true → Bytes h → Bytes p → Held (takes T h p room).feed
unfolding takes
takes_held T h [] room e a b = a
takes_held T h (x ∷ p) room e a b =
    let s = h ++ (x ∷ []) in
    byte_elim T h x room
    (λ (o : Out). Held (turn o.code h o.bytes (takes T s p room) (takes T [] p (room - o.tally.written))).feed)
    e
    (λ u. tt)
    (λ i. takes_held T s p room i.0 (bytes_append h (x ∷ []) a (b.0, tt)) b.1)
    (λ w y l n f. a)
    (λ w y l f. takes_held T [] p (room - length y) (begun_none T) tt b.1)

pub call_held : (T : List Row) (f : State) (p : List ℕ) (room : ℕ) → Good T f → Held f → Bytes p → Held (call T f p room).feed
call_held T (Open h) p room e a b = rw (call_open T h p room e) (takes_held T h p room e a b)
call_held T Stopped p room e a b = rw (stopped_stays T p room) tt

-- ---- pushes

pub begun_eight : (h : List ℕ) → begun table h ≡ true → length h ≤ 8
unfolding begun
begun_eight [] e = omega arith
begun_eight (k ∷ s) e = omega (arith, ltb-true (length s) (row_in table k).width e, width_small k)

pub carried : (f : State) → Good table f → Held f → meant (fields f) ≡ f
unfolding meant
carried (Open h) g a =
    let l = begun_eight h g in
    meant_open (fields (Open h)) l
    ∙ ap (λ (x : ℕ). Open (digits (length h) x)) (sym (word_short 8 h l))
    ∙ ap Open (digits_word (length h) h (omega arith) (each_byte h a) ∙ take-length h)
carried Stopped g a = refl

-- pushes in turn are calls in turn
pushes_host : (f : State) (s : List ℕ) (os : List Offer) → Good table f → Held f → Bytes s →
    pushes (fields f) s os ≡ record { feed = fields (host table f s os).feed; answers = (host table f s os).bytes }
unfolding pushes host
pushes_host f s [] g a b = refl
pushes_host f s (o ∷ os) g a b =
    let p = take o.size s in
    let c = call table f p o.room in
    let again : call table (meant (fields f)) p o.room ≡ c = ap (λ (y : State). call table y p o.room) (carried f g a) in
    let rest = pushes_host c.feed (drop c.taken s) os (call_good table f p o.room g).0 (call_held table f p o.room g a (bytes_take o.size s b)) (bytes_drop c.taken s b) in
    ap (λ (y : Call). record {
      feed = (pushes (fields y.feed) (drop y.taken s) os).feed;
      answers = y.bytes ++ (pushes (fields y.feed) (drop y.taken s) os).answers;
    }) again
    ∙ ap (λ (y : Pushes). record { feed = y.feed; answers = c.bytes ++ y.answers }) rest

host_held : (f : State) (s : List ℕ) (os : List Offer) → Good table f → Held f → Bytes s → Held (host table f s os).feed
unfolding host
host_held f s [] g a b = a
host_held f s (o ∷ os) g a b =
    let p = take o.size s in
    let c = call table f p o.room in
    host_held c.feed (drop c.taken s) os (call_good table f p o.room g).0 (call_held table f p o.room g a (bytes_take o.size s b)) (bytes_drop c.taken s b)

pub pushed_as_batch : PushedAsBatch
pushed_as_batch s b os roomy enough room n =
    let r = host table (Open []) s os in
    let e = pushes_host (Open []) s os (begun_none table) tt b in
    let same = same_answers table longest_answer longest s os roomy enough room n in
    let m : meant (fields r.feed) ≡ r.feed = carried r.feed (host_good table (Open []) s os (begun_none table)) (host_held (Open []) s os (begun_none table) tt b) in (
      ap (λ (y : Pushes). y.answers) e ∙ same.answers,
      ap (λ (y : Pushes). (close table (meant y.feed)).code) e ∙ ap (λ (y : State). (close table y).code) m ∙ same.code,
    )
