-- The feed's bytes carry it from call to call, so that calls in turn from C are pushes in turn, and answer as a batch does. Assumes nothing.
use mathlib.Core.Path.{◌≡◌, refl, sym, ap, ◌∙◌, subst}
use mathlib.Core.List.{List, [], ◌∷◌, ◌++◌, map, append-nil}
use Prim.Native.Nat.{ℕ, ◌+◌, ◌^◌, ◌≤◌, ◌<◌}
use native.Mathlib.Omega.{arith}
use borrow.Author.Tests.{eq-eqb}
use lib.ListN.{length, take, drop, length-append, length-drop}
use lib.Seq.{sets, sets-eq, take_at, drop_at, drop-drop}
use Rattle.digits.specs.Digits.{word, digits}
use Rattle.digits.proofs.DigitLaws.{length_digits, word_digits, word_below}
use Rattle.kinds.specs.Kinds.{longest_answer}
use Rattle.records.specs.Codes.{number_s}
use Rattle.replies.specs.Table.{table}
use Rattle.feeding.specs.Feed.{State, Open, Stopped, Call, call}
use Rattle.feeding.specs.Host.{Roomy}
use Rattle.feeding.specs.Promises.{Good}
use Rattle.feeding.proofs.TakeLaws.{begun_none}
use Rattle.feeding.proofs.HostLaws.{length_take_in}
use Rattle.feeding.proofs.Promised.{within}
use Rattle.feed.specs.Fields.{meant, fields}
use Rattle.feed.specs.Post.{push_s, close_s}
use Rattle.feed.specs.Pushes.{Bytes, Pushes, pushes}
use Rattle.feed.specs.declared.Feed.{Feed}
use Rattle.feed.proofs.TableLaws.{Held, bytes_take, bytes_drop, each_byte, call_held, begun_eight, carried, pushed_as_batch}
use Rattle.entries.specs.Feed.{feed_at, feed_bytes, Push, push_bytes_s, close_bytes_s}
use Rattle.entries.specs.Turns.{zeros, Lent, Turns, turns, Lendable, offer, FedAsBatch}

-- ---- a feed in its bytes

-- a number of 64 bits
abbrev Word : ℕ → Type 0
Word x = x < 256 ^ 8

module _ (f : Feed) (t w : ℕ) where
  abbrev rest : List ℕ
  rest = digits 8 f.length ++ (digits 8 t ++ digits 8 w)

  all_bytes : length (feed_bytes f t w) ≡ 32
  unfolding feed_bytes
  all_bytes = simp (length-append, length_digits)

  behind_1 : drop 8 (feed_bytes f t w) ≡ rest
  unfolding feed_bytes
  behind_1 = drop_at (digits 8 f.held) rest 8 (length_digits 8 f.held)

  behind_2 : drop 16 (feed_bytes f t w) ≡ digits 8 t ++ digits 8 w
  behind_2 =
      sym (drop-drop 8 8 (feed_bytes f t w)) ∙ ap (drop 8) behind_1 ∙ drop_at (digits 8 f.length) (digits 8 t ++ digits 8 w) 8 (length_digits 8 f.length)

  behind_3 : drop 24 (feed_bytes f t w) ≡ digits 8 w ++ []
  behind_3 = sym (drop-drop 8 16 (feed_bytes f t w)) ∙ ap (drop 8) behind_2 ∙ drop_at (digits 8 t) (digits 8 w) 8 (length_digits 8 t) ∙ sym (append-nil (digits 8 w))

  pub feed_back : Word f.held → Word f.length → feed_at (feed_bytes f t w) ≡ f
  unfolding feed_at feed_bytes
  feed_back h l = λ i. record {
    held = word_digits 8 f.held rest h i;
    length = (ap (word 8) behind_1 ∙ word_digits 8 f.length (digits 8 t ++ digits 8 w) l) i;
  }

  pub taken_back : Word t → word 8 (drop 16 (feed_bytes f t w)) ≡ t
  taken_back h = ap (word 8) behind_2 ∙ word_digits 8 t (digits 8 w) h

  pub written_back : Word w → word 8 (drop 24 (feed_bytes f t w)) ≡ w
  written_back h = ap (word 8) behind_3 ∙ word_digits 8 w [] h

-- 32 zero bytes are the empty feed
pub empty_is_zero : feed_bytes (fields (Open [])) 0 0 ≡ zeros 32
unfolding feed_bytes digits word
empty_is_zero = refl

-- the fields of a feed that calls can leave
held_word : (f : State) → Good table f → Held f → Word (fields f).held
held_word (Open h) g b = word_below 8 h (each_byte h b)
held_word Stopped g b = omega arith

length_word : (f : State) → Good table f → Word (fields f).length
length_word (Open h) g = omega (arith, begun_eight h g)
length_word Stopped g = omega arith

-- ---- a call

module _ (f : State) (t w : ℕ) (p a : List ℕ) (g : Good table f) (b : Held f) where
  -- what it does
  abbrev c : Call
  c = call table f p (length a)

  push_is : push_bytes_s (feed_bytes (fields f) t w) p a
      ≡ record { code = number_s c.code; feed = feed_bytes (fields c.feed) c.taken (length c.bytes); answers = sets a 0 c.bytes }
  push_is =
      let e : push_s (feed_at (feed_bytes (fields f) t w)) p a ≡ c =
      ap (λ (y : Feed). call table (meant y) p (length a)) (feed_back (fields f) t w (held_word f g b) (length_word f g)) ∙ ap (λ (y : State). call table y p (length a)) (carried f g b) in
      rw (eq-eqb (length (feed_bytes (fields f) t w)) 32 (all_bytes (fields f) t w))
      (ap (λ (y : Call). record { code = number_s y.code; feed = feed_bytes (fields y.feed) y.taken (length y.bytes); answers = sets a 0 y.bytes }) e)

  -- the answers that the host finds at the front of the buffer
  front : take (length c.bytes) (sets a 0 c.bytes) ≡ c.bytes
  front =
      let l : 0 + length c.bytes ≤ length a = omega (arith, (within table f p (length a) g).1.0) in
      ap (take (length c.bytes)) (sets-eq c.bytes a 0 l) ∙ take_at c.bytes (drop (0 + length c.bytes) a) (length c.bytes) refl

-- ---- calls in turn

-- what calls from C leave is what pushes leave, in bytes
record Carried (r : Turns) (q : Pushes) : Type 0 where
  answers : r.answers ≡ q.answers
  taken : ℕ
  written : ℕ
  feed : r.feed ≡ feed_bytes q.feed taken written
  held : Word q.feed.held
  size : Word q.feed.length

turns_pushes : (f : State) (t w : ℕ) (s : List ℕ) (ls : List Lent) → Good table f → Held f → Bytes s → Word (length s) → Lendable ls →
    Carried (turns (feed_bytes (fields f) t w) s ls) (pushes (fields f) s (map offer ls))
unfolding turns pushes
turns_pushes f t w s [] g h b n k = record { answers = refl; taken = t; written = w; feed = refl; held = held_word f g h; size = length_word f g }
turns_pushes f t w s (l ∷ ls) g h b n k =
    let p = take l.size s in
    let a = l.buffer in
    let d = call table f p (length a) in
    let i = within table f p (length a) g in
    let m = length_take_in l.size s in
    let fed = feed_bytes (fields d.feed) d.taken (length d.bytes) in
    let tk : word 8 (drop 16 fed) ≡ d.taken = taken_back (fields d.feed) d.taken (length d.bytes) (omega (arith, i.0)) in
    let wr : word 8 (drop 24 fed) ≡ length d.bytes = written_back (fields d.feed) d.taken (length d.bytes) (omega (arith, i.1.0, k.0.1)) in
    let rest = turns_pushes d.feed d.taken (length d.bytes) (drop d.taken s) ls i.1.1 (call_held table f p (length a) g h (bytes_take l.size s b))
    (bytes_drop d.taken s b) (omega (arith, length-drop d.taken s)) k.1 in
    let eT = ap {B = Turns} (λ (y : Push). record {
      feed = (turns y.feed (drop (word 8 (drop 16 y.feed)) s) ls).feed;
      answers = take (word 8 (drop 24 y.feed)) y.answers ++ (turns y.feed (drop (word 8 (drop 16 y.feed)) s) ls).answers;
    }) (push_is f t w p a g h) in
    let eP = ap {B = Pushes} (λ (y : State). let z = call table y p (length a) in record {
      feed = (pushes (fields z.feed) (drop z.taken s) (map offer ls)).feed;
      answers = z.bytes ++ (pushes (fields z.feed) (drop z.taken s) (map offer ls)).answers;
    }) (carried f g h) in
    subst (λ (r : Turns). Carried r (pushes (fields f) s (map offer (l ∷ ls)))) (sym eT)
    (subst (Carried (record {
      feed = (turns fed (drop (word 8 (drop 16 fed)) s) ls).feed;
      answers = take (word 8 (drop 24 fed)) (sets a 0 d.bytes) ++ (turns fed (drop (word 8 (drop 16 fed)) s) ls).answers;
    })) (sym eP)
    (record {
      answers = ap (λ (j : ℕ). take j (sets a 0 d.bytes) ++ (turns fed (drop (word 8 (drop 16 fed)) s) ls).answers) wr
          ∙ ap (λ (y : List ℕ). y ++ (turns fed (drop (word 8 (drop 16 fed)) s) ls).answers) (front f t w p a g h)
          ∙ ap (λ (j : ℕ). d.bytes ++ (turns fed (drop j s) ls).answers) tk
          ∙ ap (λ (y : List ℕ). d.bytes ++ y) rest.answers;
      taken = rest.taken;
      written = rest.written;
      feed = ap (λ (j : ℕ). (turns fed (drop j s) ls).feed) tk ∙ rest.feed;
      held = rest.held;
      size = rest.size;
    }))

-- what may be lent: nothing; and a buffer before others, where it has room for the longest answer and a length of 64 bits
pub lends_none : Lendable []
lends_none = tt

pub lends : (l : Lent) (ls : List Lent) → longest_answer ≤ length l.buffer → length l.buffer < 256 ^ 8 → Lendable ls → Lendable (l ∷ ls)
lends l ls room short rest = ((room, short), rest)

roomy : (ls : List Lent) → Lendable ls → Roomy longest_answer (map offer ls)
roomy [] k = tt
roomy (l ∷ ls) k = (k.0.0, roomy ls k.1)

close_is : (f : Feed) (t w : ℕ) → Word f.held → Word f.length → (close_bytes_s (feed_bytes f t w)).code ≡ number_s (close_s f).code
close_is f t w h l = rw (eq-eqb (length (feed_bytes f t w)) 32 (all_bytes f t w)) (ap (λ (y : Feed). number_s (close_s y).code) (feed_back f t w h l))

pub fed_as_batch : FedAsBatch
fed_as_batch s b n ls k enough room free =
    let q = pushes (fields (Open [])) s (map offer ls) in
    let i = turns_pushes (Open []) 0 0 s ls (begun_none table) tt b n k in
    let e : turns (zeros 32) s ls ≡ turns (feed_bytes (fields (Open [])) 0 0) s ls = ap (λ (y : List ℕ). turns y s ls) (sym empty_is_zero) in
    let same = pushed_as_batch s b (map offer ls) (roomy ls k) enough room free in (
      ap (λ (r : Turns). r.answers) e ∙ i.answers ∙ same.0,
      ap (λ (r : Turns). (close_bytes_s r.feed).code) e ∙ ap (λ (y : List ℕ). (close_bytes_s y).code) i.feed ∙ close_is q.feed i.taken i.written i.held i.size ∙ ap number_s same.1,
    )
