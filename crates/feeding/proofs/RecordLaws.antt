-- A call by records: what a feed that holds nothing does with a piece is a batch over it, and then the start of a record that the batch left. Over
-- any table. Assumes nothing.
use mathlib.Core.Path.{◌≡◌, refl, sym, ap, ◌∙◌, subst}
use mathlib.Core.Bool.{true}
use mathlib.Core.List.{List, [], ◌∷◌, ◌++◌, append-nil, append_assoc}
use mathlib.Core.Logic.{◌⊎◌, inl, inr, ⊎_elim}
use Prim.Native.Nat.{ℕ, zero, suc, ◌+◌, ◌-◌, ◌≤◌, ◌<◌}
use native.Mathlib.Omega.{arith}
use borrow.Author.Tests.{ltb-true, lt-ltb}
use lib.ListN.{length, take, drop, get_or, length-append, length-drop}
use lib.Seq.{append_snoc, split_at, drop-drop, drop-length, length-take-le, take_at, take-take, take-append-add}
use Rattle.digits.specs.Digits.{word}
use Rattle.records.specs.Reply.{bytes_of}
use Rattle.records.specs.Row.{Row, row_in}
use Rattle.records.specs.Tally.{nothing}
use Rattle.records.specs.declared.Tally.{Tally}
use Rattle.records.specs.declared.Code.{Code}
use Rattle.records.specs.declared.Code.TheVariants.{Done, Unknown, Cut, Full}
use Rattle.records.specs.Run.{Out, stop, took, ahead, one, run}
use Rattle.records.proofs.RunLaws.{choose_elim, sound, by_refused, by_took, run_stop, run_go}
use Rattle.records.proofs.StepLaws.{choose_unknown, choose_cut, choose_full, choose_whole}
use Rattle.records.proofs.SplitLaws.{ahead_stop, zero_or, run_ends}
use Rattle.digits.proofs.DigitLaws.{word_append}
use Rattle.feeding.specs.Feed.{Open, Stopped, begun, Call, ends, goes, turn, takes}
use Rattle.feeding.proofs.TakeLaws.{goes_none, goes_goes, le_or}

-- ---- within a record

pub begun_front : (T : List Row) (s p : List ℕ) → begun T (s ++ p) ≡ true → begun T s ≡ true
unfolding begun
begun_front T [] p e = refl
begun_front T (k ∷ s) p e =
    let l = length-append s p in
    let g = ltb-true (length (s ++ p)) (row_in T k).width e in
    lt-ltb (length s) (row_in T k).width (omega arith)

pub begun_cut : (T : List Row) (k : ℕ) (s : List ℕ) (room : ℕ) → begun T (k ∷ s) ≡ true → one T (k ∷ s) room ≡ stop Cut
unfolding begun one
begun_cut T k s room e =
    let w = (row_in T k).width in
    let g = ltb-true (length s) w e in
    choose_cut w (length s) room (bytes_of ((row_in T k).reply (word w s))) (λ z. omega arith) g

byte_cut : (T : List Row) (h : List ℕ) (b room : ℕ) → begun T (h ++ (b ∷ [])) ≡ true → one T (h ++ (b ∷ [])) room ≡ stop Cut
byte_cut T [] b room e = begun_cut T b [] room e
byte_cut T (k ∷ h) b room e = begun_cut T k (h ++ (b ∷ [])) room e

-- bytes that do not end a record are taken and held
pub takes_start : (T : List Row) (h p q : List ℕ) (room : ℕ) → begun T (h ++ p) ≡ true → takes T h (p ++ q) room ≡ goes (length p) [] (takes T (h ++ p) q room)
unfolding takes
takes_start T h [] q room e = sym (goes_none (takes T (h ++ []) q room) ∙ ap (λ (s : List ℕ). takes T s q room) (append-nil h))
takes_start T h (b ∷ p) q room e =
    let s = h ++ (b ∷ []) in
    let j : s ++ p ≡ h ++ (b ∷ p) = append_snoc h b p in
    let g : begun T (s ++ p) ≡ true = ap (begun T) j ∙ e in
    let n : 1 + length p ≡ suc (length p) = omega arith in
    ap (λ (o : Out). turn o.code h o.bytes (takes T s (p ++ q) room) (takes T [] (p ++ q) (room - o.tally.written))) (byte_cut T h b room (begun_front T s p g))
    ∙ ap (goes 1 []) (takes_start T s p q room g)
    ∙ goes_goes 1 (length p) [] [] (takes T (s ++ p) q room)
    ∙ ap (λ (m : ℕ). goes m [] (takes T (s ++ p) q room)) n
    ∙ ap (λ (x : List ℕ). goes (suc (length p)) [] (takes T x q room)) j

-- ---- the last byte

module _ (T : List Row) (k : ℕ) (h : List ℕ) (b : ℕ) (room : ℕ) (full : suc (length h) ≡ (row_in T k).width) where
  -- the answer to the record
  abbrev reply : List ℕ
  reply = bytes_of ((row_in T k).reply (word (row_in T k).width (h ++ (b ∷ []))))

  last_full : room < length reply → one T (k ∷ (h ++ (b ∷ []))) room ≡ stop Full
  unfolding one
  last_full f =
      let l = length-append h (b ∷ []) in
      choose_full (row_in T k).width (length (h ++ (b ∷ []))) room reply (λ z. omega arith) (omega arith) f

  last_whole : length reply ≤ room → one T (k ∷ (h ++ (b ∷ []))) room ≡ took (row_in T k).width reply
  unfolding one
  last_whole f =
      let l = length-append h (b ∷ []) in
      choose_whole (row_in T k).width (length (h ++ (b ∷ []))) room reply (λ z. omega arith) (omega arith) f

  takes_full : (q : List ℕ) → room < length reply → takes T (k ∷ h) (b ∷ q) room ≡ ends (Open (k ∷ h)) Full
  unfolding takes
  takes_full q f = ap (λ (o : Out). turn o.code (k ∷ h) o.bytes (takes T (k ∷ (h ++ (b ∷ []))) q room) (takes T [] q (room - o.tally.written))) (last_full f)

  takes_whole : (q : List ℕ) → length reply ≤ room → takes T (k ∷ h) (b ∷ q) room ≡ goes 1 reply (takes T [] q (room - length reply))
  unfolding takes
  takes_whole q f = ap (λ (o : Out). turn o.code (k ∷ h) o.bytes (takes T (k ∷ (h ++ (b ∷ []))) q room) (takes T [] q (room - o.tally.written))) (last_whole f)

run_none : (T : List Row) (room : ℕ) → run T [] room ≡ stop Done
unfolding one
run_none T room = by_refused (one T) (sound T) [] room Done refl

run_single : (T : List Row) (s x : List ℕ) (w room : ℕ) → length s ≡ 1 + w → one T s room ≡ took w x → run T s room ≡ took w x
run_single T s x w room l e =
    let d : drop (1 + w) s ≡ [] = ap (λ (n : ℕ). drop n s) (sym l) ∙ drop-length s in
    by_took (one T) (sound T) s room w x e
    ∙ ap (λ (t : List ℕ). ahead (took w x) (run T t (room - length x))) d
    ∙ ap (ahead (took w x)) (run_none T (room - length x))
    ∙ ahead_stop (took w x) Done

-- ---- the rest of a record that has begun

begun_body : (T : List Row) (k : ℕ) (h : List ℕ) → suc (length h) ≡ (row_in T k).width → begun T (k ∷ h) ≡ true
unfolding begun
begun_body T k h e = lt-ltb (length h) (row_in T k).width (omega arith)

-- a body of more than no bytes, cut before its last
body : (w : ℕ) (s : List ℕ) → (w ≡ 0 → ⊥) → w ≤ length s → (s ≡ take (w - 1) s ++ (get_or s (w - 1) 0 ∷ drop w s)) × (suc (length (take (w - 1) s)) ≡ w)
body zero s z l = absurd (z refl)
body (suc w) s z l =
    let e : suc w - 1 ≡ w = omega arith in
    rw e (split_at s w 0 (omega arith), ap suc (length-take-le w s (omega arith)))

-- Where a kind and the bytes g of its body are held, and the first n bytes of the piece p are the rest of it.
module _ (T : List Row) (k : ℕ) (g p : List ℕ) (n room : ℕ) (some : n ≡ 0 → ⊥) (there : n ≤ length p) (ends_it : suc (length g) + n ≡ (row_in T k).width + 1) where
  abbrev w : ℕ
  w = (row_in T k).width

  -- the record, and the answer to it
  abbrev pub whole : List ℕ
  whole = k ∷ (g ++ take n p)

  abbrev answer : List ℕ
  answer = bytes_of ((row_in T k).reply (word w (g ++ p)))

  -- all of its body but the last byte, and that
  abbrev front : List ℕ
  front = g ++ take (n - 1) p

  abbrev last : ℕ
  last = get_or p (n - 1) 0

  cut : (p ≡ take (n - 1) p ++ (last ∷ drop n p)) × (suc (length (take (n - 1) p)) ≡ n)
  cut = body n p some there

  size : suc (length front) ≡ w
  size = let c = cut in omega (arith, length-append g (take (n - 1) p), c.1)

  parts : g ++ p ≡ (front ++ (last ∷ [])) ++ drop n p
  parts = ap (λ (y : List ℕ). g ++ y) cut.0 ∙ sym (append_assoc g (take (n - 1) p) (last ∷ drop n p)) ∙ sym (append_snoc front last (drop n p))

  whole_is : whole ≡ k ∷ (front ++ (last ∷ []))
  whole_is =
      let l = length-append front (last ∷ []) in
      let m : w ≡ length g + n = omega arith in
      ap (λ (y : List ℕ). k ∷ y)
      (sym (take-append-add g p n) ∙ ap (λ (j : ℕ). take j (g ++ p)) (sym m) ∙ ap (take w) parts ∙ take_at (front ++ (last ∷ [])) (drop n p) w (omega (arith, size)))

  answer_is : bytes_of ((row_in T k).reply (word w (front ++ (last ∷ [])))) ≡ answer
  answer_is =
      let l = length-append front (last ∷ []) in
      ap (λ (j : ℕ). bytes_of ((row_in T k).reply j)) (sym (ap (word w) parts ∙ word_append w (front ++ (last ∷ [])) (drop n p) (omega (arith, size))))

  to_last : takes T (k ∷ g) p room ≡ goes (n - 1) [] (takes T (k ∷ front) (last ∷ drop n p) room)
  to_last =
      let m : length (take (n - 1) p) ≡ n - 1 = omega (arith, cut.1) in
      ap (λ (y : List ℕ). takes T (k ∷ g) y room) cut.0
      ∙ takes_start T (k ∷ g) (take (n - 1) p) (last ∷ drop n p) room (begun_body T k front size)
      ∙ ap (λ (j : ℕ). goes j [] (takes T (k ∷ front) (last ∷ drop n p) room)) m

  takes_no_room : room < length answer → takes T (k ∷ g) p room ≡ goes (n - 1) [] (ends (Open (take w whole)) Full)
  takes_no_room f =
      to_last ∙ ap (goes (n - 1) []) (takes_full T k front last room size (drop n p) (omega (arith, ap length answer_is)))
      ∙ ap (λ (y : List ℕ). goes (n - 1) [] (ends (Open y) Full)) (sym (ap (take w) whole_is ∙ take_at (k ∷ front) (last ∷ []) w size))

  takes_answered : length answer ≤ room → takes T (k ∷ g) p room ≡ goes n answer (takes T [] (drop n p) (room - length answer))
  takes_answered f =
      let m : (n - 1) + 1 ≡ n = omega (arith, cut.1) in
      to_last ∙ ap (goes (n - 1) []) (takes_whole T k front last room size (drop n p) (omega (arith, ap length answer_is)))
      ∙ ap (λ (y : List ℕ). goes (n - 1) [] (goes 1 y (takes T [] (drop n p) (room - length y)))) answer_is
      ∙ goes_goes (n - 1) 1 [] answer (takes T [] (drop n p) (room - length answer))
      ∙ ap (λ (j : ℕ). goes j answer (takes T [] (drop n p) (room - length answer))) m

  run_no_room : room < length answer → run T whole room ≡ stop Full
  run_no_room f =
      let o = ap (λ (y : List ℕ). one T y room) whole_is ∙ last_full T k front last room size (omega (arith, ap length answer_is)) in
      by_refused (one T) (sound T) whole room Full o

  run_answered : length answer ≤ room → run T whole room ≡ took w answer
  run_answered f =
      let l : length whole ≡ 1 + w = ap length whole_is ∙ omega (arith, size, length-append front (last ∷ [])) in
      run_single T whole answer w room l
      (ap (λ (y : List ℕ). one T y room) whole_is ∙ last_whole T k front last room size (omega (arith, ap length answer_is)) ∙ ap (took w) answer_is)

  -- by a batch over the record
  pub takes_rest : ((run T whole room ≡ stop Full) × (takes T (k ∷ g) p room ≡ goes (n - 1) [] (ends (Open (take w whole)) Full)))
      ⊎ (((run T whole room).code ≡ Done)
      × (takes T (k ∷ g) p room ≡ goes n (run T whole room).bytes (takes T [] (drop n p) (room - (run T whole room).tally.written))))
  takes_rest =
      ⊎_elim
      (λ (f : length answer ≤ room).
      let r = run_answered f in
      inr (ap (λ (y : Out). y.code) r, takes_answered f ∙ ap (λ (y : Out). goes n y.bytes (takes T [] (drop n p) (room - y.tally.written))) (sym r)))
      (λ (f : room < length answer). inl (run_no_room f, takes_no_room f))
      (le_or (length answer) room)

-- ---- a piece, where nothing is held

module _ (T : List Row) (k : ℕ) (s : List ℕ) (room : ℕ) (known : (row_in T k).width ≡ 0 → ⊥) (there : (row_in T k).width ≤ length s) where
  abbrev v : ℕ
  v = (row_in T k).width

  one_byte : takes T [] (k ∷ s) room ≡ goes 1 [] (takes T (k ∷ []) s room)
  unfolding begun
  one_byte = takes_start T [] (k ∷ []) s room (lt-ltb 0 v (omega (arith, known)))

  record_full : room < length (bytes_of ((row_in T k).reply (word v s))) → takes T [] (k ∷ s) room ≡ goes v [] (ends (Open (take v (k ∷ s))) Full)
  record_full f =
      let e : 1 + v ≡ v + 1 = omega arith in
      let m : 1 + (v - 1) ≡ v = omega (arith, (body v s known there).1) in
      let held : take v (k ∷ take v s) ≡ take v (k ∷ s) = take-take v (suc v) (k ∷ s) (omega arith) in
      one_byte ∙ ap (goes 1 []) (takes_no_room T k [] s v room known there e f)
      ∙ goes_goes 1 (v - 1) [] [] (ends (Open (take v (k ∷ take v s))) Full)
      ∙ ap (λ (n : ℕ). goes n [] (ends (Open (take v (k ∷ take v s))) Full)) m
      ∙ ap (λ (y : List ℕ). goes v [] (ends (Open y) Full)) held

  record_whole : length (bytes_of ((row_in T k).reply (word v s))) ≤ room →
      takes T [] (k ∷ s) room ≡ goes (1 + v) (bytes_of ((row_in T k).reply (word v s))) (takes T [] (drop v s) (room - length (bytes_of ((row_in T k).reply (word v s)))))
  record_whole f =
      let e : 1 + v ≡ v + 1 = omega arith in
      let x = bytes_of ((row_in T k).reply (word v s)) in
      one_byte ∙ ap (goes 1 []) (takes_answered T k [] s v room known there e f) ∙ goes_goes 1 v [] x (takes T [] (drop v s) (room - length x))

-- what a call goes on with, where a batch did o at the front of the piece
abbrev behind : List Row → List ℕ → ℕ → Out → Call
behind T p room o = goes o.tally.read o.bytes (takes T [] (drop o.tally.read p) (room - o.tally.written))

-- the record at the front, where a batch answers it
takes_record : (T : List Row) (p : List ℕ) (room : ℕ) → ((one T p room).tally.records ≡ 0 → ⊥) → takes T [] p room ≡ behind T p room (one T p room)
unfolding one
takes_record T [] room z = absurd (z refl)
takes_record T (k ∷ s) room z =
    let v = (row_in T k).width in
    let x = bytes_of ((row_in T k).reply (word v s)) in
    choose_elim (λ (o : Out). (o.tally.records ≡ 0 → ⊥) → takes T [] (k ∷ s) room ≡ behind T (k ∷ s) room o)
    v (length s) room x
    (λ _ h. absurd (h refl)) (λ _ _ h. absurd (h refl)) (λ _ _ _ h. absurd (h refl))
    (λ n c f _.
    let e : suc v ≡ 1 + v = omega arith in
    record_whole T k s room n c f ∙ ap (λ (m : ℕ). goes (1 + v) x (takes T [] (drop m (k ∷ s)) (room - length x))) e)
    z

behind_none : (T : List Row) (p : List ℕ) (room : ℕ) (o : Out) → o.tally ≡ nothing → o.bytes ≡ [] → takes T [] p room ≡ behind T p room o
behind_none T p room o et eb =
    let m : room ≡ room - 0 = omega arith in
    sym (ap (λ (t : Tally). goes t.read o.bytes (takes T [] (drop t.read p) (room - t.written))) et
    ∙ ap (λ (x : List ℕ). goes 0 x (takes T [] p (room - 0))) eb
    ∙ goes_none (takes T [] p (room - 0)) ∙ ap (takes T [] p) (sym m))

behind_behind : (T : List Row) (p : List ℕ) (room : ℕ) (o r : Out) →
    goes o.tally.read o.bytes (behind T (drop o.tally.read p) (room - o.tally.written) r) ≡ behind T p room (ahead o r)
behind_behind T p room o r =
    let t = drop o.tally.read p in
    let m = room - o.tally.written in
    let e : m - r.tally.written ≡ room - (o.tally.written + r.tally.written) = omega arith in
    goes_goes o.tally.read r.tally.read o.bytes r.bytes (takes T [] (drop r.tally.read t) (m - r.tally.written))
    ∙ ap (λ (k : ℕ). goes (o.tally.read + r.tally.read) (o.bytes ++ r.bytes) (takes T [] (drop r.tally.read t) k)) e
    ∙ ap (λ (y : List ℕ). goes (o.tally.read + r.tally.read) (o.bytes ++ r.bytes) (takes T [] y (room - (o.tally.written + r.tally.written)))) (drop-drop r.tally.read o.tally.read p)

-- and all of those
takes_records : (T : List Row) (n : ℕ) (p : List ℕ) (room : ℕ) → length p < n → takes T [] p room ≡ behind T p room (run T p room)
takes_records T zero p room h = absurd (omega arith)
takes_records T (suc n) p room h =
    let o = one T p room in
    let q = sound T p room in
    ⊎_elim
    (λ z. subst (λ (r : Out). takes T [] p room ≡ behind T p room r) (sym (run_stop T p room z)) (behind_none T p room o (q.stops z).0 (q.stops z).1))
    (λ z.
    let g = q.goes z in
    let t = drop o.tally.read p in
    let m = room - o.tally.written in
    let d = length-drop o.tally.read p in
    takes_record T p room z
    ∙ ap (goes o.tally.read o.bytes) (takes_records T n t m (omega arith))
    ∙ behind_behind T p room o (run T t m)
    ∙ ap (behind T p room) (sym (run_go T p room z)))
    (zero_or o.tally.records)

-- ---- where a batch has stopped

-- what a record that was refused passed, by the code
pub refused : (T : List Row) (d : List ℕ) (room : ℕ) (c : Code) → one T d room ≡ stop c → (P : Code → Type 0) →
    (d ≡ [] → P Done) →
    ((k : ℕ) (s : List ℕ) → d ≡ k ∷ s → (row_in T k).width ≡ 0 → P Unknown) →
    ((k : ℕ) (s : List ℕ) → d ≡ k ∷ s → length s < (row_in T k).width → P Cut) →
    ((k : ℕ) (s : List ℕ) → d ≡ k ∷ s → ((row_in T k).width ≡ 0 → ⊥) → (row_in T k).width ≤ length s → room < length (bytes_of ((row_in T k).reply (word (row_in T k).width s))) → P Full) →
    P c
unfolding one
refused T [] room c e P none unknown cut full = subst P (ap (λ (o : Out). o.code) e) (none refl)
refused T (k ∷ s) room c e P none unknown cut full =
    let v = (row_in T k).width in
    let x = bytes_of ((row_in T k).reply (word v s)) in
    choose_elim (λ (o : Out). o ≡ stop c → P c) v (length s) room x
    (λ z i. subst P (ap (λ (o : Out). o.code) i) (unknown k s refl z))
    (λ z l i. subst P (ap (λ (o : Out). o.code) i) (cut k s refl l))
    (λ z l f i. subst P (ap (λ (o : Out). o.code) i) (full k s refl z l f))
    (λ z l f i. absurd (let a : ◌≡◌ {A = ℕ} 1 0 = ap (λ (o : Out). o.tally.records) i in omega arith))
    e

-- how a call over d ends, by the code that a batch has for the record at its front
abbrev pub ending : List Row → List ℕ → Code → Call
ending T d Done = ends (Open []) Done
ending T d Unknown = ends Stopped Unknown
ending T d Cut = goes (length d) [] (ends (Open d) Done)
ending T d Full = goes (row_in T (get_or d 0 0)).width [] (ends (Open (take (row_in T (get_or d 0 0)).width d)) Full)

stop_unknown : (T : List Row) (k : ℕ) (s : List ℕ) (room : ℕ) → (row_in T k).width ≡ 0 → takes T [] (k ∷ s) room ≡ ends Stopped Unknown
unfolding takes one
stop_unknown T k s room z =
    let v = (row_in T k).width in
    ap (λ (o : Out). turn o.code [] o.bytes (takes T (k ∷ []) s room) (takes T [] s (room - o.tally.written)))
    (choose_unknown v 0 room (bytes_of ((row_in T k).reply (word v []))) z)

stop_cut : (T : List Row) (d : List ℕ) (room : ℕ) → begun T d ≡ true → takes T [] d room ≡ goes (length d) [] (ends (Open d) Done)
unfolding takes
stop_cut T d room e = ap (λ (y : List ℕ). takes T [] y room) (sym (append-nil d)) ∙ takes_start T [] d [] room e

takes_ending : (T : List Row) (d : List ℕ) (room : ℕ) (c : Code) → one T d room ≡ stop c → takes T [] d room ≡ ending T d c
unfolding takes begun
takes_ending T d room c e =
    refused T d room c e (λ (n : Code). takes T [] d room ≡ ending T d n)
    (λ n. ap (λ (y : List ℕ). takes T [] y room) n)
    (λ k s n z. ap (λ (y : List ℕ). takes T [] y room) n ∙ stop_unknown T k s room z)
    (λ k s n l. stop_cut T d room (ap (begun T) n ∙ lt-ltb (length s) (row_in T k).width l))
    (λ k s n z l f.
    ap (λ (y : List ℕ). takes T [] y room) n ∙ record_full T k s room z l f
    ∙ ap (λ (y : List ℕ). goes (row_in T (get_or y 0 0)).width [] (ends (Open (take (row_in T (get_or y 0 0)).width y)) Full)) (sym n))

-- A call on a piece where nothing is held: a batch, and then an ending by its code.
pub takes_run : (T : List Row) (p : List ℕ) (room : ℕ) →
    takes T [] p room ≡ goes (run T p room).tally.read (run T p room).bytes (ending T (drop (run T p room).tally.read p) (run T p room).code)
takes_run T p room =
    let o = run T p room in
    takes_records T (suc (length p)) p room (omega arith)
    ∙ ap (goes o.tally.read o.bytes) (takes_ending T (drop o.tally.read p) (room - o.tally.written) o.code (run_ends T p room))
