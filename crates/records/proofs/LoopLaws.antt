-- What a loop that follows a run by a step keeps: what is left to do, put behind what is done, is what is to be done in all. Assumes nothing.
use mathlib.Core.Path.{◌≡◌, sym, ap, ◌∙◌, subst}
use mathlib.Core.List.{List}
use Prim.Native.Nat.{ℕ, ◌+◌, ◌-◌, ◌≤◌, ◌<◌, ◌^◌}
use native.Mathlib.Omega.{arith}
use lib.ListN.{length, take, drop, length-drop}
use lib.Seq.{sets, sets-eq, length-sets, drop-drop, take_at}
use Rattle.digits.proofs.StoreLaws.{sets_append}
use Rattle.records.specs.Tally.{◌⊞◌, wrapped}
use Rattle.records.specs.Run.{Out, ahead, run_by}
use Rattle.records.specs.Did.{Did}
use Rattle.records.specs.declared.Code.{Code}
use Rattle.records.specs.declared.Report.{Report}
use Rattle.records.specs.declared.Tally.{Tally}
use Rattle.records.proofs.PartLaws.{with_rest, did_rest}
use Rattle.records.proofs.TallyLaws.{⊞_assoc, ⊞_nothing, wrapped_fits}
use Rattle.records.specs.Lawful.{Lawful}
use Rattle.records.proofs.RunLaws.{by_stop, by_go, onward_by, by_within}

-- What a loop keeps: what is left to do behind the tally t gives what is to be done in all.
pub record SoFar (all rest : Out) (t : Tally) (first a : List ℕ) : Type 0 where
  pub code : rest.code ≡ all.code
  pub tally : t ⊞ rest.tally ≡ all.tally
  pub buffer : sets a t.written rest.bytes ≡ sets first 0 all.bytes

-- one record more, over any outcomes
pub so_far_more : (all o rest : Out) (t : Tally) (first a b : List ℕ) → o.tally.written ≡ length o.bytes → b ≡ sets a t.written o.bytes →
    SoFar all (ahead o rest) t first a → SoFar all rest (t ⊞ o.tally) first b
so_far_more all o rest t first a b n e f = record {
  code = f.code;
  tally = ⊞_assoc t o.tally rest.tally ∙ f.tally;
  buffer = ap (λ (x : List ℕ). sets x (t.written + o.tally.written) rest.bytes) e
      ∙ ap (λ (k : ℕ). sets (sets a t.written o.bytes) (t.written + k) rest.bytes) n
      ∙ sets_append o.bytes rest.bytes a t.written ∙ f.buffer;
}

-- A loop over a run: where it stands.
pub record Going (S : List ℕ → ℕ → Out) (s first a : List ℕ) (t : Tally) : Type 0 where
  pub inside : t.read ≤ length s
  pub within : t.written ≤ length a
  pub same : length a ≡ length first
  pub count : t.records ≤ t.read
  pub so_far : SoFar (run_by S s (length first)) (onward_by S s (length a) t) t first a

-- one step over what is left to read and the rest of the buffer, of which it leaves b
module _ (S : List ℕ → ℕ → Out) (law : Lawful S) (s first a b : List ℕ) (t : Tally) (r : Report Code) (g : Going S s first a t)
    (rests : Did (S (take (length s - t.read) (drop t.read s)) (length (take (length a - t.written) (drop t.written a)))) r 0 (take (length a - t.written) (drop t.written a)) b) where
  -- the buffer behind the step
  abbrev pub after : List ℕ
  after = with_rest t.written a b

  d : Did (S (drop t.read s) (length a - t.written)) r t.written a after
  d = did_rest S s a b t.read t.written r g.within rests

  -- the record at hand
  abbrev o : Out
  o = S (drop t.read s) (length a - t.written)

  pub going_done : r.tally.records ≡ 0 → Did (run_by S s (length first)) (record { code = r.code; tally = t }) 0 first after
  going_done z =
      let all = run_by S s (length first) in
      let zo : o.tally.records ≡ 0 = ap (λ (x : Tally). x.records) (sym d.tally) ∙ z in
      let q = (law (drop t.read s) (length a - t.written)).stops zo in
      let f : SoFar all o t first a = subst (λ (x : Out). SoFar all x t first a) (by_stop S law (drop t.read s) (length a - t.written) zo) g.so_far in
      record {
        code = d.code ∙ f.code;
        tally = sym (⊞_nothing t) ∙ ap (◌⊞◌ t) (sym q.0) ∙ f.tally;
        buffer = d.buffer ∙ f.buffer;
      }

  module _ (z : r.tally.records ≡ 0 → ⊥) where
    went : (o.tally.records ≡ 1) × ((0 < o.tally.read) × (o.tally.read ≤ length (drop t.read s)))
    went = (law (drop t.read s) (length a - t.written)).goes (λ h. z (ap (λ (x : Tally). x.records) d.tally ∙ h))

    -- it took something
    pub going_further : 0 < r.tally.read
    going_further = omega (arith, ap (λ (x : Tally). x.read) d.tally, went.1.0)

    more : Going S s first after (t ⊞ o.tally)
    more =
        let q = law (drop t.read s) (length a - t.written) in
        let all = run_by S s (length first) in
        let l = length-drop t.read s in
        let lb : length after ≡ length a = ap length d.buffer ∙ length-sets a t.written o.bytes in
        let e : (length a - t.written) - o.tally.written ≡ length after - (t.written + o.tally.written) = omega arith in
        let f = subst (λ (x : Out). SoFar all x t first a) (by_go S law (drop t.read s) (length a - t.written) (λ h. z (ap (λ (x : Tally). x.records) d.tally ∙ h))) g.so_far in
        record {
          inside = omega (arith, g.inside, went.1.1);
          within = omega (arith, g.within, q.fits);
          same = lb ∙ g.same;
          count = omega (arith, g.count, went.0, went.1.0);
          so_far = subst (λ (x : Out). SoFar all x (t ⊞ o.tally) first after)
              (ap (λ (x : List ℕ). run_by S x ((length a - t.written) - o.tally.written)) (drop-drop o.tally.read t.read s) ∙ ap (run_by S (drop (t.read + o.tally.read) s)) e)
              (so_far_more all o (onward_by S (drop t.read s) (length a - t.written) o.tally) t first a after q.counts d.buffer f);
        }

    pub going_on : Going S s first after (t ⊞ r.tally)
    going_on = subst (λ (x : Tally). Going S s first after (t ⊞ x)) (sym d.tally) more

    -- and no count wraps
    pub going_fits : length s < 2 ^ 64 → length first < 2 ^ 64 → wrapped (t ⊞ r.tally) ≡ t ⊞ r.tally
    going_fits h k =
        let on = going_on in
        wrapped_fits (t ⊞ r.tally) (omega (arith, on.count, on.inside)) (omega (arith, on.inside)) (omega (arith, on.within, on.same))

-- the front that was written, and the tail that was not read
module _ (S : List ℕ → ℕ → Out) (law : Lawful S) (s first b : List ℕ) (n : ℕ) (counts : n ≡ (run_by S s (length first)).tally.written) (holds : b ≡ sets first 0 (run_by S s (length first)).bytes) where
  pub front : take n b ≡ (run_by S s (length first)).bytes
  front =
      let o = run_by S s (length first) in
      let i = by_within S law s (length first) in
      let w : 0 + length o.bytes ≤ length first = omega (arith, i.fits, i.counts) in
      ap (take n) (holds ∙ sets-eq o.bytes first 0 w) ∙ take_at o.bytes (drop (0 + length o.bytes) first) n (sym (counts ∙ i.counts))

  pub front_length : n ≡ length (take n b)
  front_length = counts ∙ (by_within S law s (length first)).counts ∙ sym (ap length front)

  pub front_in : n ≤ length b
  front_in = omega (arith, ap length holds, length-sets first 0 (run_by S s (length first)).bytes, (by_within S law s (length first)).fits)

module _ (S : List ℕ → ℕ → Out) (law : Lawful S) (s : List ℕ) (room n : ℕ) (counts : n ≡ (run_by S s room).tally.read) where
  pub read_in : n ≤ length s
  read_in = omega (arith, (by_within S law s room).read)
