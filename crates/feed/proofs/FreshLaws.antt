-- A batch over a piece, and what it left: the report of a call that held nothing. Over any table. Assumes nothing.
use mathlib.Core.Path.{◌≡◌, sym, ap, ◌∙◌, subst}
use mathlib.Core.List.{List, [], ◌∷◌, ◌++◌, append-nil}
use Prim.Native.Nat.{ℕ, ◌+◌, ◌-◌, ◌≤◌, ◌<◌}
use native.Mathlib.Omega.{arith}
use lib.ListN.{length, drop, get_or, length-drop}
use lib.Seq.{sets, get_or-drop}
use native.Mathlib.Nat.{add-zero}
use Rattle.records.specs.Codes.{number_s}
use Rattle.records.specs.declared.Code.{Code}
use Rattle.records.specs.declared.Code.TheVariants.{Done, Unknown, Cut, Full}
use Rattle.records.specs.Row.{Row, row_in}
use Rattle.records.specs.Run.{Out, run}
use Rattle.records.specs.Did.{Did}
use Rattle.records.specs.declared.Report.{Report}
use Rattle.records.specs.declared.Tally.{Tally}
use Rattle.records.proofs.RunLaws.{run_within}
use Rattle.records.proofs.SplitLaws.{run_ends}
use Rattle.feeding.specs.Feed.{Call, goes, takes}
use Rattle.feeding.proofs.RecordLaws.{ending, takes_run, refused}
use Rattle.feed.specs.Fields.{fields}
use Rattle.feed.specs.Post.{Pushed}
use Rattle.feed.specs.declared.Fed.{Fed}

module _ (T : List Row) (p a b : List ℕ) (t : Report Code) (did : Did (run T p (length a)) t 0 a b) where
  abbrev o : Out
  o = run T p (length a)

  -- what the batch left
  abbrev pub rest : List ℕ
  rest = drop t.tally.read p

  read_is : o.tally.read ≡ t.tally.read
  read_is = ap (λ (y : Tally). y.read) (sym did.tally)

  pub inside : t.tally.read ≤ length p
  inside = omega (arith, read_is, (run_within T p (length a)).read)

  -- the report of a call that ends so
  pub pushed_run : (e : Call) (r : Fed) → ending T rest t.code ≡ e → e.bytes ≡ [] → r.feed ≡ fields e.feed → r.taken ≡ t.tally.read + e.taken →
      r.written ≡ t.tally.written → r.code ≡ e.code → Pushed (takes T [] p (length a)) r a b
  pushed_run e r i n f k w c =
      let x : o.bytes ++ e.bytes ≡ o.bytes = ap (λ (y : List ℕ). o.bytes ++ y) n ∙ append-nil o.bytes in
      let q : takes T [] p (length a) ≡ goes t.tally.read o.bytes e =
      takes_run T p (length a) ∙ ap (λ (m : ℕ). goes m o.bytes (ending T (drop m p) o.code)) read_is
      ∙ ap (λ (m : Code). goes t.tally.read o.bytes (ending T rest m)) (sym did.code)
      ∙ ap (goes t.tally.read o.bytes) i in
      subst (λ (y : Call). Pushed y r a b) (sym q)
      (record {
        feed = f;
        taken = k;
        written = w ∙ ap (λ (y : Tally). y.written) did.tally ∙ (run_within T p (length a)).counts ∙ ap length (sym x);
        code = c;
        buffer = did.buffer ∙ ap (sets a 0) (sym x);
      })

  -- what its code says of what is left
  by_code : (P : Code → Type 0) →
      (rest ≡ [] → P Done) →
      ((k : ℕ) (s : List ℕ) → rest ≡ k ∷ s → P Unknown) →
      ((k : ℕ) (s : List ℕ) → rest ≡ k ∷ s → length s < (row_in T k).width → P Cut) →
      ((k : ℕ) (s : List ℕ) → rest ≡ k ∷ s → (row_in T k).width ≤ length s → P Full) →
      P t.code
  by_code P none unknown cut full =
      let i : drop o.tally.read p ≡ rest = ap (λ (m : ℕ). drop m p) read_is in
      subst P (sym did.code)
      (refused T (drop o.tally.read p) (length a - o.tally.written) o.code (run_ends T p (length a)) P
      (λ e. none (sym i ∙ e)) (λ k s e _. unknown k s (sym i ∙ e)) (λ k s e l. cut k s (sym i ∙ e) l) (λ k s e _ l _. full k s (sym i ∙ e) l))

  -- the kind of the record that was refused
  pub kind_is : get_or rest 0 0 ≡ get_or p t.tally.read 0
  kind_is = get_or-drop t.tally.read p 0 0 ∙ ap (λ (j : ℕ). get_or p j 0) (add-zero t.tally.read)

  -- for want of room: all of it is there
  pub left_full : t.code ≡ Full → (t.tally.read < length p) × (t.tally.read + (row_in T (get_or p t.tally.read 0)).width ≤ length p)
  left_full =
      by_code (λ (n : Code). n ≡ Full → (t.tally.read < length p) × (t.tally.read + (row_in T (get_or p t.tally.read 0)).width ≤ length p))
      (λ _ z. let y : ◌≡◌ {A = ℕ} 0 3 = ap number_s z in absurd (omega arith))
      (λ _ _ _ z. let y : ◌≡◌ {A = ℕ} 1 3 = ap number_s z in absurd (omega arith))
      (λ _ _ _ _ z. let y : ◌≡◌ {A = ℕ} 2 3 = ap number_s z in absurd (omega arith))
      (λ k s e l _.
      let n = ap length e in
      let d = length-drop t.tally.read p in
      let g : (row_in T (get_or p t.tally.read 0)).width ≡ (row_in T k).width = ap (λ (j : ℕ). (row_in T j).width) (sym kind_is ∙ ap (λ (y : List ℕ). get_or y 0 0) e) in
      (omega arith, omega arith))
