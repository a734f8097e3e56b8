-- What the entries of the feed leave; and that its 32 bytes are read and written whole. Assumes nothing.
use mathlib.Core.Path.{◌≡◌, ap, ◌∙◌, subst}
use mathlib.Core.List.{List, ◌++◌, append_assoc}
use Prim.Native.Nat.{ℕ}
use native.Mathlib.Omega.{arith}
use borrow.Author.Tests.{eq-eqb}
use lib.ListN.{length, take, drop}
use lib.Seq.{sets}
use Rattle.digits.specs.Digits.{word, digits}
use Rattle.digits.proofs.DigitLaws.{word_take_all}
use Rattle.records.specs.Codes.{number_s}
use Rattle.feed.specs.Post.{Pushed, Shut, push_s, close_s}
use Rattle.feed.specs.declared.Feed.{Feed}
use Rattle.feed.specs.declared.Fed.{Fed}
use Rattle.feed.specs.declared.Closed.{Closed}
use Rattle.entries.specs.Feed.{feed_at, feed_bytes, push_bytes_s, close_bytes_s, Kept, Told}
use Rattle.entries.proofs.NumberLaws.{first, further, filled}

pub loaded : (s : List ℕ) (x n : ℕ) → x ≡ word 8 (take 8 s) → n ≡ word 8 (take 8 (drop 8 s)) → ◌≡◌ {A = Feed} (record { held = x; length = n }) (feed_at s)
unfolding feed_at
loaded s x n ex en = λ i. record {
  held = (ex ∙ word_take_all 8 8 s (omega arith)) i;
  length = (en ∙ word_take_all 8 8 (drop 8 s) (omega arith)) i;
}

-- four numbers, each behind the one before
pub stored : (f : Feed) (t w : ℕ) (b b₁ b₂ b₃ b₄ : List ℕ) → length b ≡ 32 → b₁ ≡ sets b 0 (digits 8 f.held) → b₂ ≡ sets b₁ 8 (digits 8 f.length) →
    b₃ ≡ sets b₂ 16 (digits 8 t) → b₄ ≡ sets b₃ 24 (digits 8 w) → b₄ ≡ feed_bytes f t w
unfolding feed_bytes
stored f t w b b₁ b₂ b₃ b₄ e p q r s =
    let x = digits 8 f.held in
    let y = digits 8 f.length in
    filled b b₄ _ 32 e (further b b₃ b₄ _ 24 w (further b b₂ b₃ _ 16 t (further b b₁ b₂ _ 8 f.length (first b b₁ f.held p) q) r) s)
    ∙ append_assoc (x ++ y) (digits 8 t) (digits 8 w) ∙ append_assoc x y (digits 8 t ++ digits 8 w)

module _ (feed piece answers : List ℕ) where
  pub push_kept : (f : Feed) (t : Fed) (n : ℕ) (b a : List ℕ) → length feed ≡ 32 → n ≡ number_s t.code → f ≡ feed_at feed → Pushed (push_s f piece answers) t answers a →
      b ≡ feed_bytes t.feed t.taken t.written → Kept (push_bytes_s feed piece answers) n b a
  push_kept f t n b a h k i d e =
      let p : Pushed (push_s (feed_at feed) piece answers) t answers a = subst (λ (y : Feed). Pushed (push_s y piece answers) t answers a) i d in
      rw (eq-eqb (length feed) 32 h) (record { code = k ∙ ap number_s p.code; feed = rw (← p.feed, ← p.taken, ← p.written) e; answers = p.buffer })

module _ (feed : List ℕ) where
  pub close_told : (f : Feed) (t : Closed) (n : ℕ) (b : List ℕ) → length feed ≡ 32 → n ≡ number_s t.code → f ≡ feed_at feed → Shut (close_s f) t → b ≡ feed_bytes t.feed 0 0 →
      Told (close_bytes_s feed) n b
  close_told f t n b h k i d e =
      let p : Shut (close_s (feed_at feed)) t = subst (λ (y : Feed). Shut (close_s y) t) i d in
      rw (eq-eqb (length feed) 32 h) (record { code = k ∙ ap number_s p.code; feed = rw (← p.feed) e })
