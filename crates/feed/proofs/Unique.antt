-- Each public contract determines its answer: any two answers that it allows for the same arguments coincide. Assumes nothing.
use mathlib.Core.Path.{◌≡◌, sym, ◌∙◌}
use contract.Lifetimes.{Lfts}
use Rattle.feed.specs.declared.Feed.{Feed}
use Rattle.feed.specs.declared.Fed.{Fed}
use Rattle.feed.specs.declared.Closed.{Closed}
use Rattle.feed.proofs.Feed.empty.Reads as empty
use Rattle.feed.proofs.Feed.push.Reads as push
use Rattle.feed.proofs.Feed.close.Reads as close

pub empty_determined : (κs : Lfts 0) (a : _) (r r' : Feed) (s s' : _) → empty.Post κs a r s → empty.Post κs a r' s' → r ≡ r'
empty_determined κs a r r' s s' p q = p ∙ sym q

-- the next feed, the counts and the code, and every byte of the answer buffer
pub push_determined : (κs : Lfts 2) (a : _) (r r' : Fed) (s s' : _) → push.Post κs a r s → push.Post κs a r' s' →
    (r ≡ r') × (s.1.1.0.now ≡ s'.1.1.0.now)
push_determined κs a r r' s s' p q = (
  (λ i. record {
    feed = (p.feed ∙ sym q.feed) i;
    taken = (p.taken ∙ sym q.taken) i;
    written = (p.written ∙ sym q.written) i;
    code = (p.code ∙ sym q.code) i;
  }),
  p.buffer ∙ sym q.buffer,
)

pub close_determined : (κs : Lfts 0) (a : _) (r r' : Closed) (s s' : _) → close.Post κs a r s → close.Post κs a r' s' → r ≡ r'
close_determined κs a r r' s s' p q = λ i. record { feed = (p.feed ∙ sym q.feed) i; code = (p.code ∙ sym q.code) i }
