-- The loop of `nearest_root`: each turn takes two binary digits more of a * 2 ^ 52, and finds one more of the root. Assumes nothing.
use mathlib.Core.Path.{◌≡◌, ap, ◌∙◌, subst}
use Prim.Native.Nat.{ℕ, ◌+◌, ◌-◌, ◌*◌, ◌/◌, ◌%◌, ◌^◌, ◌≤◌, ◌<◌}
use native.Mathlib.Nat.{lt_of_lt_of_le, pow-suc}
use native.Mathlib.Numerals.{add-one}
use native.Mathlib.Omega.{arith}
use lib.Pow.{pow_mono}

-- After i turns root * root + rest is what was taken, root its root, and left what is not taken yet, with the next digits on top.
pub record Taken (a left root rest i : ℕ) : Type 0 where
  pub parts : (root * root + rest) * 2 ^ 64 + left ≡ a * 2 ^ 10 * 4 ^ i
  pub within : rest ≤ 2 * root
  pub short : root < 2 ^ i
  pub word : left < 2 ^ 64
  pub turns : i ≤ 53

module _ (a left root rest i : ℕ) (t : Taken a left root rest i) where
  pub root_shorter : i < 53 → root < 2 ^ 52
  root_shorter h = lt_of_lt_of_le t.short (pow_mono (let k : i ≤ 52 = omega arith in k))

  more : 4 ^ (i + 1) ≡ 4 ^ i * 4
  more = ap (λ (z : ℕ). 4 ^ z) (add-one i) ∙ pow-suc 4 i

  longer : 2 ^ (i + 1) ≡ 2 ^ i * 2
  longer = ap (λ (z : ℕ). 2 ^ z) (add-one i) ∙ pow-suc 2 i

  -- the digits that a turn takes
  abbrev next : ℕ
  next = rest * 4 + left / 0x4000000000000000

  abbrev after : ℕ
  after = left % 0x4000000000000000 * 4

  pub digit_one : i < 53 → root * 2 * 2 < next → Taken a after (root * 2 + 1) (next - (root * 2 * 2 + 1)) (i + 1)
  digit_one h g = record {
    parts = rw more (sum (a * 2 ^ 10) (4 ^ i) t.parts);
    within = let k = t.within in let w = t.word in omega arith;
    short = rw longer (let k = t.short in omega arith);
    word = omega arith;
    turns = omega arith;
  }
    where
      sum : (A P : ℕ) → (root * root + rest) * 2 ^ 64 + left ≡ A * P → ((root * 2 + 1) * (root * 2 + 1) + (next - (root * 2 * 2 + 1))) * 2 ^ 64 + after ≡ A * (P * 4)
      sum A P e = omega arith

  pub digit_zero : i < 53 → next ≤ root * 2 * 2 → Taken a after (root * 2) next (i + 1)
  digit_zero h g = record {
    parts = rw more (sum (a * 2 ^ 10) (4 ^ i) t.parts);
    within = omega arith;
    short = rw longer (let k = t.short in omega arith);
    word = omega arith;
    turns = omega arith;
  }
    where
      sum : (A P : ℕ) → (root * root + rest) * 2 ^ 64 + left ≡ A * P → (root * 2 * (root * 2) + next) * 2 ^ 64 + after ≡ A * (P * 4)
      sum A P e = omega arith

  -- ---- after the last turn all is taken
  whole : 53 ≤ i → root * root + rest ≡ a * 2 ^ 52
  whole h = all (subst (λ (z : ℕ). (root * root + rest) * 2 ^ 64 + left ≡ a * 2 ^ 10 * 4 ^ z) (let k : i ≡ 53 = let l = t.turns in omega arith in k) t.parts)
    where
      all : (root * root + rest) * 2 ^ 64 + left ≡ a * 2 ^ 10 * 4 ^ 53 → root * root + rest ≡ a * 2 ^ 52
      all e = let w = t.word in omega arith
