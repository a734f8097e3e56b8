-- `digits::fewer` meets its contract: what was read so far is the word of the bytes passed, from the top down. Assumes nothing.
use mathlib.Core.Path.{◌≡◌, refl, sym, ap, ◌∙◌}
use mathlib.Core.List.{List, [], ◌∷◌, ◌++◌}
use Prim.Native.Nat.{ℕ, suc, ◌+◌, ◌-◌, ◌*◌, ◌^◌, ◌<◌, ◌≤◌}
use native.Mathlib.Omega.{arith}
use lib.ListN.{length, drop, length-append, drop_of_length-le}
use lib.Seq.{drop-append_seam}
use Rattle.std.proofs.Common.{append_assoc, append-nil}
use borrow.Author.Rules.{rules}
use Rattle.digits.specs.Digits.{word}
use Rattle.digits.proofs.DigitLaws.{byte_more, below_64, word_short}
use Rattle.digits.proofs.fewer.Goals as goal

-- the byte in front of those passed
module _ (s front rest : List ℕ) (b : ℕ) (e : front ≡ rest ++ (b ∷ [])) (h : front ++ drop (length front) s ≡ s) where
  all : s ≡ rest ++ (b ∷ drop (length front) s)
  all = sym h ∙ ap (λ (l : List ℕ). l ++ drop (length front) s) e ∙ append_assoc rest (b ∷ []) (drop (length front) s)

  passed : drop (length rest) s ≡ b ∷ drop (length front) s
  passed = ap (drop (length rest)) all ∙ drop-append_seam rest (b ∷ drop (length front) s)

  one_less : length front ≡ suc (length rest)
  one_less = ap length e ∙ length-append rest (b ∷ []) ∙ omega arith

  inside : length front ≤ length s
  inside = let l = ap length h in let k = length-append front (drop (length front) s) in omega arith

  more : (x : ℕ) → x ≡ word (length s - length front) (drop (length front) s) → x * 256 + b ≡ word (length s - length rest) (drop (length rest) s)
  unfolding word
  more x ex =
      let n : length s - length rest ≡ suc (length s - length front) = omega (arith, one_less, inside) in
      rw (n, passed, ex) (omega arith)

pub loop-byte-init : goal.loop-byte-init
unfolding word
loop-byte-init c =
    let s = c.args.s.now in
    let e : c.into_iter-byte-iterator.result.iter.rest.now ≡ s = search rules in
    let z : length s - length s ≡ 0 = omega arith in
    let d : drop (length s) s ≡ [] = drop_of_length-le s (omega arith) in
    rw (e, z, d) (append-nil s, (refl, omega arith))

-- a byte more of fewer than eight still fits
fits_more : (n x b : ℕ) → suc n ≤ 8 → x < 256 ^ n → b < 256 → x * 256 + b < 2 ^ 64
fits_more n x b h e l = below_64 (suc n) (x * 256 + b) h (byte_more n x b e l)

pub overflow_mul-x : goal.overflow_mul-x
overflow_mul-x c =
    let l = c.loop-byte in
    let n = length c.args.s.now - length l.byte-iterator.iter.rest.now in
    let f = fits_more n l.x 0 (omega (arith, c.requires)) l.invariant.1.1 (omega arith) in
    record { fits = omega (arith, f) }

pub overflow_add-x : goal.overflow_add-x
overflow_add-x c =
    let l = c.loop-byte in
    let n = length c.args.s.now - length l.byte-iterator.iter.rest.now in
    record { fits = fits_more n l.x c.in-Some.byte.now (omega (arith, c.requires)) l.invariant.1.1 (omega arith) }

pub loop-byte-preserved : goal.loop-byte-preserved
loop-byte-preserved c =
    let s = c.args.s.now in
    let l = c.loop-byte in
    let front = l.byte-iterator.iter.rest.now in
    let rest = c.next.new.self.iter.rest.now in
    let b = c.in-Some.byte.now in
    let e : front ≡ rest ++ (b ∷ []) = c.in-Some.ensures.steps in
    let h = l.invariant.0 in
    let n : length s - length rest ≡ suc (length s - length front) = omega (arith, one_less s front rest b e h, inside s front rest b e h) in (
      rw (passed s front rest b e h) (sym (all s front rest b e h)),
      (more s front rest b e h l.x l.invariant.1.0, rw n (byte_more (length s - length front) l.x b l.invariant.1.1 (omega arith))),
    )

pub returns : goal.returns
returns c =
    let l = c.loop-byte in
    let s = c.args.s.now in
    let z : length l.byte-iterator.iter.rest.now ≡ 0 = c.in-None.ensures.steps.0 in
    let n : length s - 0 ≡ length s = omega arith in
    rw (z, n) at l.invariant.1.0 ∙ word_short 8 s (omega (arith, c.requires))
