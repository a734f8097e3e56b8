-- A reply's bytes: how many they are, what a reader finds in them, whatever follows, and what writing them leaves. Assumes nothing.
use mathlib.Core.Path.{◌≡◌, ap, ◌∙◌}
use mathlib.Core.List.{List, ◌++◌, append_assoc}
use Prim.Native.Nat.{ℕ, suc, ◌+◌, ◌^◌, ◌<◌}
use native.Mathlib.Numerals.{add-one}
use native.Mathlib.Omega.{arith}
use lib.ListN.{length, drop, set, length-append}
use lib.Seq.{sets, drop_at}
use Rattle.digits.specs.Digits.{word, digits}
use Rattle.digits.proofs.DigitLaws.{length_digits, word_digits}
use Rattle.digits.proofs.StoreLaws.{sets_append}
use Rattle.records.specs.Reply.{bytes_of}
use Rattle.records.specs.declared.Reply.{Reply}

pub length_bytes : (r : Reply) → length (bytes_of r) ≡ 1 + r.width + r.more
unfolding bytes_of
length_bytes r =
    let l = length-append (digits r.width r.bits) (digits r.more r.extra) in
    omega (arith, l, length_digits r.width r.bits, length_digits r.more r.extra)

module _ (r : Reply) (t : List ℕ) where
  pub bits_back : r.bits < 256 ^ r.width → word r.width (drop 1 (bytes_of r ++ t)) ≡ r.bits
  unfolding bytes_of
  bits_back h =
      let d = digits r.width r.bits in
      let e = digits r.more r.extra in
      ap (word r.width) (append_assoc d e t) ∙ word_digits r.width r.bits (e ++ t) h

  pub extra_back : r.extra < 256 ^ r.more → word r.more (drop (suc r.width) (bytes_of r ++ t)) ≡ r.extra
  unfolding bytes_of
  extra_back h =
      let d = digits r.width r.bits in
      let e = digits r.more r.extra in
      ap (λ (l : List ℕ). word r.more (drop r.width l)) (append_assoc d e t)
      ∙ ap (word r.more) (drop_at d (e ++ t) r.width (length_digits r.width r.bits))
      ∙ word_digits r.more r.extra t h

-- a head, and behind it two runs of digits
pub wrote : (r : Reply) (at : ℕ) (a b c : List ℕ) → b ≡ sets (set a at r.head) (at + 1) (digits r.width r.bits) →
    c ≡ sets b (at + 1 + r.width) (digits r.more r.extra) → c ≡ sets a at (bytes_of r)
unfolding bytes_of
wrote r at a b c eb ec =
    let d = digits r.width r.bits in
    let e = digits r.more r.extra in
    let l = length_digits r.width r.bits in
    let q : at + 1 + r.width ≡ suc at + length d = omega arith in
    ec ∙ ap (λ (k : ℕ). sets b k e) q
    ∙ ap (λ (x : List ℕ). sets x (suc at + length d) e) (eb ∙ ap (λ (k : ℕ). sets (set a at r.head) k d) (add-one at))
    ∙ sets_append d e (set a at r.head) (suc at)
