-- Numbers of eight bytes written one behind the other, from the front of a lent slice to its end. Assumes nothing.
use mathlib.Core.Path.{◌≡◌, ◌∙◌, ap}
use mathlib.Core.List.{List, ◌++◌, append-nil}
use Prim.Native.Nat.{ℕ, ◌+◌, ◌≤◌}
use native.Mathlib.Omega.{arith}
use lib.ListN.{length, length-append, drop_of_length-le}
use lib.Seq.{sets, sets-eq}
use Rattle.digits.specs.Digits.{digits}
use Rattle.digits.proofs.DigitLaws.{length_digits}
use Rattle.digits.proofs.StoreLaws.{sets_append}

-- c is b with the k bytes x at its front
pub record Front (b c x : List ℕ) (k : ℕ) : Type 0 where
  pub stores : c ≡ sets b 0 x
  pub size : length x ≡ k

pub first : (b c : List ℕ) (n : ℕ) → c ≡ sets b 0 (digits 8 n) → Front b c (digits 8 n) 8
first b c n e = record { stores = e; size = length_digits 8 n }

-- one number more
pub further : (b c d x : List ℕ) (k n : ℕ) → Front b c x k → d ≡ sets c k (digits 8 n) → Front b d (x ++ digits 8 n) (k + 8)
further b c d x k n f e =
    let z : k ≡ 0 + length x = omega (arith, f.size) in
    record {
      stores = e ∙ ap (λ (l : List ℕ). sets l k (digits 8 n)) f.stores ∙ ap (λ (i : ℕ). sets (sets b 0 x) i (digits 8 n)) z ∙ sets_append x (digits 8 n) b 0;
      size = omega (arith, f.size, length-append x (digits 8 n), length_digits 8 n);
    }

-- and nothing is left of what stood there
pub filled : (b c x : List ℕ) (k : ℕ) → length b ≡ k → Front b c x k → c ≡ x
filled b c x k e f =
    let h : 0 + length x ≤ length b = omega (arith, f.size) in
    let g : length b ≤ 0 + length x = omega (arith, f.size) in
    f.stores ∙ sets-eq x b 0 h ∙ ap (λ (t : List ℕ). x ++ t) (drop_of_length-le b g) ∙ append-nil x
