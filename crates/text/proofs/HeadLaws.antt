-- The tests of a line in the code's order: a head by `strip_prefix`, and the number of digits. Assumes nothing.
use Rattle.std.specs.Prelude.{Option, if◌then◌else◌}
use mathlib.Core.Path.{◌≡◌, refl}
use mathlib.Core.Bool.{Bool, true, false}
use mathlib.Core.List.{List, [], ◌∷◌}
use Prim.Native.Nat.{ℕ}
use borrow.Author.Tests.{eq-eqb, ne_eqb}
use lib.ListN.{length, take, drop}
use Rattle.std.proofs.Common.{nat_eq}
use Rattle.std.specs.Cmp.Lexicographic.{pointwise}
use mathlib.Core.Bool.{◌&&◌}
use Rattle.words.specs.Tests.{◌=?◌}
use Rattle.hexadecimal.specs.Hex.{number_s}
use Rattle.text.specs.Line.{digits_of, begins, ask_of, asked_by, asked_as, Bad}

-- a head: the front of the line is that, byte by byte
pub begins_is : (p s : List ℕ) → pointwise nat_eq (take (length p) s) p ≡ begins p s
unfolding begins
begins_is [] s = refl
begins_is (a ∷ p) [] = refl
begins_is (a ∷ p) (b ∷ s) = by (b =? a) _ _ (begins_is p s)
  where
    by : (t x y : Bool) → x ≡ y → (t && x) ≡ (if t then y else false)
    by true x y e = e
    by false x y e = refl

pub as_not : (p : List ℕ) (k : ℕ) (s : List ℕ) → begins p s ≡ false → asked_as p k s ≡ Bad
unfolding asked_as
as_not p k s e = rw e

pub as_so : (p : List ℕ) (k : ℕ) (s : List ℕ) → begins p s ≡ true → asked_as p k s ≡ asked_by k (drop (length p) s)
unfolding asked_as
as_so p k s e = rw e

-- the digits behind it
pub by_length : (k : ℕ) (d : List ℕ) → (length d ≡ digits_of k → ⊥) → asked_by k d ≡ Bad
by_length k d h = rw (ne_eqb (length d) (digits_of k) h)

pub by_number : (k : ℕ) (d : List ℕ) (x : Option ℕ) → length d ≡ digits_of k → number_s d ≡ x → asked_by k d ≡ ask_of k x
by_number k d x l e = rw (eq-eqb (length d) (digits_of k) l, e)
