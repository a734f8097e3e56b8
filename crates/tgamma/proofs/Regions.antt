-- tgamma region by region, for a finite x = ±(m * 2 ^ e) that is no negative whole number: `course` says which formula gives the answer, and what is known
-- of x there. (The others: SpecialValues.) Assumes nothing.
use mathlib.Core.Path.{◌≡◌, refl, sym, ◌∙◌}
use Prim.Native.Nat.{ℕ, ◌-◌, ◌*◌, ◌%◌, ◌<◌, ◌≤◌}
use native.Mathlib.Omega.{arith}
use mathlib.Core.Bool.{Bool, true, false, cond, true≢false}
use lib.IntN.{ℤ, pos, negsuc}
use lib.ListN.{get_or}
use lib.Dec.{T, ltb, leb, ltb→lt, lit<}
use lib.Ieee.{Float, nan, fin, binary64, up, down, eq, le, fits, of_bits}
use lib.Ieee.Bits.{is_true}
use lib.Ieee.Positive.{above_of_le}
use borrow.Author.Tests.{lt-leb, ltb-true, ltb-false, leb-true, leb-false}
use Rattle.rounding.proofs.Range.{In}
use Rattle.words.specs.F64.{◌⊗◌, ◌⊘◌, 1·0}
use Rattle.words.specs.Bits.{size_word_s}
use Rattle.floor.specs.Floor.{floor_s}
use Rattle.words.proofs.CutLaws.{word_under, from_word, upto_word, sign_of_is}
use Rattle.floor.proofs.FloorValues.{floor_differs}
use Rattle.whole.proofs.WholeBounds.{Plus}
use Rattle.tgamma.specs.Tgamma.{FACT, tgamma_s, integer_s, general_s, vanished_s, lanczos_s, x1p1023, 23·0}
use Rattle.tgamma.proofs.FactIndex.{fact_index}

-- 2 ^ -54 and 184
abbrev pub from_54 : Float
from_54 = fin false 1 (negsuc 53)

abbrev pub to184 : Float
to184 = fin false 23 (pos 3)

-- x from 2 ^ -54 to 184
abbrev pub Middle : Float → Type 0
Middle x = In from_54 to184 x

-- what the answer is, for x = ±(m * 2 ^ e), with a minus sign where s is true
pub data Course (s : Bool) (m : ℕ) (e : ℤ) : Float → Type 0 where
  -- up to 2 ^ -54 in size, the zeros among them
  tiny : T (le (fin false m e) from_54) → Course s m e (1·0 ⊘ fin s m e)
  -- a whole number q from 1 to 23
  factorial : s ≡ false → (q : ℕ) → 1 ≤ q → q ≤ 23 → Course s m e (get_or FACT (q - 1) nan)
  -- from 184 on in size
  overflown : s ≡ false → Course s m e (fin s m e ⊗ x1p1023)
  vanished : s ≡ true → T (le to184 (fin false m e)) → Course s m e (vanished_s (fin s m e))
  -- between: the Lanczos formula
  lanczos : Middle (fin false m e) → Course s m e (lanczos_s (fin s m e) (cond s 1 0))

-- ---- from 2 ^ -54 on
from_tiny : (s : Bool) (m : ℕ) (e : ℤ) → T (fits binary64 (fin s m e)) → ltb (size_word_s (fin s m e)) 0x3C900000 ≡ false → T (le from_54 (fin false m e))
unfolding of_bits
from_tiny s m e F t = let w = ltb-false (size_word_s (fin s m e)) 0x3C900000 t in from_word s m e F 0x3C90000000000000 (omega arith)

from184 : (s : Bool) (m : ℕ) (e : ℤ) → T (fits binary64 (fin s m e)) → leb 0x40670000 (size_word_s (fin s m e)) ≡ true → T (le to184 (fin false m e))
unfolding of_bits
from184 s m e F u = let w = leb-true 0x40670000 (size_word_s (fin s m e)) u in from_word s m e F 0x4067000000000000 (omega arith)

below184 : (s : Bool) (m : ℕ) (e : ℤ) → T (fits binary64 (fin s m e)) → leb 0x40670000 (size_word_s (fin s m e)) ≡ false → T (le (fin false m e) to184)
unfolding of_bits
below184 s m e F u = upto_word s m e F 0x4067000000000000 (lit< tt) (leb-false 0x40670000 (size_word_s (fin s m e)) u)

general : (s : Bool) (m : ℕ) (e : ℤ) → T (fits binary64 (fin s m e)) → ltb (size_word_s (fin s m e)) 0x3C900000 ≡ false
    → (b : Bool) → leb 0x40670000 (size_word_s (fin s m e)) ≡ b → Course s m e (general_s (fin s m e) (size_word_s (fin s m e)) (cond s 1 0))
unfolding general_s
general false m e F t true u = rw u (overflown refl)
general true m e F t true u = rw u (vanished refl (from184 true m e F u))
general false m e F t false u = rw u (lanczos (from_tiny false m e F t, below184 false m e F u))
general true m e F t false u = rw u (lanczos (from_tiny true m e F t, below184 true m e F u))

-- a whole number with no minus sign
integer : (m : ℕ) (e : ℤ) → T (fits binary64 (fin false m e)) → ltb (size_word_s (fin false m e)) 0x3C900000 ≡ false
    → eq (fin false m e) (floor_s binary64 (fin false m e)) ≡ true → (b : Bool) → le (fin false m e) 23·0 ≡ b
    → Course false m e (integer_s (fin false m e) (size_word_s (fin false m e)) 0)
unfolding integer_s
integer m e F t h true k =
    let p : Plus 1 23 (fin false m e) = fact_index (fin false m e) (is_true _ F) (h, ltb-false _ _ t, not_one (sign_of_is binary64 false m e F), k) in
    rw (k, p.is) (factorial refl p.q p.from p.upto)
  where
    not_one : {n : ℕ} → n ≡ 0 → n ≡ 1 → ⊥
    not_one h k = omega arith
integer m e F t h false k = rw k (general false m e F t _ refl)

-- ---- the theorem
reached : (s : Bool) (m : ℕ) (e : ℤ) → T (fits binary64 (fin s m e)) → (s ≡ true → 0 < m → m * up e % down e ≡ 0 → ⊥)
    → ltb (size_word_s (fin s m e)) 0x3C900000 ≡ false → (b : Bool) → eq (fin s m e) (floor_s binary64 (fin s m e)) ≡ b → Course s m e (tgamma_s (fin s m e))
unfolding tgamma_s
reached false m e F n t true h =
    rw (lt-leb 0x7FF00000 _ (word_under false m e F), t, h, sign_of_is binary64 false m e F) (integer m e F t h _ refl)
reached true m e F n t true h =
    absurd (true≢false (sym h ∙ floor_differs binary64 true m e F (n refl (ltb→lt 0 m (above_of_le from_54 (fin false m e) tt (from_tiny true m e F t))))))
reached false m e F n t false h =
    rw (lt-leb 0x7FF00000 _ (word_under false m e F), t, h, sign_of_is binary64 false m e F) (general false m e F t _ refl)
reached true m e F n t false h =
    rw (lt-leb 0x7FF00000 _ (word_under true m e F), t, h, sign_of_is binary64 true m e F) (general true m e F t _ refl)

near_zero : (s : Bool) (m : ℕ) (e : ℤ) → T (fits binary64 (fin s m e)) → ltb (size_word_s (fin s m e)) 0x3C900000 ≡ true → Course s m e (tgamma_s (fin s m e))
unfolding tgamma_s of_bits
near_zero s m e F t =
    rw (lt-leb 0x7FF00000 _ (word_under s m e F), t) (tiny (upto_word s m e F 0x3C90000000000000 (lit< tt) (ltb-true (size_word_s (fin s m e)) 0x3C900000 t)))

pub course : (s : Bool) (m : ℕ) (e : ℤ) → T (fits binary64 (fin s m e)) → (s ≡ true → 0 < m → m * up e % down e ≡ 0 → ⊥)
    → Course s m e (tgamma_s (fin s m e))
course s m e F n = go (ltb (size_word_s (fin s m e)) 0x3C900000) refl
  where
    go : (b : Bool) → ltb (size_word_s (fin s m e)) 0x3C900000 ≡ b → Course s m e (tgamma_s (fin s m e))
    go true t = near_zero s m e F t
    go false t = reached s m e F n t _ refl
