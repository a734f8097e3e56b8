-- `digits::put` meets its contract: what is stored and what is left to store are all the digits for which there is room. Assumes nothing.
use mathlib.Core.Path.{◌≡◌, sym, ap, ◌∙◌}
use mathlib.Core.List.{List, ◌++◌}
use Prim.Native.Nat.{ℕ, ◌+◌, ◌-◌, ◌/◌, ◌%◌, ◌≤◌, ◌<◌, min}
use native.Mathlib.Omega.{arith}
use lib.ListN.{length, take, set, length-set}
use Rattle.std.proofs.Common.{append_assoc, append-nil}
use Rattle.std.proofs.lemmas.List.{take_all, take_more_set}
use Rattle.digits.specs.Digits.{digits}
use Rattle.digits.proofs.DigitLaws.{digits_take, length_digits, digits_more, to_le_digits}
use Rattle.digits.proofs.StoreLaws.{sets_out, sets_part}
use borrow.Rule.Slice.PartMut.{put_mid}
use lib.Seq.{sets}
use Rattle.digits.proofs.put.Goals as goal

-- a digit more is stored, and one less is left
stored : (p d : List ℕ) (i x : ℕ) → i < length p → take i p ++ digits (length p - i) x ≡ d → take (i + 1) (set p i (x % 256)) ++ digits (length p - (i + 1)) (x / 256) ≡ d
stored p d i x h e =
    let n : length p - (i + 1) ≡ length p - i - 1 = omega arith in
    rw (take_more_set p i (x % 256) h, append_assoc, n) (ap (λ (k : List ℕ). take i p ++ k) (sym (digits_more (length p - i) x (omega arith))) ∙ e)

-- where none is left, all are stored
all_stored : (p : List ℕ) (i m x y : ℕ) → length p ≤ i → length p ≡ m → take i p ++ digits (length p - i) x ≡ digits (length p) y → p ≡ digits m y
unfolding digits
all_stored p i m x y h n e =
    let z : length p - i ≡ 0 = omega arith in
    rw (← n) (rw (take_all i p h, z, append-nil) at e)

-- the part has as many digits as have room
all_part : (l b : List ℕ) (i w x m : ℕ) → i ≤ length l → m ≡ min w (length l - i) → b ≡ digits m x → put_mid i (i + m - i) l b ≡ sets l i (digits w x)
all_part l b i w x m h e d =
    let n = length_digits w x in
    sets_part l (digits w x) b i m h (omega arith) (d ∙ digits_take m w x (omega arith))

pub returns-then-s-at : goal.returns-then-s-at
returns-then-s-at c = let a = c.args in sym (sets_out (digits a.width a.x) a.s.now a.at c.if-s-at.true)

pub returns-then-part-eq8 : goal.returns-then-part-eq8
returns-then-part-eq8 c =
    let a = c.args in
    let m : c.min.result ≡ 8 = omega arith in
    let e : c.copy_from_slice.new.self ≡ digits c.min.result a.x = rw m (c.copy_from_slice.ensures.after ∙ c.to_le_bytes.ensures ∙ to_le_digits a.x) in
    all_part a.s.now _ a.at a.width a.x c.min.result (omega arith) c.min.ensures e

pub loop-byte-preserved : goal.loop-byte-preserved
loop-byte-preserved c =
    let l = c.loop-byte in
    rw length-set (stored l.part _ l.byte-index l.left (omega arith) l.invariant)

pub returns : goal.returns
returns c =
    let a = c.args in
    let l = c.loop-byte in
    all_part a.s.now _ a.at a.width a.x c.min.result (omega arith) c.min.ensures (all_stored _ l.byte-index _ l.left a.x (omega arith) (omega arith) l.invariant)
