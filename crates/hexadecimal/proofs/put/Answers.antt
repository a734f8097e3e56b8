-- `hexadecimal::put` meets its contract: what is stored are the digits for which there is room. Assumes nothing.
use mathlib.Core.Path.{◌≡◌, sym, ap, ◌∙◌}
use mathlib.Core.List.{List, ◌++◌, ◌∷◌, []}
use Prim.Native.Nat.{ℕ, ◌+◌, ◌-◌, ◌/◌, ◌%◌, ◌^◌, ◌≤◌, ◌<◌, min}
use native.Mathlib.Nat.{mod-lt}
use native.Mathlib.Omega.{arith}
use borrow.Rule.Slice.PartMut.{put_mid}
use lib.ListN.{length, take, set, get_or}
use lib.Seq.{sets}
use Rattle.std.proofs.lemmas.List.{take_all, take_more, take_more_set}
use Rattle.digits.proofs.StoreLaws.{sets_out, sets_part}
use Rattle.hexadecimal.specs.Hex.{char_of, hex}
use Rattle.hexadecimal.proofs.HexLaws.{length_hex, hex_at}
use Rattle.hexadecimal.proofs.put.Goals as goal

-- a digit more is stored
stored : (p : List ℕ) (i w x v : ℕ) → i < length p → i < w → v ≡ char_of (x / 16 ^ (w - 1 - i) % 16) → take i p ≡ take i (hex w x) → take (i + 1) (set p i v) ≡ take (i + 1) (hex w x)
stored p i w x v h l ev e =
    let n = length_hex w x in
    let t : take (i + 1) (hex w x) ≡ take i (hex w x) ++ (get_or (hex w x) i 0 ∷ []) = take_more (hex w x) i 0 (omega arith) in
    rw (take_more_set p i v h, t, e, hex_at w x i l, ev)

-- where none is left, all are stored that have room
all_part : (l p : List ℕ) (at i w x m : ℕ) → at ≤ length l → m ≡ min w (length l - at) → length p ≡ m → i ≡ m → take i p ≡ take i (hex w x) → put_mid at (at + m - at) l p ≡ sets l at (hex w x)
all_part l p at i w x m h em ep ei e =
    let n = length_hex w x in
    let q : p ≡ take m (hex w x) = sym (take_all i p (omega arith)) ∙ e ∙ rw ei in
    sets_part l (hex w x) p at m h (omega arith) q

pub returns-then-s-at : goal.returns-then-s-at
returns-then-s-at c = let a = c.args in sym (sets_out (hex a.width a.x) a.s.now a.at c.if-s-at.true)

pub character-requires : goal.character-requires
character-requires c = rw c.digit_of.ensures (mod-lt _ (omega arith))

pub loop-i-preserved : goal.loop-i-preserved
loop-i-preserved c =
    let a = c.args in
    let l = c.loop-i in
    stored l.part l.i a.width a.x _ (omega arith) (omega arith) (c.character.ensures ∙ ap char_of c.digit_of.ensures) l.invariant

pub returns : goal.returns
returns c =
    let a = c.args in
    let l = c.loop-i in
    all_part a.s.now l.part a.at l.i a.width a.x c.min.result (omega arith) c.min.ensures (omega arith) (omega arith) l.invariant
