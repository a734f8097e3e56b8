-- `text::trip::put_line` meets its contract: the head, the digits and the newline, one behind the other. Assumes nothing.
use mathlib.Core.Path.{◌≡◌, refl}
use mathlib.Core.List.{List, [], ◌∷◌, ◌++◌}
use Prim.Native.Nat.{ℕ, ◌+◌, ◌*◌}
use native.Mathlib.Omega.{arith}
use lib.ListN.{length, set, length-append}
use lib.Seq.{sets}
use Rattle.digits.proofs.StoreLaws.{sets_append}
use Rattle.hexadecimal.specs.Hex.{hex}
use Rattle.hexadecimal.proofs.HexLaws.{length_hex}
use Rattle.text.specs.Text.{NEWLINE, closed}
use Rattle.text.proofs.trip.put_line.Goals as goal

-- two runs of stores at the front, one behind the other, and a newline behind them
three : (l m r x y : List ℕ) (a b : ℕ) → length x ≡ a → length y ≡ b → m ≡ sets l 0 x → r ≡ sets m a y → set r (a + b) NEWLINE ≡ sets l 0 (closed (x ++ y))
three l m r x y a b ea eb em er =
    let here : a ≡ 0 + length x = omega arith in
    let both : r ≡ sets l 0 (x ++ y) = rw (er, em, here) (sets_append x y l 0) in
    let n : a + b ≡ 0 + length (x ++ y) = omega (arith, length-append x y) in
    rw (both, n) (sets_append (x ++ y) (NEWLINE ∷ []) l 0)

pub returns : goal.returns
returns c =
    let a = c.args in
    let p = c.put_all in
    let q = c.put in
    three a.text.now p.new.out q.new.s a.head.now (hex (2 * a.width) a.bits) (length a.head.now) (2 * a.width)
    refl (length_hex (2 * a.width) a.bits) p.ensures q.ensures
