-- `digits::get` meets its contract: the lowest bytes of eight are what is left below their power of 256. Assumes nothing.
use mathlib.Core.Path.{◌≡◌, sym, ◌∙◌}
use mathlib.Core.List.{List, []}
use Prim.Native.Nat.{ℕ, ◌+◌, ◌-◌, ◌%◌, ◌^◌, ◌<◌}
use native.Mathlib.Nat.{one-le-pow}
use native.Mathlib.Omega.{arith}
use lib.ListN.{take, drop, get_or, drop_of_length-le}
use lib.Seq.{get_or-drop}
use Rattle.std.proofs.lemmas.List.{take_rest}
use Rattle.digits.specs.Digits.{word}
use Rattle.digits.proofs.DigitLaws.{word_take, word_take_all, word_mod, shifted, word_none}
use Rattle.digits.proofs.get.Goals as goal

-- the w lowest bytes of x, of those from a place on
lowest : (s : List ℕ) (w x p : ℕ) → w < 8 → ((i : ℕ) → get_or s i 0 < 256) → x ≡ word 8 s → p ≡ 256 ^ w → x % p ≡ word 8 (take w s)
lowest s w x p h b ex ep =
    let n : w + (8 - w) ≡ 8 = omega arith in
    let m : word 8 s % 256 ^ w ≡ word w s = rw n at (word_mod w (8 - w) s b) in
    rw (ex, ep) (m ∙ sym (word_take 8 w s (omega arith)))

pub returns-in_default : goal.returns-in_default
returns-in_default c =
    let a = c.args in
    let h = c.in_default.ensures.lookup.0 in
    let e : drop a.at a.s.now ≡ [] = drop_of_length-le a.s.now (omega arith) in
    rw e (sym (word_none 8 a.width))

pub nonzero_rem-result : goal.nonzero_rem-result
nonzero_rem-result c =
    let w = c.args.width in
    let p : 0 < 256 ^ w = one-le-pow w 256 (omega arith) in
    rw (shifted w (omega arith)) p

pub returns-then-width-lt8 : goal.returns-then-width-lt8
returns-then-width-lt8 c =
    let a = c.args in
    let w = a.width in
    let e : c.in-Some.rest.now ≡ drop a.at a.s.now = c.in-Some.ensures.lookup.0.2 ∙ take_rest a.s.now a.at in
    let b : (i : ℕ) → get_or (drop a.at a.s.now) i 0 < 256 = λ i. rw get_or-drop (c.type_inv.s (a.at + i)).fits in
    lowest (drop a.at a.s.now) w _ _ (omega arith) b (rw e at c.eight-x.ensures) (shifted w (omega arith))

pub returns-else-width-lt8 : goal.returns-else-width-lt8
returns-else-width-lt8 c =
    let a = c.args in
    let e : c.in-Some.rest.now ≡ drop a.at a.s.now = c.in-Some.ensures.lookup.0.2 ∙ take_rest a.s.now a.at in
    rw e at c.eight-x.ensures ∙ sym (word_take_all 8 a.width (drop a.at a.s.now) (omega arith))
