-- `hexadecimal::get` meets its contract: what the rest says behind the digits read is what the text says. Assumes nothing.
use Rattle.std.specs.Prelude.{Some, None}
use mathlib.Core.Path.{◌≡◌, sym, ◌∙◌}
use mathlib.Core.List.{List}
use Prim.Native.Nat.{ℕ, suc, ◌+◌, ◌*◌, ◌^◌, ◌≤◌, ◌<◌}
use native.Mathlib.Nat.{pow-suc, pow-le-pow_right, add-mul, add_assoc}
use native.Mathlib.Numerals.{add-one}
use native.Mathlib.Omega.{arith}
use borrow.Author.Tests.{lt-ltb, le-ltb, le-leb}
use lib.ListN.{length, drop, get_or, drop_of_length-le}
use lib.Seq.{drop-cons}
use Rattle.hexadecimal.specs.Hex.{digit_of, digit_s, all_hex, value, number_s}
use Rattle.hexadecimal.proofs.HexLaws.{one_higher, digit_is, digit_none}
use Rattle.hexadecimal.proofs.get.Invariants.{behind}
use Rattle.hexadecimal.proofs.get.Goals as goal

-- behind digits that make x: at the start, at the end, at a digit, at another character
behind_none : (s : List ℕ) → length s ≤ 16 → behind 0 s ≡ number_s s
unfolding behind number_s
behind_none s h = let e : 0 * 16 ^ length s + value s ≡ value s = omega arith in rw (e, le-leb (length s) 16 h)

behind_all : (x i : ℕ) (s : List ℕ) → length s ≤ i → behind x (drop i s) ≡ Some x
unfolding behind all_hex value
behind_all x i s h = let e : x * 16 ^ 0 + 0 ≡ x = omega arith in rw (drop_of_length-le s h, e)

behind_digit : (x i d : ℕ) (s : List ℕ) → i < length s → digit_s (get_or s i 0) ≡ Some d → behind (x * 16 + d) (drop (i + 1) s) ≡ behind x (drop i s)
unfolding behind all_hex value
behind_digit x i d s h e =
    let t = digit_is (get_or s i 0) d e in
    let k : digit_of (get_or s i 0) < 16 = omega (arith, t.0, t.1) in
    rw (← t.0, add-one, drop-cons s i 0 h, lt-ltb _ 16 k, one_higher, add-mul, add_assoc)

behind_other : (x i : ℕ) (s : List ℕ) → i < length s → digit_s (get_or s i 0) ≡ None → behind x (drop i s) ≡ None
unfolding behind all_hex
behind_other x i s h e = rw (drop-cons s i 0 h, le-ltb _ 16 (digit_none _ e))

-- one digit more
more : (i x d : ℕ) → x < 16 ^ i → d < 16 → x * 16 + d < 16 ^ suc i
more i x d h l = rw pow-suc (omega arith)

-- 16 digits fit 64 bits
fits : (i x d : ℕ) → i < 16 → x < 16 ^ i → d < 16 → x * 16 + d < 18446744073709551616
fits i x d l h k =
    let p : 16 ^ suc i ≤ 16 ^ 16 = pow-le-pow_right (omega arith) l in
    omega (arith, more i x d h k)

pub loop-c-init : goal.loop-c-init
loop-c-init c = (omega arith, behind_none c.args.s.now (omega arith))

pub returns-in_err-d : goal.returns-in_err-d
returns-in_err-d c =
    let l = c.loop-c in
    let o = behind_other l.x l.c-index c.args.s.now (omega arith) (sym c.in_err-d.ensures) in
    c.from_residual.ensures ∙ sym o ∙ l.invariant.1

pub overflow_mul-x : goal.overflow_mul-x
overflow_mul-x c = let l = c.loop-c in record { fits = omega (arith, fits l.c-index l.x 0 (omega arith) l.invariant.0 (omega arith)) }

pub overflow_add-x : goal.overflow_add-x
overflow_add-x c =
    let l = c.loop-c in
    let d = digit_is _ c.in_ok-d.d (sym c.in_ok-d.ensures) in
    record { fits = omega (arith, fits l.c-index l.x c.in_ok-d.d (omega arith) l.invariant.0 d.1) }

pub loop-c-preserved : goal.loop-c-preserved
loop-c-preserved c =
    let l = c.loop-c in
    let e = sym c.in_ok-d.ensures in
    let d = digit_is _ c.in_ok-d.d e in
    (rw add-one (more l.c-index l.x c.in_ok-d.d l.invariant.0 d.1), behind_digit l.x l.c-index c.in_ok-d.d c.args.s.now (omega arith) e ∙ l.invariant.1)

pub returns : goal.returns
returns c = let l = c.loop-c in sym (behind_all l.x l.c-index _ c.loop-c-test.false) ∙ l.invariant.1
