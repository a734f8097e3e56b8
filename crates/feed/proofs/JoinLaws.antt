-- The bytes of a record that has begun, written one part behind the other. Assumes nothing.
use mathlib.Core.Path.{◌≡◌, ap, ◌∙◌}
use mathlib.Core.List.{List, ◌++◌}
use Prim.Native.Nat.{ℕ, ◌+◌, ◌≤◌, ◌<◌}
use native.Mathlib.Omega.{arith}
use lib.ListN.{length, take, drop, get_or, length-append}
use lib.Seq.{sets, sets-eq, take_at, length-take-le}
use Rattle.digits.specs.Digits.{word, digits}
use Rattle.digits.proofs.DigitLaws.{length_digits, word_take, digits_word}
use Rattle.digits.proofs.StoreLaws.{sets_append}

-- the first n bytes of a piece, read as a number and written again
copied : (p : List ℕ) (n : ℕ) → ((i : ℕ) → get_or p i 0 < 256) → n ≤ 8 → n ≤ length p → digits n (word 8 (take n p)) ≡ take n p
copied p n b h l = ap (digits n) (word_take 8 n p h) ∙ digits_word n p l b

-- b is z with the digits of x written at the front, c is b with those of y behind them, where y is what the first n bytes of p make
pub joined_is : (z p b c : List ℕ) (x y have n : ℕ) → ((i : ℕ) → get_or p i 0 < 256) → have + n ≤ length z → n ≤ 8 → n ≤ length p →
    b ≡ sets z 0 (digits have x) → y ≡ word 8 (take n p) → c ≡ sets b have (digits n y) → take (have + n) c ≡ digits have x ++ take n p
joined_is z p b c x y have n bytes fits h l eb ey ec =
    let d = digits have x in
    let ld = length_digits have x in
    let lt = length-take-le n p l in
    let la = length-append d (take n p) in
    let k : have ≡ 0 + length d = omega arith in
    let e : c ≡ sets z 0 (d ++ take n p) =
    ec ∙ ap (sets b have) (ap (digits n) ey ∙ copied p n bytes h l) ∙ ap (λ (s : List ℕ). sets s have (take n p)) eb
    ∙ ap (λ (j : ℕ). sets (sets z 0 d) j (take n p)) k ∙ sets_append d (take n p) z 0 in
    ap (take (have + n)) (e ∙ sets-eq (d ++ take n p) z 0 (omega arith))
    ∙ take_at (d ++ take n p) (drop (0 + length (d ++ take n p)) z) (have + n) (omega arith)
