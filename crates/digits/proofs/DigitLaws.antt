-- Laws of `digits` and `word`, over the width. Assumes nothing.
use mathlib.Core.Path.{◌≡◌, refl, sym, ap, ◌∙◌}
use mathlib.Core.List.{List, [], ◌∷◌, ◌++◌}
use Prim.Native.Nat.{ℕ, zero, suc, ◌+◌, ◌-◌, ◌*◌, ◌^◌, ◌/◌, ◌%◌, ◌≤◌, ◌<◌}
use native.Mathlib.Nat.{zero-add, suc-add, zero-mul, suc-mul, one-mul, pow-zero, pow-suc, pow-le-pow_right, one-le-pow, mod-eq_of_lt, div-div-eq-div-mul, add-mul-mod_self_left}
use native.Mathlib.Omega.{arith}
use lib.Arith.{mod-mul}
use lib.Dec.{lit<}
use lib.Pow.{pow-add, shl_exact}
use lib.ListN.{length, take, drop, get_or}
use lib.Seq.{drop-drop, get_or-drop}
use Rattle.std.specs.Int.{w64, to_le_bytes, from_le_bytes}
use Rattle.digits.specs.Digits.{digits, word}

pub digits_more : (w x : ℕ) → 0 < w → digits w x ≡ x % 256 ∷ digits (w - 1) (x / 256)
unfolding digits
digits_more zero x h = absurd (omega arith)
digits_more (suc w) x h = let e : w ≡ suc w - 1 = omega arith in ap (λ (n : ℕ). x % 256 ∷ digits n (x / 256)) e

pub length_digits : (w x : ℕ) → length (digits w x) ≡ w
unfolding digits
length_digits zero x = refl
length_digits (suc w) x = ap suc (length_digits w (x / 256))

-- fewer of them are the first of more
pub digits_take : (n w x : ℕ) → n ≤ w → digits n x ≡ take n (digits w x)
unfolding digits
digits_take zero w x h = refl
digits_take (suc n) zero x h = absurd (omega arith)
digits_take (suc n) (suc w) x h = ap (λ (l : List ℕ). x % 256 ∷ l) (digits_take n w (x / 256) (omega arith))

pub byte_more : (n x b : ℕ) → x < 256 ^ n → b < 256 → x * 256 + b < 256 ^ suc n
byte_more n x b h l = rw pow-suc (omega arith)

-- a power of a power
pub pow_mul : (a k n : ℕ) → a ^ (n * k) ≡ (a ^ k) ^ n
pow_mul a k zero = rw (zero-mul k, pow-zero a, pow-zero (a ^ k))
pow_mul a k (suc n) = rw (suc-mul, pow-add, pow_mul a k n) (sym (pow-suc (a ^ k) n))

-- a power of 256 by a shift
pub shifted : (n : ℕ) → n < 8 → 1 * 2 ^ (n * 8) % 2 ^ 64 ≡ 256 ^ n
shifted n h = shl_exact 1 (n * 8) 64 (lit< tt) (omega arith) ∙ one-mul (2 ^ (n * 8)) ∙ pow_mul 2 8 n

pub below_64 : (n x : ℕ) → n ≤ 8 → x < 256 ^ n → x < 18446744073709551616
below_64 n x h l =
    let p : 256 ^ n ≤ 256 ^ 8 = pow-le-pow_right (omega arith) h in
    let q : 256 ^ n ≤ 18446744073709551616 = p in
    omega arith

-- a byte that is not there counts as 0
pub word_short : (w : ℕ) (s : List ℕ) → length s ≤ w → word (length s) s ≡ word w s
unfolding word
word_short zero [] h = refl
word_short (suc w) [] h = ap (λ (n : ℕ). 0 + 256 * n) (word_short w [] (omega arith))
word_short zero (x ∷ s) h = absurd (omega arith)
word_short (suc w) (x ∷ s) h = ap (λ (n : ℕ). x + 256 * n) (word_short w s (omega arith))

-- of no bytes all are 0
pub word_none : (w n : ℕ) → word w (take n []) ≡ 0
unfolding word
word_none zero n = refl
word_none (suc w) zero = sym (word_short (suc w) [] (omega arith))
word_none (suc w) (suc n) = sym (word_short (suc w) [] (omega arith))

-- bytes behind those that are read do not count
pub word_append : (w : ℕ) (s t : List ℕ) → w ≤ length s → word w (s ++ t) ≡ word w s
unfolding word
word_append zero s t h = refl
word_append (suc w) [] t h = absurd (omega arith)
word_append (suc w) (x ∷ s) t h = ap (λ (n : ℕ). x + 256 * n) (word_append w s t (omega arith))

-- of the first n bytes at most n count
pub word_take_all : (w n : ℕ) (s : List ℕ) → w ≤ n → word w (take n s) ≡ word w s
unfolding word
word_take_all zero n s h = refl
word_take_all (suc w) zero s h = absurd (omega arith)
word_take_all (suc w) (suc n) [] h = refl
word_take_all (suc w) (suc n) (x ∷ s) h = ap (λ (k : ℕ). x + 256 * k) (word_take_all w n s (omega arith))

pub word_take : (w n : ℕ) (s : List ℕ) → n ≤ w → word w (take n s) ≡ word n s
unfolding word
word_take w zero s h = sym (word_short w [] (omega arith))
word_take zero (suc n) s h = absurd (omega arith)
word_take (suc w) (suc n) [] h = sym (word_short (suc w) [] (omega arith)) ∙ word_short (suc n) [] (omega arith)
word_take (suc w) (suc n) (x ∷ s) h = ap (λ (k : ℕ). x + 256 * k) (word_take w n s (omega arith))

-- where all are bytes, the first n make a number below 256 ^ n, the rest of the whole by it
pub word_below : (n : ℕ) (s : List ℕ) → ((i : ℕ) → get_or s i 0 < 256) → word n s < 256 ^ n
unfolding word
word_below zero s b = omega arith
word_below (suc n) [] b = let p = word_below n [] b in rw pow-suc (omega arith)
word_below (suc n) (x ∷ s) b =
    let p = word_below n s (λ i. b (suc i)) in
    let q : x < 256 = b 0 in
    rw pow-suc (omega arith)

word_split : (n m : ℕ) (s : List ℕ) → word (n + m) s ≡ word n s + 256 ^ n * word m (drop n s)
unfolding word
word_split zero m s = ap (λ (k : ℕ). word k s) (zero-add m) ∙ omega arith
word_split (suc n) m s =
    let o : 1 + n ≡ suc n = omega arith in
    let d : drop n (drop 1 s) ≡ drop (suc n) s = drop-drop n 1 s ∙ ap (λ (k : ℕ). drop k s) o in
    rw suc-add (ap (λ (k : ℕ). get_or s 0 0 + 256 * k) (word_split n m (drop 1 s)) ∙ rw (d, pow-suc) (omega arith))

pub word_mod : (n m : ℕ) (s : List ℕ) → ((i : ℕ) → get_or s i 0 < 256) → word (n + m) s % 256 ^ n ≡ word n s
word_mod n m s b = ap (λ (k : ℕ). k % 256 ^ n) (word_split n m s) ∙ add-mul-mod_self_left (word n s) (256 ^ n) (word m (drop n s)) ∙ mod-eq_of_lt (word_below n s b)

-- what is read back is what was written, of a larger number its rest
pub word_rest : (w x : ℕ) (t : List ℕ) → word w (digits w x ++ t) ≡ x % 256 ^ w
unfolding word digits
word_rest zero x t = omega arith
word_rest (suc w) x t =
    let m : x % (256 ^ w * 256) ≡ x / 256 % 256 ^ w * 256 + x % 256 = mod-mul x (one-le-pow w 256 (omega arith)) (omega arith) in
    rw (word_rest w (x / 256) t, pow-suc 256 w) (omega (arith, m))

pub word_digits : (w x : ℕ) (t : List ℕ) → x < 256 ^ w → word w (digits w x ++ t) ≡ x
word_digits w x t h = word_rest w x t ∙ mod-eq_of_lt h

-- and what is written is what was read
pub digits_word : (w : ℕ) (s : List ℕ) → w ≤ length s → ((i : ℕ) → get_or s i 0 < 256) → digits w (word w s) ≡ take w s
unfolding word digits
digits_word zero s h b = refl
digits_word (suc w) [] h b = absurd (omega arith)
digits_word (suc w) (x ∷ s) h b =
    let bx : x < 256 = b 0 in
    let e : (x + 256 * word w s) % 256 ≡ x = omega arith in
    let f : (x + 256 * word w s) / 256 ≡ word w s = omega arith in
    rw (e, f) (ap (λ (l : List ℕ). x ∷ l) (digits_word w s (omega arith) (λ i. b (suc i))))

-- ---- eight bytes, as std says them
pub from_le_word : (s : List ℕ) → from_le_bytes w64 s ≡ word 8 s
unfolding word
from_le_word s = simp (get_or-drop, drop-drop) (omega arith)

pub to_le_digits : (x : ℕ) → to_le_bytes w64 x ≡ digits 8 x
unfolding digits
to_le_digits x = simp div-div-eq-div-mul refl
