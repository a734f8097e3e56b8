-- Numbers in hex, there and back, over the number of digits. Assumes nothing.
use Rattle.std.specs.Prelude.{Some, None, if◌then◌else◌}
use mathlib.Core.Path.{◌≡◌, refl, sym, ap, ◌∙◌}
use mathlib.Core.Bool.{Bool, true, false}
use mathlib.Core.List.{List, [], ◌∷◌}
use Prim.Native.Nat.{ℕ, zero, suc, ◌+◌, ◌-◌, ◌*◌, ◌^◌, ◌/◌, ◌%◌, ◌≤◌, ◌<◌}
use native.Mathlib.Nat.{div-eq_of_lt, pow-le-pow_right, pow-suc, pow-succ', one-le-pow, mul-le-mul_right, mul_assoc, mod-eq_of_lt, mul-add-div_right, mul-add-mod_self_right}
use native.Mathlib.Omega.{arith}
use lib.Arith.{digits_div, mod-mul}
use lib.ListN.{length, get_or}
use borrow.Author.Tests.{ltb-true, ltb-false, leb-true, lt-ltb, le-ltb, le-leb, lt-leb}
use Rattle.digits.proofs.DigitLaws.{pow_mul}
use Rattle.words.specs.Tests.{◌<?◌, ◌≤?◌}
use Rattle.hexadecimal.specs.Hex.{char_of, digit_of, digit_s, hex, all_hex, value, number_s}

-- ---- one digit
-- the digits 0 to 9
pub figure : (c : ℕ) → 48 ≤ c → c ≤ 57 → digit_of c ≡ c - 48
unfolding digit_of
figure c h l = rw (le-ltb c 48 h, le-leb c 57 l)

-- the digits a to f
pub letter : (c : ℕ) → 97 ≤ c → c ≤ 102 → digit_of c ≡ c - 97 + 10
unfolding digit_of
letter c h l = rw (le-ltb c 48 (omega arith), lt-leb c 57 (omega arith), le-ltb c 97 h, le-leb c 102 l)

-- as a number or none
pub figure_s : (c d : ℕ) → 48 ≤ c → c ≤ 57 → d ≡ c - 48 → Some d ≡ digit_s c
unfolding digit_s
figure_s c d h l e = rw (figure c h l, lt-ltb (c - 48) 16 (omega arith), e)

pub letter_s : (c d : ℕ) → 97 ≤ c → c ≤ 102 → d ≡ c - 97 → Some (d + 10) ≡ digit_s c
unfolding digit_s
letter_s c d h l e = rw (letter c h l, lt-ltb (c - 97 + 10) 16 (omega arith), e)

pub none_s : (c : ℕ) → (48 ≤ c → 57 < c) → (97 ≤ c → 102 < c) → None ≡ digit_s c
unfolding digit_s digit_of
none_s c h l = by (c <? 48) (c <? 97) refl refl
  where
    by : (s u : Bool) → c <? 48 ≡ s → c <? 97 ≡ u → None ≡ digit_s c
    by true u es eu = rw es
    by false true es eu = rw (es, eu, lt-leb c 57 (h (omega (arith, ltb-false))))
    by false false es eu = rw (es, eu, lt-leb c 57 (h (omega (arith, ltb-false))), lt-leb c 102 (l (omega (arith, ltb-false))))

pub digit_is : (c d : ℕ) → digit_s c ≡ Some d → (digit_of c ≡ d) × (d < 16)
unfolding digit_s
digit_is c d = by (digit_of c <? 16) refl
  where
    by : (b : Bool) → digit_of c <? 16 ≡ b → (if b then Some (digit_of c) else None) ≡ Some d → (digit_of c ≡ d) × (d < 16)
    by true e h = let v : digit_of c ≡ d = cc in (v, omega (arith, ltb-true))
    by false e h = let z : ◌≡◌ {A = ℕ} 0 1 = cc in absurd (omega arith)

pub digit_none : (c : ℕ) → digit_s c ≡ None → 16 ≤ digit_of c
unfolding digit_s
digit_none c = by (digit_of c <? 16) refl
  where
    by : (b : Bool) → digit_of c <? 16 ≡ b → (if b then Some (digit_of c) else None) ≡ None → 16 ≤ digit_of c
    by true e h = let z : ◌≡◌ {A = ℕ} 0 1 = cc in absurd (omega arith)
    by false e h = omega (arith, ltb-false)

-- a digit is read back from its character
digit_char : (d : ℕ) → d < 16 → digit_of (char_of d) ≡ d
unfolding char_of
digit_char d h = by (d <? 10) refl
  where
    by : (b : Bool) → d <? 10 ≡ b → digit_of (if b then 48 + d else 97 + (d - 10)) ≡ d
    by true e = figure (48 + d) (omega arith) (omega (arith, ltb-true)) ∙ omega arith
    by false e = letter (97 + (d - 10)) (omega arith) (omega arith) ∙ omega (arith, ltb-false)

-- and a character from its digit
char_digit : (c : ℕ) → digit_of c < 16 → char_of (digit_of c) ≡ c
unfolding char_of digit_of
char_digit c = by (c <? 48) (c ≤? 57) (c <? 97) (c ≤? 102) refl refl refl refl
  where
    read : Bool → Bool → Bool → Bool → ℕ
    read s t u v = if s then 16 else if t then c - 48 else if u then 16 else if v then c - 97 + 10 else 16

    by : (s t u v : Bool) → c <? 48 ≡ s → c ≤? 57 ≡ t → c <? 97 ≡ u → c ≤? 102 ≡ v → read s t u v < 16 → char_of (read s t u v) ≡ c
    by true t u v es et eu ev h = absurd (omega arith)
    by false true u v es et eu ev h = rw (lt-ltb (c - 48) 10 (omega (arith, leb-true, ltb-false))) (omega (arith, ltb-false))
    by false false true v es et eu ev h = absurd (omega arith)
    by false false false true es et eu ev h = rw (le-ltb (c - 97 + 10) 10 (omega arith)) (omega (arith, ltb-false))
    by false false false false es et eu ev h = absurd (omega arith)

-- ---- the digits of a number
-- a u64 has 16 of them, each of four bits
pub shifted_16 : (x i : ℕ) → x / 2 ^ (i * 4) % 16 ≡ x / 16 ^ i % 16
shifted_16 x i = rw (pow_mul 2 4 i)

pub no_digit : (x i : ℕ) → 16 ≤ i → x < 2 ^ 64 → 0 ≡ x / 16 ^ i % 16
no_digit x i h l =
    let p : 16 ^ 16 ≤ 16 ^ i = pow-le-pow_right (omega arith) h in
    let z : x / 16 ^ i ≡ 0 = div-eq_of_lt (omega arith) in
    rw z

-- there are as many as were asked for
pub length_hex : (w x : ℕ) → length (hex w x) ≡ w
unfolding hex
length_hex zero x = refl
length_hex (suc w) x = ap suc (length_hex w x)

-- which stands where
pub hex_at : (w x i : ℕ) → i < w → get_or (hex w x) i 0 ≡ char_of (x / 16 ^ (w - 1 - i) % 16)
unfolding hex
hex_at zero x i h = absurd (omega arith)
hex_at (suc w) x zero h = let e : suc w - 1 - 0 ≡ w = omega arith in rw e
hex_at (suc w) x (suc i) h = let e : suc w - 1 - suc i ≡ w - 1 - i = omega arith in rw e (hex_at w x i (omega arith))

-- each of them is a digit
pub char_hex : (w x : ℕ) → all_hex (hex w x) ≡ true
unfolding all_hex hex
char_hex zero x = refl
char_hex (suc w) x =
    let d : x / 16 ^ w % 16 < 16 = omega arith in
    rw (digit_char (x / 16 ^ w % 16) d, lt-ltb (x / 16 ^ w % 16) 16 d) (char_hex w x)

-- every character of a text is n or above
abbrev pub From : ℕ → List ℕ → Type 0
From n [] = Unit
From n (c ∷ s) = (n ≤ c) × From n s

-- none of them is below 48: neither a space nor a newline stands among them
pub hex_from : (w x : ℕ) → From 48 (hex w x)
unfolding hex char_of
hex_from zero x = tt
hex_from (suc w) x = (by (x / 16 ^ w % 16 <? 10) _, hex_from w x)
  where
    by : (b : Bool) (d : ℕ) → 48 ≤ (if b then 48 + d else 97 + (d - 10))
    by true d = omega arith
    by false d = omega arith

-- they make the number again, of a larger one its rest
value_mod : (w x : ℕ) → value (hex w x) ≡ x % 16 ^ w
unfolding value hex
value_mod zero x = omega arith
value_mod (suc w) x =
    let d : x / 16 ^ w % 16 < 16 = omega arith in
    rw (digit_char (x / 16 ^ w % 16) d, length_hex w x, value_mod w x, pow-succ')
    (sym (mod-mul x (omega arith) (one-le-pow w 16 (omega arith))))

-- ---- the number of a text
-- the first is a digit, and so are the rest
all_cons : (c : ℕ) (s : List ℕ) → all_hex (c ∷ s) ≡ true → (digit_of c < 16) × (all_hex s ≡ true)
unfolding all_hex
all_cons c s = by (digit_of c <? 16) refl
  where
    by : (b : Bool) → digit_of c <? 16 ≡ b → (if b then all_hex s else false) ≡ true → (digit_of c < 16) × (all_hex s ≡ true)
    by true e h = (ltb-true _ _ e, h)
    by false e h = let z : ◌≡◌ {A = ℕ} 0 1 = cc in absurd (omega arith)

-- w digits make a number below 16 ^ w
pub value_small : (s : List ℕ) → all_hex s ≡ true → value s < 16 ^ length s
unfolding value
value_small [] h = omega arith
value_small (c ∷ s) h =
    let t = all_cons c s h in
    let v = value_small s t.1 in
    let m : digit_of c * 16 ^ length s ≤ 15 * 16 ^ length s = mul-le-mul_right (16 ^ length s) (omega (arith, t.0)) in
    rw pow-suc (omega arith)

-- a digit more in front
pub one_higher : (d w : ℕ) → d * 16 ^ suc w ≡ d * 16 * 16 ^ w
one_higher d w = rw pow-succ' (sym (mul_assoc d 16 (16 ^ w)))

-- the w lowest digits are the same with digits above them
hex_low : (w d y : ℕ) → hex w (d * 16 ^ w + y) ≡ hex w y
unfolding hex
hex_low zero d y = refl
hex_low (suc w) d y =
    let p : 0 < 16 ^ w = one-le-pow w 16 (omega arith) in
    rw (one_higher d w, mul-add-div_right p (d * 16) y, mul-add-mod_self_right d 16 (y / 16 ^ w), hex_low w (d * 16) y)

-- what is read is written back
pub hex_value : (s : List ℕ) → all_hex s ≡ true → hex (length s) (value s) ≡ s
unfolding value hex
hex_value [] h = refl
hex_value (c ∷ s) h =
    let t = all_cons c s h in
    rw (digits_div (digit_of c) (value_small s t.1), mod-eq_of_lt t.0, char_digit c t.0, hex_low (length s) (digit_of c) (value s), hex_value s t.1)

-- ---- a text of at most 16 digits
pub long_none : (s : List ℕ) → 16 < length s → None ≡ number_s s
unfolding number_s
long_none s h = rw (lt-leb (length s) 16 h)

-- what was written is read back, of a larger number its rest
pub number_mod : (w x : ℕ) → w ≤ 16 → number_s (hex w x) ≡ Some (x % 16 ^ w)
unfolding number_s
number_mod w x h = rw (length_hex w x, le-leb w 16 h, char_hex w x, value_mod w x)

pub number_hex : (w x : ℕ) → w ≤ 16 → x < 16 ^ w → number_s (hex w x) ≡ Some x
number_hex w x h l = number_mod w x h ∙ ap Some (mod-eq_of_lt l)

-- and what was read is written back
pub hex_number : (s : List ℕ) (x : ℕ) → number_s s ≡ Some x → (hex (length s) x ≡ s) × (x < 16 ^ length s)
unfolding number_s
hex_number s x = by (length s ≤? 16) (all_hex s) refl
  where
    by : (a b : Bool) → all_hex s ≡ b → (if a then (if b then Some (value s) else None) else None) ≡ Some x → (hex (length s) x ≡ s) × (x < 16 ^ length s)
    by true true e h =
        let v : value s ≡ x = cc in rw (← v) (hex_value s e, value_small s e)
    by true false e h = let z : ◌≡◌ {A = ℕ} 0 1 = cc in absurd (omega arith)
    by false b e h = let z : ◌≡◌ {A = ℕ} 0 1 = cc in absurd (omega arith)
