-- What the code of a kind makes is the kind's row: a number, a number and its sign, or two numbers, of the argument that the body gives. Assumes nothing.
use mathlib.Core.Path.{◌≡◌, sym, ap, ◌∙◌}
use Prim.Native.Nat.{ℕ, ◌%◌, ◌^◌, ◌<◌}
use native.Mathlib.Nat.{mod-eq_of_lt}
use lib.IntN.{ℤ}
use Rattle.kinds.specs.Shape.{sign_byte}
use Rattle.records.specs.declared.Reply.{Reply}

abbrev pub number_s : ℕ → ℕ → ℕ → Reply
number_s h w b = record { head = h; width = w; bits = b; more = 0; extra = 0 }

abbrev pub signed_s : ℕ → ℕ → ℕ → ℤ → Reply
signed_s h w b z = record { head = h; width = w; bits = b; more = 1; extra = sign_byte z }

abbrev pub two_s : ℕ → ℕ → ℕ → ℕ → Reply
two_s h w b e = record { head = h; width = w; bits = b; more = w; extra = e }

pub plain_row : (h w : ℕ) (f : ℕ → ℕ) (x y v : ℕ) (r : Reply) → r ≡ number_s h w v → v ≡ f x → x ≡ y → r ≡ number_s h w (f y)
plain_row h w f x y v r er ev e = er ∙ ap (number_s h w) (ev ∙ ap f e)

pub signed_row : (h w : ℕ) (f : ℕ → ℕ) (s : ℕ → ℤ) (x y v : ℕ) (z : ℤ) (r : Reply) → r ≡ signed_s h w v z → v ≡ f x → z ≡ s x → x ≡ y →
    r ≡ signed_s h w (f y) (s y)
signed_row h w f s x y v z r er ev ez e = er ∙ ap (λ (n : ℕ). signed_s h w n z) (ev ∙ ap f e) ∙ ap (signed_s h w (f y)) (ez ∙ ap s e)

pub paired_row : (h w : ℕ) (f g : ℕ → ℕ) (x y u v : ℕ) (r : Reply) → r ≡ two_s h w u v → u ≡ f x → v ≡ g x → x ≡ y → r ≡ two_s h w (f y) (g y)
paired_row h w f g x y u v r er eu ev e = er ∙ ap (λ (n : ℕ). two_s h w n v) (eu ∙ ap f e) ∙ ap (two_s h w (f y)) (ev ∙ ap g e)

-- eight bytes are all of a u64
pub eight : (b : ℕ) → b < 2 ^ 64 → b ≡ b % 256 ^ 8
eight b h = sym (mod-eq_of_lt h)
