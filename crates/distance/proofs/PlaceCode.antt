-- What the definitions are, and the place as the code works it out of a pattern, over the format. Assumes nothing.
use Rattle.std.proofs.Common.{◌≡◌, refl, sym, ap, ◌∙◌, arith, Option, None, Some, w64, to_z, of_z, ltb-true, lt→ltb, le→leb}
use mathlib.Core.Bool.{Bool, true, false, ◌||◌}
use Prim.Native.Nat.{ℕ, zero, suc, ◌*◌, ◌%◌, ◌^◌, ◌≤◌, ◌<◌}
use lib.Dec.{leb, ltb}
use lib.IntN.{ℤ, pos, negsuc, neg_ℤ, nat_abs, ◌-ℤ◌}
use lib.Ieee.{Format, binary32, binary64, ones, hid, top, nan_bits}
use lib.Ieee.Bits.{nan_bits_above}
use borrow.Author.Tests.{lt-ltb, le-ltb, le-leb, lt-leb}
use Rattle.std.proofs.lemmas.Int.{to_z_pos, to_z-of_z}
use Rattle.std.proofs.lemmas.Option.{none-some}
use Rattle.words.specs.Pick.{pick}
use Rattle.distance.specs.Distance.{place_s, distance_s}

pub place_is : (f : Format) (b : ℕ) → place_s f b ≡ pick (leb (top f) b) (neg_ℤ (pos (b % top f))) (pos (b % top f))
unfolding place_s
place_is f b = refl

pub distance_is : (f : Format) (a b : ℕ) → distance_s f a b
    ≡ pick (nan_bits f a || nan_bits f b) None (Some (nat_abs (place_s f a -ℤ place_s f b)))
unfolding distance_s
distance_is f a b = refl

-- an infinity's steps fit an i64
small : (f : Format) → ones f * hid f < 2 ^ 63
small binary32 = omega arith
small binary64 = omega arith

minus : (n : ℕ) → n < 2 ^ 63 → to_z w64 (of_z w64 (pos 0 -ℤ pos n)) ≡ neg_ℤ (pos n)
minus zero h = refl
minus (suc n) h = ap (λ (z : ℤ). to_z w64 (of_z w64 z)) down ∙ to_z-of_z w64 (negsuc n) (record { sfits = omega arith })
  where
    down : pos 0 -ℤ pos (suc n) ≡ negsuc n
    down = rw (lt-ltb 0 (suc n) (omega arith)) (ap negsuc (omega arith))

-- Of the bits n of a pattern b, with the sign's weight S and an infinity's pattern I.
module _ (f : Format) (b n S I : ℕ) (B : n ≡ b) (T : S ≡ top f) (E : I ≡ ones f * hid f) where
  pub no_place : I < n % S → None ≡ pick (nan_bits f b) None (Some (place_s f b))
  no_place h = rw (nan_bits_above f b, lt-ltb (ones f * hid f) (b % top f) (rw (sym B, sym T, sym E) h)) refl

  module _ (h : n % S ≤ I) where
    number : nan_bits f b ≡ false
    number = nan_bits_above f b ∙ le-ltb (ones f * hid f) (b % top f) (rw (sym B, sym T, sym E) h)

    fits : n % S < 2 ^ 63
    fits = omega (arith, E, small f)

    pub place_below : S ≤ n → Some (to_z w64 (of_z w64 (pos 0 -ℤ to_z w64 (n % S)))) ≡ pick (nan_bits f b) None (Some (place_s f b))
    place_below k = rw (number, place_is, to_z_pos w64 (n % S) fits, minus (n % S) fits, B, T, le-leb (top f) b (rw (sym B, sym T) k)) refl

    pub place_above : n < S → Some (to_z w64 (n % S)) ≡ pick (nan_bits f b) None (Some (place_s f b))
    place_above k = rw (number, place_is, to_z_pos w64 (n % S) fits, B, T, lt-leb (top f) b (rw (sym B, sym T) k)) refl

-- From the places of two patterns to their distance; a place that is missing is a NaN's.
module _ (f : Format) (a b : ℕ) where
  abbrev Place : Option ℤ → ℕ → Type 0
  Place p b = p ≡ pick (nan_bits f b) None (Some (place_s f b))

  pub no_first : Place None a → None ≡ distance_s f a b
  no_first h = sym (distance_is f a b ∙ go (nan_bits f a) h)
    where
      go : (t : Bool) → None ≡ pick t None (Some (place_s f a)) → pick (t || nan_bits f b) None (Some (nat_abs (place_s f a -ℤ place_s f b))) ≡ None
      go true h = refl
      go false h = absurd (none-some _ h)

  pub no_second : Place None b → None ≡ distance_s f a b
  no_second h = sym (distance_is f a b ∙ go (nan_bits f a) (nan_bits f b) h)
    where
      go : (s t : Bool) → None ≡ pick t None (Some (place_s f b)) → pick (s || t) None (Some (nat_abs (place_s f a -ℤ place_s f b))) ≡ None
      go true t h = refl
      go false true h = refl
      go false false h = absurd (none-some _ h)

  abbrev inside : Option ℤ → ℤ
  inside None = pos 0
  inside (Some p) = p

  pub by_places : (p q : ℤ) → Place (Some p) a → Place (Some q) b → Some (nat_abs (p -ℤ q)) ≡ distance_s f a b
  by_places p q h k = sym (distance_is f a b ∙ go (nan_bits f a) (nan_bits f b) h k)
    where
      go : (s t : Bool) → Some p ≡ pick s None (Some (place_s f a)) → Some q ≡ pick t None (Some (place_s f b))
          → pick (s || t) None (Some (nat_abs (place_s f a -ℤ place_s f b))) ≡ Some (nat_abs (p -ℤ q))
      go true t h k = absurd (none-some _ (sym h))
      go false true h k = absurd (none-some _ (sym k))
      go false false h k = ap (λ (d : ℤ). Some (nat_abs d)) (ap (λ (o : Option ℤ). inside o -ℤ place_s f b) (sym h) ∙ ap (λ (o : Option ℤ). p -ℤ inside o) (sym k))
