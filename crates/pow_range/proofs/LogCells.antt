-- The logarithm's parts t1 and t2 by intervals, on cells of the high word: `cells_range`. Assumes nothing.
use Prim.Native.Nat.{ℕ, zero, suc, ◌+◌, ◌*◌, ◌/◌, ◌^◌, ◌≤◌, ◌<◌}
use mathlib.Core.Path.{◌≡◌, refl, ap, ◌∙◌, subst}
use mathlib.Core.Bool.{Bool, true, false}
use mathlib.Core.List.{[], ◌∷◌}
use native.Mathlib.Omega.{arith}
use native.Mathlib.Nat.{lt_of_le_of_lt, zero-mul, suc-mul, add_comm}
use lib.Dec.{T, ltb}
use lib.Ieee.{Float, binary64, le}
use lib.Ieee.Scale.{finite}
use borrow.Author.Tests.{ltb-true, ltb-false}
use Rattle.rounding.proofs.Signed.{value_finite}
use Rattle.rounding.proofs.BitOrder.{bit_val, endless, bits_val, bits_le}
use Rattle.rounding.proofs.Interval.{some}
use Rattle.rounding.proofs.Range.{Expr, eval, In, range_test, range}
use Rattle.words.specs.F64.{bits}

-- ---- cells

-- the float with the upper word w and no lower one
abbrev pub at : ℕ → Float
at w = bits (w * 0x100000000)

-- e stays in [lo, hi] where ax's upper word is from w up to below v, t_h's is half of it and K, and t is given
abbrev cell : Expr → ℕ → Float → Float → Float → ℕ → ℕ → Bool
cell e K t lo hi w v = range_test binary64 lo hi e (some (at (w / 2 + K)) (at (v / 2 + K)) ∷ some t t ∷ []) (at w) (at v)

-- the same of c cells of d words each, from w on
unfoldable pub cells : Expr → ℕ → Float → Float → Float → ℕ → ℕ → ℕ → Bool
cells e K t lo hi d zero w = true
cells e K t lo hi d (suc c) w = elim (cell e K t lo hi w (w + d)) [ true ↦ cells e K t lo hi d c (w + d) | false ↦ false ]

-- values of patterns in order
in_order : (a b c : ℕ) → a ≤ b → b ≤ c → c < endless binary64 → In (bits a) (bits c) (bits b)
in_order a b c h k l = (bits_le binary64 a b h (lt_of_le_of_lt k l), bits_le binary64 b c k l)

bits_finite : (b : ℕ) → b < endless binary64 → T (finite (bits b))
bits_finite b h = value_finite (bits b) false (bit_val binary64 b) (2 ^ 1074) (bits_val binary64 b h)

-- one cell
cell_range : (e : Expr) (K : ℕ) (t lo hi : Float) (w v ix l : ℕ) → T (cell e K t lo hi w v) → T (finite t) → T (le t t) → w ≤ ix → ix < v → l < 0x100000000
    → v ≤ 0x40000000 → K ≤ 0x20100000 → In lo hi (eval binary64 (bits (ix * 0x100000000 + l) ∷ at (ix / 2 + K) ∷ t ∷ []) e)
cell_range e K t lo hi w v ix l c F R a b k m n =
    let i = in_order (w * 0x100000000) (ix * 0x100000000 + l) (v * 0x100000000) (omega arith) (omega arith) (omega arith) in
    let j = in_order ((w / 2 + K) * 0x100000000) ((ix / 2 + K) * 0x100000000) ((v / 2 + K) * 0x100000000) (omega arith) (omega arith) (omega arith) in
    range binary64 lo hi e (some (at (w / 2 + K)) (at (v / 2 + K)) ∷ some t t ∷ []) (at (ix / 2 + K) ∷ t ∷ []) (at w) (at v) (bits (ix * 0x100000000 + l)) c
    ((bits_finite ((w / 2 + K) * 0x100000000) (omega arith), bits_finite ((v / 2 + K) * 0x100000000) (omega arith), j.0, j.1), ((F, F, R, R), tt)) i

-- a test that passed, and those after it
pub both : (b c : Bool) → T (elim b [ true ↦ c | false ↦ false ]) → T b × T c
both true c h = (tt, h)
both false c h = absurd h

-- all cells
pub cells_range : (e : Expr) (K : ℕ) (t lo hi : Float) (d c w ix l : ℕ) → T (cells e K t lo hi d c w) → T (finite t) → T (le t t) → w ≤ ix → ix < w + c * d
    → l < 0x100000000 → w + c * d ≤ 0x40000000 → K ≤ 0x20100000 → In lo hi (eval binary64 (bits (ix * 0x100000000 + l) ∷ at (ix / 2 + K) ∷ t ∷ []) e)
unfolding cells
cells_range e K t lo hi d zero w ix l h F R a b k m n = absurd (none w ix (0 * d) (zero-mul d) a b)
  where
    none : (w ix z : ℕ) → z ≡ 0 → w ≤ ix → ix < w + z → ⊥
    none w ix z e a b = omega arith
cells_range e K t lo hi d (suc c) w ix l h F R a b k m n =
    go (ltb ix (w + d)) refl
    (λ (x : w + d ≤ ix). cells_range e K t lo hi d c (w + d) ix l q.1 F R x (subst (λ (z : ℕ). ix < z) next b) k (subst (λ (z : ℕ). z ≤ 0x40000000) next m) n)
  where
    q : T (cell e K t lo hi w (w + d)) × T (cells e K t lo hi d c (w + d))
    q = both (cell e K t lo hi w (w + d)) (cells e K t lo hi d c (w + d)) h

    next : w + suc c * d ≡ w + d + c * d
    next = ap (λ (z : ℕ). w + z) (succ_mul' c d) ∙ group w d (c * d)
      where
        succ_mul' : (c d : ℕ) → suc c * d ≡ d + c * d
        succ_mul' c d = suc-mul c d ∙ add_comm (c * d) d

        group : (a b c : ℕ) → a + (b + c) ≡ a + b + c
        group a b c = omega arith

    first : (w d r : ℕ) → w + d + r ≤ 0x40000000 → w + d ≤ 0x40000000
    first w d r h = omega arith

    go : (t' : Bool) → ltb ix (w + d) ≡ t' → (w + d ≤ ix → In lo hi (eval binary64 (bits (ix * 0x100000000 + l) ∷ at (ix / 2 + K) ∷ t ∷ []) e))
        → In lo hi (eval binary64 (bits (ix * 0x100000000 + l) ∷ at (ix / 2 + K) ∷ t ∷ []) e)
    go true x rest = cell_range e K t lo hi w (w + d) ix l q.0 F R a (ltb-true ix (w + d) x) k (first w d (c * d) (subst (λ (z : ℕ). z ≤ 0x40000000) next m)) n
    go false x rest = rest (ltb-false ix (w + d) x)
