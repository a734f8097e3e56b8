-- A gamma function and a log-gamma by the sign and the whole part of a finite x that is no negative whole number: both have one sign, minus exactly where
-- x carries a minus sign and the whole part of its size is even (`Case`). So it is with tgamma and lgamma_r (`case`), and in f32 with tgammaf and
-- lgammaf_r, and with tgammaf and lgamma_r (`case_f32`, `case_wide`). What that says of sign bits and of the numbers reported, over the format, is the
-- theorem (`FromCases`), with what is shown at the poles (`poles_of`). Assumes nothing.
use mathlib.Core.Path.{◌≡◌, refl, sym, ap, ◌∙◌, subst}
use mathlib.Core.Logic.{◌⊎◌, inl, inr}
use Prim.Native.Nat.{ℕ, zero, suc, ◌*◌, ◌/◌, ◌%◌, ◌<◌}
use native.Mathlib.Nat.{zero-mul, zero-div, zero-lt-suc, mod-lt, lt_irrefl, eq-zero-or-pos}
use native.Mathlib.Omega.{arith}
use mathlib.Core.Bool.{Bool, true, false, cond, false≢true}
use lib.IntN.{ℤ, pos, negsuc}
use lib.Dec.{T}
use lib.Ieee.{Float, Format, nan, inf, fin, binary32, binary64, up, down, fits}
use lib.Ieee.Fits.{fits_widens}
use Rattle.rounding.proofs.Signed.{Signed}
use Rattle.words.specs.Bits.{sign_s}
use Rattle.words.proofs.CutLaws.{signed_bit}
use Rattle.lgamma.specs.Plan.{Answer}
use Rattle.lgamma.specs.Lgamma64.{lgamma_s}
use Rattle.lgamma.proofs.SignLaw as Log
use Rattle.lgammaf.specs.Lgammaf.{lgammaf_s}
use Rattle.lgammaf.proofs.SameSign.{same_sign}
use Rattle.tgamma.specs.Tgamma.{tgamma_s}
use Rattle.tgamma.proofs.Regions.{course}
use Rattle.tgamma.proofs.SpecialValues.{AnnexF}
use Rattle.tgammaf.specs.Tgammaf.{tgammaf_s}
use Rattle.tgammaf.proofs.Narrowed.{tgammaf_signed}
use Rattle.signs.specs.Value.{Finite, Minus, whole_part, NegativeWhole}
use Rattle.signs.specs.Promises.{NoNan, SameSign, SignRule, AtPoles}
use Rattle.signs.proofs.Regions.{plus_sign, minus_sign}

-- ---- a sign as the number that a log-gamma reports, and read back
abbrev pub code : Bool → ℤ
code true = negsuc 0
code false = pos 1

bit_minus : (s : Bool) → ◌≡◌ {A = ℕ} (cond s 1 0) 1 → s ≡ true
bit_minus true h = refl
bit_minus false h = absurd (omega arith)

code_minus : (s : Bool) → code s ≡ negsuc 0 → s ≡ true
code_minus true h = refl
code_minus false h = let z : ◌≡◌ {A = ℕ} 0 1 = cc in absurd (omega arith)

pub code_is : (s : Bool) (z : ℤ) → z ≡ code s → (z ≡ pos 1) ⊎ (z ≡ negsuc 0)
code_is true z h = inr h
code_is false z h = inl h

-- ---- the cases
pub record Case (g : Float → Float) (l : Float → Answer) (x : Float) : Type 0 where
  pub sign : Bool
  pub gamma : Signed sign (g x)
  pub log : (l x).sign ≡ code sign
  pub minus : sign ≡ true → Minus x × (whole_part x % 2 ≡ 0)
  pub only : Minus x × (whole_part x % 2 ≡ 0) → sign ≡ true

-- no minus sign
plus_case : (m : ℕ) (e : ℤ) → T (fits binary64 (fin false m e)) → Case tgamma_s lgamma_s (fin false m e)
plus_case m e F = record {
  sign = false;
  gamma = plus_sign m e F _ (course false m e F (λ h. absurd (false≢true h)));
  log = Log.plus m e F;
  minus = λ h. absurd (false≢true h);
  only = λ h. h.0;
}

-- a minus sign, and no whole number: by the remainder d of the whole part
minus_case : (m : ℕ) (e : ℤ) → T (fits binary64 (fin true m e)) → (0 < m → m * up e % down e ≡ 0 → ⊥)
    → (d : ℕ) → d < 2 → m * up e / down e % 2 ≡ d → Case tgamma_s lgamma_s (fin true m e)
minus_case m e F n zero l d = record {
  sign = true;
  gamma = (minus_sign m e F n _ (course true m e F (λ h. n))).0 d;
  log = even m F n d;
  minus = λ k. (refl, d);
  only = λ k. refl;
}
  where
    even : (m : ℕ) → T (fits binary64 (fin true m e)) → (0 < m → m * up e % down e ≡ 0 → ⊥) → m * up e / down e % 2 ≡ 0
        → (lgamma_s (fin true m e)).sign ≡ code true
    even zero F n d = Log.minus_zero e F
    even (suc m) F n d = Log.minus_even (suc m) e F (n (zero-lt-suc m)) d
minus_case m e F n (suc zero) l d = record {
  sign = false;
  gamma = (minus_sign m e F n _ (course true m e F (λ h. n))).1 d;
  log = odd m F n d;
  minus = λ k. absurd (false≢true k);
  only = λ k. absurd (clash (m * up e / down e % 2) d k.1);
}
  where
    clash : (n : ℕ) → n ≡ 1 → n ≡ 0 → ⊥
    clash n h k = omega arith

    odd : (m : ℕ) → T (fits binary64 (fin true m e)) → (0 < m → m * up e % down e ≡ 0 → ⊥) → m * up e / down e % 2 ≡ 1
        → (lgamma_s (fin true m e)).sign ≡ code false
    odd zero F n d = absurd (clash (0 * up e / down e % 2) d (simp (zero-mul, zero-div)))
    odd (suc m) F n d = Log.minus_odd (suc m) e F (zero-lt-suc m) (n (zero-lt-suc m)) d
minus_case m e F n (suc (suc d)) l k = absurd (omega arith)

pub case : (x : Float) → T (fits binary64 x) → Finite x → (NegativeWhole x → ⊥) → Case tgamma_s lgamma_s x
case nan F f n = absurd f
case (inf s) F f n = absurd f
case (fin false m e) F f n = plus_case m e F
case (fin true m e) F f n = minus_case m e F (λ p h. n (refl, p, h)) _ (mod-lt _ (omega arith)) refl

-- f32: what is narrowed keeps its sign, and lgammaf_r reports what lgamma_r does
pub case_wide : (x : Float) → T (fits binary32 x) → Finite x → (NegativeWhole x → ⊥) → Case tgammaf_s lgamma_s x
case_wide x F f n =
    let c = case x (fits_widens x F) f n in
    record { sign = c.sign; gamma = tgammaf_signed c.sign x c.gamma; log = c.log; minus = c.minus; only = c.only }

pub case_f32 : (x : Float) → T (fits binary32 x) → Finite x → (NegativeWhole x → ⊥) → Case tgammaf_s lgammaf_s x
case_f32 x F f n =
    let c = case_wide x F f n in
    record { sign = c.sign; gamma = c.gamma; log = same_sign x F ∙ c.log; minus = c.minus; only = c.only }

-- ---- what the cases say, in either format
module _ (f : Format) (g : Float → Float) (l : Float → Answer) (g_fits : (x : Float) → T (fits f (g x)))
    (cases : (x : Float) → T (fits f x) → Finite x → (NegativeWhole x → ⊥) → Case g l x) where
  pub record FromCases : Type 0 where
    pub no_nan : NoNan f g
    pub same_sign : SameSign f g l
    pub sign_rule : SignRule f g

  gamma_bit : (x : Float) (c : Case g l x) → sign_s f (g x) ≡ cond c.sign 1 0
  gamma_bit x c = signed_bit f c.sign (g x) (g_fits x) c.gamma

  pub from_cases : FromCases
  from_cases = record {
    no_nan = λ x F h n e. let c = cases x F h n in subst (Signed c.sign) e c.gamma;
    same_sign = λ x F h n. let c = cases x F h n in (
      λ k. c.log ∙ ap code (bit_minus c.sign (sym (gamma_bit x c) ∙ k)),
      λ k. gamma_bit x c ∙ ap (λ (s : Bool). cond s 1 0) (code_minus c.sign (sym c.log ∙ k)),
    );
    sign_rule = λ x F h n. let c = cases x F h n in (
      λ k. c.minus (bit_minus c.sign (sym (gamma_bit x c) ∙ k)),
      λ k. gamma_bit x c ∙ ap (λ (s : Bool). cond s 1 0) (c.only k),
    );
  }

-- at the poles
abbrev Pole : Format → (Float → Answer) → Type 0
Pole f l = (m : ℕ) (e : ℤ) → T (fits f (fin true m e)) → 0 < m → m * up e % down e ≡ 0 → l (fin true m e) ≡ record { value = inf false; sign = pos 1 }

pub poles_of : (f : Format) (g : Float → Float) (l : Float → Answer) → AnnexF f g → Pole f l → AtPoles f g l
poles_of f g l a p nan F h = absurd h
poles_of f g l a p (inf s) F h = absurd h
poles_of f g l a p (fin false m e) F h = absurd (false≢true h.0)
poles_of f g l a p (fin true m e) F h = (a.at_negative_whole m e F h.1 h.2, p m e F h.1 h.2)

-- x is a negative whole number or not
pub decide : (x : Float) → NegativeWhole x ⊎ (NegativeWhole x → ⊥)
decide nan = inr (λ h. h)
decide (inf s) = inr (λ h. h)
decide (fin false m e) = inr (λ h. false≢true h.0)
decide (fin true zero e) = inr (λ h. lt_irrefl 0 h.1)
decide (fin true (suc m) e) =
    elim (eq-zero-or-pos (suc m * up e % down e)) [
      | inl z ↦ inl (refl, zero-lt-suc m, z)
      | inr p ↦ inr (λ h. lt_irrefl 0 (subst (λ (n : ℕ). 0 < n) h.2 p))
    ]
