-- THE THEOREM about the C entries themselves. r is any answer that the contract of `rvt_tgamma` allows for the argument `a.0`, a number of 64 bits, and
-- g any that the contract of `rvt_lgamma_r_sign` allows for the same. g is 1 or -1, whatever the argument is (`entries_report`). Where that is the pattern
-- of a finite number that is no negative whole number, r is no NaN's pattern, and its sign bit is set exactly where g is -1 (`entries_agree`), which is
-- exactly where the argument's sign bit is set and the whole part of its size is even (`entries_rule`). At a negative whole number r is the NaN's pattern
-- and g is 1 (`entries_at_poles`). The f32 entry `rvt_lgammaf_r_sign` answers what `rvt_lgamma_r_sign` answers for the same number (`single_entry_agrees`),
-- so 1 or -1 too (`single_entry_reports`), whatever it is. Where the 32 bits are those of a finite number that is no negative whole number, an answer of
-- `rvt_tgammaf` is no NaN's pattern, and its sign bit is set exactly where `rvt_lgammaf_r_sign` answers -1 for the same bits (`single_entries_agree`), and
-- where `rvt_lgamma_r_sign` does for the same number (`wide_entry_agrees`), by the same rule (`single_entries_rule`). At a negative whole number it is the
-- NaN's pattern (`single_entries_at_poles`). Assumes nothing.
use mathlib.Core.Path.{◌≡◌, sym, ap, ◌∙◌}
use mathlib.Core.Logic.{◌⊎◌}
use Prim.Native.Nat.{ℕ, ◌%◌, ◌^◌, ◌<◌}
use lib.IntN.{ℤ, pos, negsuc}
use lib.Ieee.{Float, binary32, binary64, of_bits, to_bits}
use lib.Ieee.Bits.{of_bits-fits}
use contract.Lifetimes.{Lfts}
use Rattle.entries.proofs.rvt_tgamma.Reads as tgamma
use Rattle.entries.proofs.rvt_tgammaf.Reads as tgammaf
use Rattle.entries.proofs.rvt_lgamma_r_sign.Reads as lgamma
use Rattle.entries.proofs.rvt_lgammaf_r_sign.Reads as lgammaf
use Rattle.lgamma.specs.Lgamma64.{lgamma_s}
use Rattle.lgammaf.proofs.SameSign.{same_sign}
use Rattle.signs.specs.Pattern.{sign_bit, FiniteBits, NanBits, whole_part_bits, NegativeWholeBits}
use Rattle.signs.proofs.PatternSigns.{no_nan_bits, same_sign_bits, sign_rule_bits, at_poles_bits, reports_bits}
use Rattle.signs.proofs.PatternSigns.{no_nan_bits_f32, same_sign_bits_f32, same_sign_bits_wide, sign_rule_bits_f32, at_poles_bits_f32, reports_bits_f32}

-- g is 1 or -1
pub entries_report : (κs : Lfts 0) (g : ℤ) (a t : _) → lgamma.Post κs a g t → (g ≡ pos 1) ⊎ (g ≡ negsuc 0)
entries_report κs g a t q = reports_bits a.0 g q

-- 1 and 2. r is no NaN's pattern, and its sign bit is set exactly where g is -1
pub entries_agree : (κs : Lfts 0) (r : ℕ) (g : ℤ) (a s t : _) → tgamma.Post κs a r s → lgamma.Post κs a g t
    → a.0 < 2 ^ 64 → FiniteBits binary64 a.0 → (NegativeWholeBits binary64 a.0 → ⊥)
    → (NanBits binary64 r → ⊥) × ((sign_bit binary64 r ≡ 1 → g ≡ negsuc 0) × (g ≡ negsuc 0 → sign_bit binary64 r ≡ 1))
entries_agree κs r g a s t p q l f w = (no_nan_bits a.0 r l f w p, same_sign_bits a.0 r g l f w p q)

-- 3. that sign bit is set exactly where the argument's is and the whole part of its size is even
pub entries_rule : (κs : Lfts 0) (r : ℕ) (a s : _) → tgamma.Post κs a r s
    → a.0 < 2 ^ 64 → FiniteBits binary64 a.0 → (NegativeWholeBits binary64 a.0 → ⊥)
    → (sign_bit binary64 r ≡ 1 → (sign_bit binary64 a.0 ≡ 1) × (whole_part_bits binary64 a.0 % 2 ≡ 0))
    × ((sign_bit binary64 a.0 ≡ 1) × (whole_part_bits binary64 a.0 % 2 ≡ 0) → sign_bit binary64 r ≡ 1)
entries_rule κs r a s p l f w = sign_rule_bits a.0 r l f w p

-- at a negative whole number
pub entries_at_poles : (κs : Lfts 0) (r : ℕ) (g : ℤ) (a s t : _) → tgamma.Post κs a r s → lgamma.Post κs a g t
    → FiniteBits binary64 a.0 → NegativeWholeBits binary64 a.0 → (r ≡ 0x7FF8000000000000) × (g ≡ pos 1)
unfolding to_bits
entries_at_poles κs r g a s t p q f w = at_poles_bits a.0 r g f w p q

-- ---- f32

-- g is an answer of `rvt_lgammaf_r_sign`, h one of `rvt_lgamma_r_sign`, and the two patterns are those of one value
pub single_entry_agrees : (κs : Lfts 0) (g h : ℤ) (a s b t : _) → lgammaf.Post κs a g s → lgamma.Post κs b h t
    → of_bits binary32 a.0 ≡ of_bits binary64 b.0 → g ≡ h
single_entry_agrees κs g h a s b t p q e =
    p ∙ same_sign (of_bits binary32 a.0) (of_bits-fits binary32 a.0) ∙ ap (λ (x : Float). (lgamma_s x).sign) e ∙ sym q

pub single_entry_reports : (κs : Lfts 0) (g : ℤ) (a s : _) → lgammaf.Post κs a g s → (g ≡ pos 1) ⊎ (g ≡ negsuc 0)
single_entry_reports κs g a s p = reports_bits_f32 a.0 g p

-- 1 and 2. r, an answer of `rvt_tgammaf`, is no NaN's pattern, and its sign bit is set exactly where g is -1
pub single_entries_agree : (κs : Lfts 0) (r : ℕ) (g : ℤ) (a s t : _) → tgammaf.Post κs a r s → lgammaf.Post κs a g t
    → a.0 < 2 ^ 32 → FiniteBits binary32 a.0 → (NegativeWholeBits binary32 a.0 → ⊥)
    → (NanBits binary32 r → ⊥) × ((sign_bit binary32 r ≡ 1 → g ≡ negsuc 0) × (g ≡ negsuc 0 → sign_bit binary32 r ≡ 1))
single_entries_agree κs r g a s t p q l f w = (no_nan_bits_f32 a.0 r l f w p, same_sign_bits_f32 a.0 r g l f w p q)

-- and where h is -1, the two patterns being those of one value
pub wide_entry_agrees : (κs : Lfts 0) (r : ℕ) (h : ℤ) (a s b t : _) → tgammaf.Post κs a r s → lgamma.Post κs b h t
    → of_bits binary32 a.0 ≡ of_bits binary64 b.0
    → a.0 < 2 ^ 32 → FiniteBits binary32 a.0 → (NegativeWholeBits binary32 a.0 → ⊥)
    → (sign_bit binary32 r ≡ 1 → h ≡ negsuc 0) × (h ≡ negsuc 0 → sign_bit binary32 r ≡ 1)
wide_entry_agrees κs r h a s b t p q e l f w =
    same_sign_bits_wide a.0 r h l f w p (q ∙ ap (λ (x : Float). (lgamma_s x).sign) (sym e))

-- 3. that sign bit is set exactly where the argument's is and the whole part of its size is even
pub single_entries_rule : (κs : Lfts 0) (r : ℕ) (a s : _) → tgammaf.Post κs a r s
    → a.0 < 2 ^ 32 → FiniteBits binary32 a.0 → (NegativeWholeBits binary32 a.0 → ⊥)
    → (sign_bit binary32 r ≡ 1 → (sign_bit binary32 a.0 ≡ 1) × (whole_part_bits binary32 a.0 % 2 ≡ 0))
    × ((sign_bit binary32 a.0 ≡ 1) × (whole_part_bits binary32 a.0 % 2 ≡ 0) → sign_bit binary32 r ≡ 1)
single_entries_rule κs r a s p l f w = sign_rule_bits_f32 a.0 r l f w p

-- at a negative whole number
pub single_entries_at_poles : (κs : Lfts 0) (r : ℕ) (g : ℤ) (a s t : _) → tgammaf.Post κs a r s → lgammaf.Post κs a g t
    → FiniteBits binary32 a.0 → NegativeWholeBits binary32 a.0 → (r ≡ 0x7FC00000) × (g ≡ pos 1)
unfolding to_bits
single_entries_at_poles κs r g a s t p q f w = at_poles_bits_f32 a.0 r g f w p q
