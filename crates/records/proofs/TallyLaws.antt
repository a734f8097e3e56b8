-- Laws of adding tallies. Whatever is counted, a run's laws use these alone. Assumes nothing.
use mathlib.Core.Path.{◌≡◌}
use Prim.Native.Nat.{◌<◌, ◌^◌}
use native.Mathlib.Nat.{add_assoc, zero-add, add-zero, mod-eq_of_lt}
use Rattle.records.specs.Tally.{nothing, ◌⊞◌, wrapped}
use Rattle.records.specs.declared.Tally.{Tally}

pub ⊞_assoc : (a b c : Tally) → a ⊞ b ⊞ c ≡ a ⊞ (b ⊞ c)
⊞_assoc a b c = λ i. record {
  records = add_assoc a.records b.records c.records i;
  read = add_assoc a.read b.read c.read i;
  written = add_assoc a.written b.written c.written i;
}

pub nothing_⊞ : (a : Tally) → nothing ⊞ a ≡ a
nothing_⊞ a = λ i. record { records = zero-add a.records i; read = zero-add a.read i; written = zero-add a.written i }

pub ⊞_nothing : (a : Tally) → a ⊞ nothing ≡ a
⊞_nothing a = λ i. record { records = add-zero a.records i; read = add-zero a.read i; written = add-zero a.written i }

-- counts that fit do not wrap
pub wrapped_fits : (a : Tally) → a.records < 2 ^ 64 → a.read < 2 ^ 64 → a.written < 2 ^ 64 → wrapped a ≡ a
wrapped_fits a h k l = λ i. record { records = mod-eq_of_lt h i; read = mod-eq_of_lt k i; written = mod-eq_of_lt l i }
