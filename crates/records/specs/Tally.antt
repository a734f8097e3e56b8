-- What a run counts: records, or lines, that it took, bytes read, bytes written.
use Rattle.std.specs.Prelude.{◌+◌, ◌%◌, ◌^◌}
use Rattle.records.specs.declared.Tally.{Tally}

abbrev pub nothing : Tally
nothing = record { records = 0; read = 0; written = 0 }

-- the counts of one run and then of another
infixl 65 ◌⊞◌
abbrev pub ◌⊞◌ : Tally → Tally → Tally
a ⊞ b = record { records = a.records + b.records; read = a.read + b.read; written = a.written + b.written }

-- each count as a usize has it: modulo 2 ^ 64
abbrev pub wrapped : Tally → Tally
wrapped a = record { records = a.records % 2 ^ 64; read = a.read % 2 ^ 64; written = a.written % 2 ^ 64 }
