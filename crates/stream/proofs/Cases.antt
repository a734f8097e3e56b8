-- The counts of batches on one record of erf, of both error functions or of tgammaf, on the start of one, on an unknown kind and on nothing, by
-- computation: they look at no value. Assumes nothing.
use mathlib.Core.Path.{◌≡◌, refl}
use mathlib.Core.List.{List, [], ◌∷◌}
use Prim.Native.Nat.{ℕ}
use Rattle.digits.specs.Digits.{digits}
use Rattle.records.specs.declared.Code.{Code}
use Rattle.records.specs.declared.Code.TheVariants.{Done, Unknown, Cut, Full}
use Rattle.records.specs.Reply.{bytes_of}
use Rattle.records.specs.Row.{row_in}
use Rattle.records.specs.Run.{Out, run, run_by, steps_by, one}
use Rattle.kinds.specs.Shape.{shape_in}
use Rattle.kinds.specs.Kinds.{shapes}
use Rattle.replies.specs.Table.{meanings, table}

-- code, records, bytes read and bytes written
abbrev Counts : Out → Code → ℕ → ℕ → ℕ → Type 0
Counts o code records read written = (o.code ≡ code) × (o.tally ≡ record { records = records; read = read; written = written })

-- erf of 6
abbrev erf6 : List ℕ
erf6 = 3 ∷ 0 ∷ 0 ∷ 0 ∷ 0 ∷ 0 ∷ 0 ∷ 24 ∷ 64 ∷ []

pub whole : Counts (run table erf6 9) Done 1 9 9
unfolding run_by steps_by one row_in table meanings shapes shape_in bytes_of digits
whole = (refl, refl)

pub no_room : Counts (run table erf6 8) Full 0 0 0
unfolding run_by steps_by one row_in table meanings shapes shape_in bytes_of digits
no_room = (refl, refl)

-- both error functions of 6: a kind of nine bytes in and seventeen out
abbrev both6 : List ℕ
both6 = 7 ∷ 0 ∷ 0 ∷ 0 ∷ 0 ∷ 0 ∷ 0 ∷ 24 ∷ 64 ∷ []

pub both : Counts (run table both6 17) Done 1 9 17
unfolding run_by steps_by one row_in table meanings shapes shape_in bytes_of digits
both = (refl, refl)

pub both_no_room : Counts (run table both6 16) Full 0 0 0
unfolding run_by steps_by one row_in table meanings shapes shape_in bytes_of digits
both_no_room = (refl, refl)

pub both_cut : Counts (run table (7 ∷ 0 ∷ 0 ∷ 0 ∷ 0 ∷ 0 ∷ 0 ∷ 24 ∷ []) 17) Cut 0 0 0
unfolding run_by steps_by one row_in table meanings shapes shape_in bytes_of digits
both_cut = (refl, refl)

-- tgammaf of 1: a kind of five bytes in and five out
abbrev tgammaf1 : List ℕ
tgammaf1 = 18 ∷ 0 ∷ 0 ∷ 128 ∷ 63 ∷ []

pub single : Counts (run table tgammaf1 5) Done 1 5 5
unfolding run_by steps_by one row_in table meanings shapes shape_in bytes_of digits
single = (refl, refl)

pub single_no_room : Counts (run table tgammaf1 4) Full 0 0 0
unfolding run_by steps_by one row_in table meanings shapes shape_in bytes_of digits
single_no_room = (refl, refl)

pub single_cut : Counts (run table (18 ∷ 0 ∷ 0 ∷ 128 ∷ []) 5) Cut 0 0 0
unfolding run_by steps_by one row_in table meanings shapes shape_in bytes_of digits
single_cut = (refl, refl)

pub cut_before_full : Counts (run table (4 ∷ 0 ∷ []) 0) Cut 0 0 0
unfolding run_by steps_by one row_in table meanings shapes shape_in bytes_of digits
cut_before_full = (refl, refl)

pub unknown_before_cut : Counts (run table (200 ∷ []) 0) Unknown 0 0 0
unfolding run_by steps_by one row_in table meanings shapes shape_in bytes_of digits
unknown_before_cut = (refl, refl)

pub nothing : Counts (run table [] 0) Done 0 0 0
unfolding run_by steps_by one row_in table meanings shapes shape_in bytes_of digits
nothing = (refl, refl)
