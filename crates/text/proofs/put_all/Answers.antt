-- `text::put_all` meets its contract: where there is room for all of it, all of it is stored. Assumes nothing.
use mathlib.Core.Path.{sym, ◌∙◌}
use native.Mathlib.Omega.{arith}
use Rattle.std.proofs.lemmas.List.{take_all}
use Rattle.digits.proofs.StoreLaws.{sets_part}
use Rattle.text.proofs.put_all.Goals as goal

pub returns-then-n-s : goal.returns-then-n-s
returns-then-n-s c =
    let a = c.args in
    sets_part a.out.now a.s.now _ a.at c.min-n.result (omega arith) c.min-n.ensures (c.copy_from_slice.ensures.after ∙ sym (take_all c.min-n.result a.s.now (omega arith)))
