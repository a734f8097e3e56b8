-- `sqrt::root_bits` meets its contract. Assumes nothing.
use Prim.Native.Nat.{◌*◌, ◌^◌}
use native.Mathlib.Omega.{arith}
use Rattle.sqrt.proofs.Positive.{even_part, odd_part, root_at}
use Rattle.sqrt.proofs.root_bits.Goals as goal
use Rattle.sqrt.proofs.root_bits.Goals.{then-b-eq0, else-b-eq0}

pub returns : goal.returns
returns c =
    let x = c.normalise-m in
    let m = x.result.m in
    let b = x.result.b in
    let near = c.nearest_root.ensures in
    elim c.if-b-eq0.branch [
      | then-b-eq0 w ↦
          root_at _ (m * 2 ^ b) b m c.nearest_root.result x.ensures.has_value (even_part m b w.if-b-eq0.true)
          (omega arith) (omega arith) (omega arith) (omega arith) (rw w.a-is at near)
      | else-b-eq0 w ↦
          root_at _ (m * 2 ^ b) b (m * 2) c.nearest_root.result x.ensures.has_value (odd_part m b w.if-b-eq0.false)
          (omega arith) (omega arith) (omega arith) (omega arith) (rw w.a-is at near)
    ]
