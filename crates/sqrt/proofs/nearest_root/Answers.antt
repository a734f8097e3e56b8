-- `sqrt::nearest_root` meets its contract. Assumes nothing.
use native.Mathlib.Omega.{arith}
use Rattle.sqrt.proofs.Turns.{root_shorter, digit_one, digit_zero}
use Rattle.sqrt.proofs.nearest_root.Goals as goal
use Rattle.sqrt.proofs.nearest_root.Goals.{then-rest-root, else-rest-root}

pub overflow_mul-rest : goal.overflow_mul-rest
overflow_mul-rest c = omega (arith, root_shorter _ _ _ _ _ c.loop.invariant (omega arith))

pub overflow_add-rest : goal.overflow_add-rest
overflow_add-rest c = omega (arith, root_shorter _ _ _ _ _ c.loop.invariant (omega arith))

pub overflow_mul-root-in-loop : goal.overflow_mul-root-in-loop
overflow_mul-root-in-loop c = omega (arith, root_shorter _ _ _ _ _ c.loop.invariant (omega arith))

pub overflow_mul-rest-then-rest-root : goal.overflow_mul-rest-then-rest-root
overflow_mul-rest-then-rest-root c = omega (arith, root_shorter _ _ _ _ _ c.loop.invariant (omega arith))

pub overflow_add-rest-then-rest-root : goal.overflow_add-rest-then-rest-root
overflow_add-rest-then-rest-root c = omega (arith, root_shorter _ _ _ _ _ c.loop.invariant (omega arith))

pub loop-preserved : goal.loop-preserved
loop-preserved c =
    let t = c.loop.invariant in
    elim c.if-rest-root.branch [
      | then-rest-root w ↦ rw (w.root-is, w.rest-is) (digit_one _ _ _ _ _ t (omega arith) w.if-rest-root.true)
      | else-rest-root w ↦ rw (w.root-is, w.rest-is) (digit_zero _ _ _ _ _ t (omega arith) w.if-rest-root.false)
    ]
