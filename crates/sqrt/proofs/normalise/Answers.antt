-- `sqrt::normalise` meets its contract. Assumes nothing.
use mathlib.Core.Path.{◌≡◌, sym, subst}
use mathlib.Core.Bool.{false}
use Prim.Native.Nat.{ℕ, ◌-◌, ◌*◌, ◌%◌, ◌^◌}
use native.Mathlib.Nat.{mod-eq_of_lt}
use native.Mathlib.Omega.{arith}
use lib.Count.{count_leading_zeros}
use lib.Ieee.{binary64, of_bits}
use lib.Ieee.Exact.{HasValue}
use Rattle.sqrt.proofs.Scaled.{moved, subnormal_value, normal_value}
use Rattle.sqrt.proofs.normalise.Goals as goal

pub overflow_sub-up : goal.overflow_sub-up
overflow_sub-up c = let t = moved c.args.ix (omega arith) (omega arith) in omega arith

pub returns-then-e-eq0 : goal.returns-then-e-eq0
returns-then-e-eq0 c =
    let b = c.args.ix in
    let t = moved b (omega arith) (omega arith) in
    let l = count_leading_zeros 64 b - 11 in
    let e : b * 2 ^ l % 2 ^ 64 ≡ b * 2 ^ l = mod-eq_of_lt (omega arith) in record {
      has_value = subst (λ (m : ℕ). HasValue (of_bits binary64 b) false (m * 2 ^ (1024 - l)) (2 ^ 2098)) (sym e) (subnormal_value b l (omega arith) (omega arith));
      bound = (rw e t.from, rw e t.upto, omega arith, omega arith);
    }

pub returns : goal.returns
returns c = record {
  has_value = normal_value c.args.ix (omega arith) (omega arith);
  bound = (omega arith, omega arith, omega arith, omega arith);
}
