-- sqrt: the square root, rounded once. Said of the value, and not in the Rust's order: its sqrt.rs is one machine instruction on x86-64 and on
-- aarch64, and this is what it gives. sqrt_s is what `sqrt` promises.
use Rattle.std.specs.Prelude.{ℕ, zero, suc, ◌+◌, ◌*◌, ◌/◌, ◌^◌, true, false, Float, if◌then◌else◌}
use Rattle.std.specs.Float.{nan, inf, fin, binary64}
use Rattle.std.specs.Float.Ieee.{up, down, size, round}
use Rattle.words.specs.Tests.{◌≤?◌, ◌=?◌}

-- The root of an n below 4 ^ k without its fraction: twice that of n / 4, or 1 more.
unfoldable pub root_of : ℕ → ℕ → ℕ
root_of zero n = 0
root_of (suc k) n = let r = 2 * root_of k (n / 4) in if (r + 1) * (r + 1) ≤? n then r + 1 else r

-- The greatest r with r * r ≤ n (law `root_is` of proofs/Root.antt).
unfoldable pub root : ℕ → ℕ
unfolding root_of
root n = root_of (size n) n

-- For a positive x, which is m * 2 ^ e, n = x * 4 ^ 601 is a whole number, and the root of x is that of n over 2 ^ 601. The root of n lies from
-- r to below r + 1. r has 65 binary digits or more, where an f64 has 53 and the middle of two neighbours 54: so all that lies between r and
-- r + 1 is rounded alike, and r + 1/2 stands for it. That the answer is finite and no other f64 lies as near to the root is law `sqrt_nearest` of
-- proofs/Nearest.antt.
unfoldable pub sqrt_s : Float → Float
unfolding root round
sqrt_s nan = nan
sqrt_s (inf true) = nan
sqrt_s (inf false) = inf false
sqrt_s (fin s zero e) = fin s zero e
sqrt_s (fin true (suc m) e) = nan
sqrt_s (fin false (suc m) e) =
    let n = suc m * up e * 4 ^ 601 / down e in
    let r = root n in
    round binary64 false (2 * r + (if r * r =? n then 0 else 1)) (2 * 2 ^ 601)
