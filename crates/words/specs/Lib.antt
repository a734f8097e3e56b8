-- What the functions of `words` promise, and the key to the notation of every crate's definitions:
--   pow_s                    a name's _s: what the function `pow` promises. What serves it has a name by what it does, or the Rust's
--   expf_s                   in f32 a public name has the Rust's f; what serves it has the name of the f64 text, in a file of its own
--   if t then a else b       the Rust's `if`, also one that returns early: `else` takes in all that follows. `pick t a b` is the same
--   m <? n, i <ℤ? k, x <· y  tests of natural numbers, of integers and of floats; so with > ≤ ≥ = ≠
--   x ⊕ y, and ⊖ ⊗ ⊘         + - * / of floats, each rounded once
--   bits 0x3FF8000000000000  the float with that bit pattern; behind it, in a comment, the Rust's name or literal or both
--   0·5                      the literal 0.5: `·` stands for the point
--   h / 2 ^ k, h % 2 ^ k     the Rust's `h >> k` and `h & (2^k - 1)`, of natural numbers; `h ≥? 2 ^ 31` is its `h >> 31 != 0`
--   pos n, negsuc n, neg_ℤ i the integers n and -(n + 1), and -i; of_int f i is `i as f64` or `as f32`, by the format f
--   let x = .. in            an assignment: a later one of the same name hides the earlier
-- Read in this order.
pub mod Pick
pub mod Tests
pub mod Operators
pub mod F64
pub mod F32
pub mod Bits
pub mod Fabs
pub mod Real
