-- The laws that the proofs of `scalbn` cite, and those that callers cite.
-- Exponents: sums of an exponent and a bound, as an i32 and as an integer
pub mod Exponents
-- ScalbnCode: what the code of scalbn needs, and what each of its returns gives, over the width
pub mod ScalbnCode
-- OneProduct: where scalbn is one product, and how large its power of 2 is
pub mod OneProduct
