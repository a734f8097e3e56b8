-- from 1/4 to 4: the power of 2 that is left when n is taken off
pub mod FractionRange
-- n is near z
pub mod NearZ
-- the same of the values of z and n
pub mod NValue
-- what is left of z when n is taken off is small
pub mod Reduced
-- so the power of 2 that is left lies from 1/4 to 4, in either case
pub mod Exp2Range
-- exp2_s carries no minus sign and is no NaN
pub mod Exp2Sign
-- the same of product_s, for y up to 92 and a logarithm up to 8 in size
pub mod ProductSign
-- t1 and t2 by intervals on cells of the high word
pub mod LogCells
-- their tests
pub mod LogTests
-- t1 and t2 for x from 4 to below 256
pub mod LogRange
-- pow is no NaN and carries no minus sign where tgamma calls it
pub mod PowSign
