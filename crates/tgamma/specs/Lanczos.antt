-- s of tgamma.rs: the Lanczos quotient S(x), for positive x. s_s is what the function `s`, of the crate alone, promises; down_s and up_s serve it,
-- and are what the private `down` and `up` promise of one of the Rust's two sums, num or den.
use Rattle.std.specs.Prelude.{List, [], ◌∷◌, Float, if◌then◌else◌}
use Rattle.words.specs.Tests.{◌<·◌}
use Rattle.words.specs.F64.{◌⊕◌, ◌⊗◌, ◌⊘◌, bits, 0·0, 8·0}

abbrev pub SNUM : List Float
SNUM =
    bits 0x4215EA5143C1A49E ∷  -- SNUM[0] 23531376880.410759688572007674451636754734846804940
    bits 0x4223FC7075F54C57 ∷  -- SNUM[1] 42919803642.649098768957899047001988850926355848959
    bits 0x4220A132818AB61A ∷  -- SNUM[2] 35711959237.355668049440185451547166705960488635843
    bits 0x4210B0B522E8261A ∷  -- SNUM[3] 17921034426.037209699919755754458931112671403265390
    bits 0x41F67FC1B3A5A1E8 ∷  -- SNUM[4] 6039542586.3520280050642916443072979210699388420708
    bits 0x41D57418F5D3F33F ∷  -- SNUM[5] 1439720407.3117216736632230727949123939715485786772
    bits 0x41ADAB0C7BB95F2A ∷  -- SNUM[6] 248874557.86205415651146038641322942321632125127801
    bits 0x417DF876F95DCC98 ∷  -- SNUM[7] 31426415.585400194380614231628318205362874684987640
    bits 0x4145F1E95080F44C ∷  -- SNUM[8] 2876370.6289353724412254090516208496135991145378768
    bits 0x4106B6421F8787EB ∷  -- SNUM[9] 186056.26539522349504029498971604569928220784236328
    bits 0x40BF87AC0858D804 ∷  -- SNUM[10] 8071.6720023658162106380029022722506138218516325024
    bits 0x406A5A607BBC3B52 ∷  -- SNUM[11] 210.82427775157934587250973392071336271166969580291
    bits 0x40040D931FF62705 ∷  -- SNUM[12] 2.5066282746310002701649081771338373386264310793408
    []

abbrev pub SDEN : List Float
SDEN =
    bits 0x0000000000000000 ∷  -- SDEN[0] 0.0
    bits 0x418308A800000000 ∷  -- SDEN[1] 39916800.0
    bits 0x419CBD6980000000 ∷  -- SDEN[2] 120543840.0
    bits 0x41A1FDA6B0000000 ∷  -- SDEN[3] 150917976.0
    bits 0x4199187170000000 ∷  -- SDEN[4] 105258076.0
    bits 0x4185EEB690000000 ∷  -- SDEN[5] 45995730.0
    bits 0x41697171E0000000 ∷  -- SDEN[6] 13339535.0
    bits 0x41441F7B00000000 ∷  -- SDEN[7] 2637558.0
    bits 0x4115D0BC00000000 ∷  -- SDEN[8] 357423.0
    bits 0x40DFE78000000000 ∷  -- SDEN[9] 32670.0
    bits 0x409E140000000000 ∷  -- SDEN[10] 1925.0
    bits 0x4050800000000000 ∷  -- SDEN[11] 66.0
    bits 0x3FF0000000000000 ∷  -- SDEN[12] 1.0
    []

-- for i in (0..=N).rev(): from 0.0, `num * x + SNUM[i]` with the last coefficient first
unfoldable pub down_s : List Float → Float → Float
down_s [] x = 0·0
down_s (c ∷ cs) x = down_s cs x ⊗ x ⊕ c

-- for i in 0..=N: from a, `num / x + SNUM[i]` with the first coefficient first
unfoldable pub up_s : Float → List Float → Float → Float
up_s a [] x = a
up_s a (c ∷ cs) x = up_s (a ⊘ x ⊕ c) cs x

unfoldable pub s_s : Float → Float
s_s x =
    if x <· 8·0 then
    (let num = down_s SNUM x in
    let den = down_s SDEN x in
    num ⊘ den)
    else
    let num = up_s 0·0 SNUM x in
    let den = up_s 0·0 SDEN x in
    num ⊘ den
