-- lgammaf_r.rs: its constants and cuts, and lgammaf_r by them. lgammaf_s is what `lgammaf_r` promises.
use Rattle.std.specs.Prelude.{◌||◌, [], ◌∷◌, Float}
use Rattle.std.specs.Float.{binary32}
use Rattle.words.specs.Tests.{◌=?◌}
use Rattle.words.specs.F32.{bits}
use Rattle.words.specs.Bits.{size_bits_s}
use Rattle.logarithm.specs.Logf.{logf_s}
use Rattle.sinpi.specs.Sinpif.{sinpif_s}
use Rattle.lgamma.specs.Plan.{Plan, Answer}
use Rattle.lgamma.specs.Plan as Plan

abbrev pub lgamma32 : Plan
lgamma32 = record {
  format = binary32;
  ix = size_bits_s;
  is_one_or_two = λ ix x. ix =? 0x3F800000 || ix =? 0x40000000;
  not_finite = 0x7F800000;
  tiny = 0x35000000;
  at2 = 0x40000000;
  at8 = 0x41000000;
  at2^58 = 0x5C800000;
  to0·9 = 0x3F666666;
  at0·7316 = 0x3F3B4A20;
  at0·2316 = 0x3E6D3308;
  at1·7316 = 0x3FDDA618;
  at1·2316 = 0x3F9DA620;
  log = logf_s;
  sin_pi = sinpif_s;
  0·0 = bits 0x00000000;  -- 0.0
  0·5 = bits 0x3F000000;  -- 0.5
  -0·5 = bits 0xBF000000;  -- -0.5
  1·0 = bits 0x3F800000;  -- 1.0
  2·0 = bits 0x40000000;  -- 2.0
  3·0 = bits 0x40400000;  -- 3.0
  4·0 = bits 0x40800000;  -- 4.0
  5·0 = bits 0x40A00000;  -- 5.0
  6·0 = bits 0x40C00000;  -- 6.0
  PI = bits 0x40490FDB;  -- PI 3.1415927410e+00
  TC = bits 0x3FBB16C3;  -- TC 1.4616321325e+00
  TF = bits 0xBDF8CDCD;  -- TF -1.2148628384e-01
  TT = bits 0x31E61C52;  -- TT 6.6971006518e-09
  A_even =
      bits 0x3D9E233F ∷  -- A0 7.7215664089e-02
      bits 0x3D89F001 ∷  -- A2 6.7352302372e-02
      bits 0x3BF2027E ∷  -- A4 7.3855509982e-03
      bits 0x3A9C54A1 ∷  -- A6 1.1927076848e-03
      bits 0x39679767 ∷  -- A8 2.2086278477e-04
      bits 0x37D383A2 ∷  -- A10 2.5214456400e-05
      [];
  A_odd =
      bits 0x3EA51A66 ∷  -- A1 3.2246702909e-01
      bits 0x3CA89915 ∷  -- A3 2.0580807701e-02
      bits 0x3B3D6EC6 ∷  -- A5 2.8905137442e-03
      bits 0x3A05B634 ∷  -- A7 5.1006977446e-04
      bits 0x38E28445 ∷  -- A9 1.0801156895e-04
      bits 0x383C2C75 ∷  -- A11 4.4864096708e-05
      [];
  T·0 =
      bits 0x3EF7B95E ∷  -- T0 4.8383611441e-01
      bits 0xBD064D47 ∷  -- T3 -3.2788541168e-02
      bits 0x3BC7E707 ∷  -- T6 6.1005386524e-03
      bits 0xBAB7F476 ∷  -- T9 -1.4034647029e-03
      bits 0x39A57B6B ∷  -- T12 3.1563205994e-04
      [];
  T·1 =
      bits 0xBE17213C ∷  -- T1 -1.4758771658e-01
      bits 0x3C93373D ∷  -- T4 1.7970675603e-02
      bits 0xBB7177FE ∷  -- T7 -3.6845202558e-03
      bits 0x3A66F867 ∷  -- T10 8.8108185446e-04
      bits 0xB9A3F927 ∷  -- T13 -3.1275415677e-04
      [];
  T·2 =
      bits 0x3D845A15 ∷  -- T2 6.4624942839e-02
      bits 0xBC28FCFE ∷  -- T5 -1.0314224288e-02
      bits 0x3B141699 ∷  -- T8 2.2596477065e-03
      bits 0xBA0D3085 ∷  -- T11 -5.3859531181e-04
      bits 0x39AFE9F7 ∷  -- T14 3.3552918467e-04
      [];
  U =
      bits 0xBD9E233F ∷  -- U0 -7.7215664089e-02
      bits 0x3F2200F4 ∷  -- U1 6.3282704353e-01
      bits 0x3FBA3AE7 ∷  -- U2 1.4549225569e+00
      bits 0x3F7A4BB2 ∷  -- U3 9.7771751881e-01
      bits 0x3E6A7578 ∷  -- U4 2.2896373272e-01
      bits 0x3C5B3C5E ∷  -- U5 1.3381091878e-02
      [];
  «V» =
      bits 0x3F800000 ∷  -- 1.0
      bits 0x401D2EBE ∷  -- V1 2.4559779167e+00
      bits 0x4008392D ∷  -- V2 2.1284897327e+00
      bits 0x3F44EFDF ∷  -- V3 7.6928514242e-01
      bits 0x3DD572AF ∷  -- V4 1.0422264785e-01
      bits 0x3B52D5DB ∷  -- V5 3.2170924824e-03
      [];
  S =
      bits 0xBD9E233F ∷  -- S0 -7.7215664089e-02
      bits 0x3E5C245A ∷  -- S1 2.1498242021e-01
      bits 0x3EA6CC7A ∷  -- S2 3.2577878237e-01
      bits 0x3E15DCE6 ∷  -- S3 1.4635047317e-01
      bits 0x3CDA40E4 ∷  -- S4 2.6642270386e-02
      bits 0x3AF135B4 ∷  -- S5 1.8402845599e-03
      bits 0x3805FF67 ∷  -- S6 3.1947532989e-05
      [];
  R =
      bits 0x3F800000 ∷  -- 1.0
      bits 0x3FB22D3B ∷  -- R1 1.3920053244e+00
      bits 0x3F38D0C5 ∷  -- R2 7.2193557024e-01
      bits 0x3E300F6E ∷  -- R3 1.7193385959e-01
      bits 0x3C98BF54 ∷  -- R4 1.8645919859e-02
      bits 0x3A4BEED6 ∷  -- R5 7.7794247773e-04
      bits 0x36F5D7BD ∷  -- R6 7.3266842264e-06
      [];
  W0 = bits 0x3ED67F1D;  -- W0 4.1893854737e-01
  W =
      bits 0x3DAAAAAB ∷  -- W1 8.3333335817e-02
      bits 0xBB360B61 ∷  -- W2 -2.7777778450e-03
      bits 0x3A500CFD ∷  -- W3 7.9365057172e-04
      bits 0xBA1C065C ∷  -- W4 -5.9518753551e-04
      bits 0x3A5B3DD2 ∷  -- W5 8.3633989561e-04
      bits 0xBAD5C4E8 ∷  -- W6 -1.6309292987e-03
      [];
}

abbrev pub lgammaf_s : Float → Answer
lgammaf_s x = Plan.lgamma_s lgamma32 x
