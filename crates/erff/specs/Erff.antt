-- erff.rs: its constants and cuts, and erff and erfcf by them. erff_s and erfcf_s are what `erff` and `erfcf` promise.
use Rattle.std.specs.Prelude.{[], ◌∷◌, Float}
use Rattle.std.specs.Float.{binary32}
use Rattle.words.specs.F32.{bits}
use Rattle.words.specs.Bits.{size_bits_s}
use Rattle.exp.specs.Expf.{expf_s}
use Rattle.erf.specs.Plan.{Plan}
use Rattle.erf.specs.Plan as Plan

abbrev pub erf32 : Plan
erf32 = record {
  format = binary32;
  ix = size_bits_s;
  not_finite = 0x7F800000;
  at0·84375 = 0x3F580000;
  at2^-28 = 0x31800000;
  at2^-56 = 0x23800000;
  at1/4 = 0x3E800000;
  at1·25 = 0x3FA00000;
  at1/0·35 = 0x4036DB6D;
  at6 = 0x40C00000;
  at28 = 0x41E00000;
  lost = 13;
  exp = expf_s;
  0·125 = bits 0x3E000000;  -- 0.125
  0·5 = bits 0x3F000000;  -- 0.5
  0·5625 = bits 0x3F100000;  -- 0.5625
  1·0 = bits 0x3F800000;  -- 1.0
  2·0 = bits 0x40000000;  -- 2.0
  8·0 = bits 0x41000000;  -- 8.0
  tiny = bits 0x03800000;  -- x1p_120 f32::from_bits(0x03800000)
  ERX = bits 0x3F58560B;  -- ERX 8.4506291151e-01
  EFX8 = bits 0x3F8375D4;  -- EFX8 1.0270333290e+00
  PP =
      bits 0x3E0375D4 ∷  -- PP0 1.2837916613e-01
      bits 0xBEA66BEB ∷  -- PP1 -3.2504209876e-01
      bits 0xBCE9528F ∷  -- PP2 -2.8481749818e-02
      bits 0xBBBD1489 ∷  -- PP3 -5.7702702470e-03
      bits 0xB7C756B1 ∷  -- PP4 -2.3763017452e-05
      [];
  QQ =
      bits 0x3F800000 ∷  -- 1.0
      bits 0x3ECBBBCE ∷  -- QQ1 3.9791721106e-01
      bits 0x3D852A63 ∷  -- QQ2 6.5022252500e-02
      bits 0x3BA68116 ∷  -- QQ3 5.0813062117e-03
      bits 0x390AEE49 ∷  -- QQ4 1.3249473704e-04
      bits 0xB684E21A ∷  -- QQ5 -3.9602282413e-06
      [];
  PA =
      bits 0xBB1ACDC6 ∷  -- PA0 -2.3621185683e-03
      bits 0x3ED46805 ∷  -- PA1 4.1485610604e-01
      bits 0xBEBE9208 ∷  -- PA2 -3.7220788002e-01
      bits 0x3EA2FE54 ∷  -- PA3 3.1834661961e-01
      bits 0xBDE31CC2 ∷  -- PA4 -1.1089469492e-01
      bits 0x3D1151B3 ∷  -- PA5 3.5478305072e-02
      bits 0xBB0DF9C0 ∷  -- PA6 -2.1663755178e-03
      [];
  QA =
      bits 0x3F800000 ∷  -- 1.0
      bits 0x3DD9F331 ∷  -- QA1 1.0642088205e-01
      bits 0x3F0A5785 ∷  -- QA2 5.4039794207e-01
      bits 0x3D931AE7 ∷  -- QA3 7.1828655899e-02
      bits 0x3E013307 ∷  -- QA4 1.2617121637e-01
      bits 0x3C5F6E13 ∷  -- QA5 1.3637083583e-02
      bits 0x3C445AA3 ∷  -- QA6 1.1984500103e-02
      [];
  RA =
      bits 0xBC21A093 ∷  -- RA0 -9.8649440333e-03
      bits 0xBF31A0B7 ∷  -- RA1 -6.9385856390e-01
      bits 0xC128F022 ∷  -- RA2 -1.0558626175e+01
      bits 0xC2798057 ∷  -- RA3 -6.2375331879e+01
      bits 0xC322658C ∷  -- RA4 -1.6239666748e+02
      bits 0xC3389AE7 ∷  -- RA5 -1.8460508728e+02
      bits 0xC2A2932B ∷  -- RA6 -8.1287437439e+01
      bits 0xC11D077E ∷  -- RA7 -9.8143291473e+00
      [];
  SA =
      bits 0x3F800000 ∷  -- 1.0
      bits 0x419D35CE ∷  -- SA1 1.9651271820e+01
      bits 0x4309A863 ∷  -- SA2 1.3765776062e+02
      bits 0x43D9486F ∷  -- SA3 4.3456588745e+02
      bits 0x442158C9 ∷  -- SA4 6.4538726807e+02
      bits 0x43D6810B ∷  -- SA5 4.2900814819e+02
      bits 0x42D9451F ∷  -- SA6 1.0863500214e+02
      bits 0x40D23F7C ∷  -- SA7 6.5702495575e+00
      bits 0xBD777F97 ∷  -- SA8 -6.0424413532e-02
      [];
  RB =
      bits 0xBC21A092 ∷  -- RB0 -9.8649431020e-03
      bits 0xBF4C9DD4 ∷  -- RB1 -7.9928326607e-01
      bits 0xC18E104B ∷  -- RB2 -1.7757955551e+01
      bits 0xC320A2EA ∷  -- RB3 -1.6063638306e+02
      bits 0xC41F6441 ∷  -- RB4 -6.3756646729e+02
      bits 0xC480230B ∷  -- RB5 -1.0250950928e+03
      bits 0xC3F1C275 ∷  -- RB6 -4.8351919556e+02
      [];
  SB =
      bits 0x3F800000 ∷  -- 1.0
      bits 0x41F2B459 ∷  -- SB1 3.0338060379e+01
      bits 0x43A2E571 ∷  -- SB2 3.2579251099e+02
      bits 0x44C01759 ∷  -- SB3 1.5367296143e+03
      bits 0x4547FDBB ∷  -- SB4 3.1998581543e+03
      bits 0x451F90CE ∷  -- SB5 2.5530502930e+03
      bits 0x43ED43A7 ∷  -- SB6 4.7452853394e+02
      bits 0xC1B38712 ∷  -- SB7 -2.2440952301e+01
      [];
}

abbrev pub erff_s : Float → Float
erff_s x = Plan.erf_s erf32 x

abbrev pub erfcf_s : Float → Float
erfcf_s x = Plan.erfc_s erf32 x
