-- The plan that the constants of a width make. `float` reads its numbers; the literals, the word, log and the sine of pi x are the width's.
use Rattle.std.specs.Prelude.{ℕ, Bool, map, Float}
use Rattle.std.specs.Float.{Format}
use Rattle.lgamma.specs.Plan.{Plan}
use Rattle.lgamma.specs.declared.width.Constants.{Constants}

module _ {R : Type 0} (format : Format) (float : R → Float) (zero half one two : R) where
  abbrev pub plan_of : (Float → ℕ) → (Float → Float) → (Float → Float) → (ℕ → Float → Bool) → Constants R → Plan
  plan_of word log sin_pi is_one_or_two c = record {
    format = format;
    ix = word;
    is_one_or_two = is_one_or_two;
    not_finite = c.not_finite;
    tiny = c.tiny;
    at2 = c.at_2;
    at8 = c.at_8;
    at2^58 = c.at_2_58;
    to0·9 = c.up_to_0_9;
    at0·7316 = c.at_0_7316;
    at0·2316 = c.at_0_2316;
    at1·7316 = c.at_1_7316;
    at1·2316 = c.at_1_2316;
    log = log;
    sin_pi = sin_pi;
    0·0 = float zero;
    0·5 = float half;
    -0·5 = float c.minus_half;
    1·0 = float one;
    2·0 = float two;
    3·0 = float c.three;
    4·0 = float c.four;
    5·0 = float c.five;
    6·0 = float c.six;
    PI = float c.pi;
    TC = float c.tc;
    TF = float c.tf;
    TT = float c.tt;
    A_even = map float c.a_even.now;
    A_odd = map float c.a_odd.now;
    T·0 = map float c.t_0.now;
    T·1 = map float c.t_1.now;
    T·2 = map float c.t_2.now;
    U = map float c.u.now;
    «V» = map float c.v.now;
    S = map float c.s.now;
    R = map float c.r.now;
    W0 = float c.w0;
    W = map float c.w.now;
  }
