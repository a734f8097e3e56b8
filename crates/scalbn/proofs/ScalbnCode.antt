-- What the code of `scalbn` needs of its exponents, and what each return gives, over the format. Assumes nothing.
use mathlib.Core.Path.{◌≡◌, refl, ap, ◌∙◌}
use mathlib.Core.Bool.{true, false}
use lib.Dec.{lit<, lit≤}
use lib.IntN.{ℤ, pos, neg_ℤ, ◌+ℤ◌, ◌-ℤ◌}
use lib.Signed.{lt_z}
use lib.Ieee.{Float, Format, binary32, binary64, prec, mul}
use mir.Syntax.{w32}
use mir.Val.{SFits}
use mir.ValLaws.{to_z-of_z}
use Rattle.scalbn.specs.Scalbn.{exp_max, exp_min, sig_total_bits, power2, up_s, down_s, scalbn_s}
use Rattle.scalbn.proofs.Exponents.{local, held_sum, less_fits, less_above, more_fits, more_below}

-- n is the exponent of a normal power of 2
abbrev pub Normal : Format → ℤ → Type 0
Normal f n = (lt_z n (exp_min f) ≡ false) × (lt_z (exp_max f) n ≡ false)

-- ---- the width's constants, as the code's locals hold them
local_max : (f : Format) → local (exp_max f) ≡ exp_max f
local_max binary32 = refl
local_max binary64 = refl

pub max_held : (f : Format) (z : ℤ) → z ≡ exp_max f → local z ≡ exp_max f
max_held f z e = ap local e ∙ local_max f

local_min : (f : Format) → local (exp_min f) ≡ exp_min f
local_min binary32 = refl
local_min binary64 = refl

pub min_held : (f : Format) (z : ℤ) → z ≡ exp_min f → local z ≡ exp_min f
min_held f z e = ap local e ∙ local_min f

-- ---- n > exp_max
less_than_max : (f : Format) (n : ℤ) → SFits w32 n → lt_z (exp_max f) n ≡ true → SFits w32 (n -ℤ exp_max f)
less_than_max binary32 n F t = less_fits 126 n F t
less_than_max binary64 n F t = less_fits 1022 n F t

less_from_min : (f : Format) (n : ℤ) → lt_z (exp_max f) n ≡ true → lt_z (n -ℤ exp_max f) (exp_min f) ≡ false
less_from_min binary32 n t = less_above 126 125 n t
less_from_min binary64 n t = less_above 1022 1021 n t

module _ (f : Format) (n : ℤ) (F : SFits w32 n) (above : lt_z (exp_max f) n ≡ true) where
  -- n1 and n2 as the code's locals hold them
  abbrev up1 : ℤ
  up1 = local (local n -ℤ exp_max f)

  abbrev up2 : ℤ
  up2 = local (up1 -ℤ exp_max f)

  -- x scaled once and twice
  abbrev x1 : Float → Float
  x1 x = mul f x (power2 f (exp_max f))

  abbrev x2 : Float → Float
  x2 x = mul f (x1 x) (power2 f (exp_max f))

  n1_fits : SFits w32 (n -ℤ exp_max f)
  n1_fits = less_than_max f n F above

  up1_is : up1 ≡ n -ℤ exp_max f
  up1_is = held_sum n (neg_ℤ (exp_max f)) F n1_fits

  pub up1_normal : lt_z (exp_max f) up1 ≡ false → Normal f up1
  up1_normal t = (rw up1_is (less_from_min f n above), t)

  pub up_once : (x : Float) → lt_z (exp_max f) up1 ≡ false → mul f (x1 x) (power2 f up1) ≡ up_s f x n
  unfolding up_s
  up_once x t = simp (up1_is, rw up1_is at t)

  module _ (again : lt_z (exp_max f) up1 ≡ true) where
    n1_above : lt_z (exp_max f) (n -ℤ exp_max f) ≡ true
    n1_above = rw up1_is at again

    n2_fits : SFits w32 (n -ℤ exp_max f -ℤ exp_max f)
    n2_fits = less_than_max f (n -ℤ exp_max f) n1_fits n1_above

    up2_is : up2 ≡ n -ℤ exp_max f -ℤ exp_max f
    up2_is = ap (λ (v : ℤ). local (v -ℤ exp_max f)) up1_is ∙ to_z-of_z w32 (n -ℤ exp_max f -ℤ exp_max f) n2_fits

    pub up2_normal : lt_z (exp_max f) up2 ≡ false → Normal f up2
    up2_normal t = (rw up2_is (less_from_min f (n -ℤ exp_max f) n1_above), t)

    pub up_twice : (x : Float) → lt_z (exp_max f) up2 ≡ false → mul f (x2 x) (power2 f up2) ≡ up_s f x n
    unfolding up_s
    up_twice x t = simp (up2_is, n1_above, rw up2_is at t)

    pub up_thrice : (x : Float) → lt_z (exp_max f) up2 ≡ true → mul f (x2 x) (power2 f (exp_max f)) ≡ up_s f x n
    unfolding up_s
    up_thrice x t = simp (n1_above, rw up2_is at t)

-- the same of the code's values, where max is the width's EXP_MAX
module _ (f : Format) (n max : ℤ) (F : SFits w32 n) (above : lt_z (exp_max f) n ≡ true) (e : max ≡ exp_max f) where
  max_is : local max ≡ exp_max f
  max_is = max_held f max e

  abbrev held1 : ℤ
  held1 = local (local n -ℤ local max)

  abbrev held2 : ℤ
  held2 = local (held1 -ℤ local max)

  pub held1_normal : lt_z (local max) held1 ≡ false → Normal f held1
  held1_normal t = rw max_is (up1_normal f n F above (rw max_is at t))

  pub held2_normal : lt_z (local max) held1 ≡ true → lt_z (local max) held2 ≡ false → Normal f held2
  held2_normal t u = rw max_is (up2_normal f n F above (rw max_is at t) (rw max_is at u))

  module _ (x greatest y : Float) (is_greatest : greatest ≡ power2 f (local max)) (is_y : y ≡ mul f x greatest) where
    pub by_one : (p r : Float) → p ≡ power2 f held1 → r ≡ mul f y p → lt_z (local max) held1 ≡ false → r ≡ up_s f x n
    by_one p r is_p is_r t = rw (is_r, is_p, is_y, is_greatest, max_is) (up_once f n F above x (rw max_is at t))

    module _ (z : Float) (is_z : z ≡ mul f y greatest) (t : lt_z (local max) held1 ≡ true) where
      pub by_two : (p r : Float) → p ≡ power2 f held2 → r ≡ mul f z p → lt_z (local max) held2 ≡ false → r ≡ up_s f x n
      by_two p r is_p is_r u = rw (is_r, is_p, is_z, is_y, is_greatest, max_is) (up_twice f n F above (rw max_is at t) x (rw max_is at u))

      pub by_three : (r : Float) → r ≡ mul f z greatest → lt_z (local max) held2 ≡ true → r ≡ up_s f x n
      by_three r is_r u = rw (is_r, is_z, is_y, is_greatest, max_is) (up_thrice f n F above (rw max_is at t) x (rw max_is at u))

-- ---- n < exp_min
-- -exp_min - sig_total_bits
abbrev pub add : Format → ℤ
add f = neg_ℤ (exp_min f) -ℤ pos (prec f)

local_bits : (f : Format) → local (sig_total_bits f) ≡ sig_total_bits f
local_bits binary32 = refl
local_bits binary64 = refl

pub bits_held : (f : Format) (z : ℤ) → z ≡ sig_total_bits f → local z ≡ sig_total_bits f
bits_held f z e = ap local e ∙ local_bits f

local_add : (f : Format) → local (local (pos 0 -ℤ local (exp_min f)) -ℤ local (sig_total_bits f)) ≡ add f
local_add binary32 = refl
local_add binary64 = refl

pub add_held : (f : Format) (z b : ℤ) → z ≡ exp_min f → b ≡ sig_total_bits f → local (local (pos 0 -ℤ local z) -ℤ local b) ≡ add f
add_held f z b e d = ap (λ (v : ℤ). local (local (pos 0 -ℤ local v) -ℤ local b)) e ∙ ap (λ (v : ℤ). local (local (pos 0 -ℤ local (exp_min f)) -ℤ local v)) d ∙ local_add f

more_than_min : (f : Format) (n : ℤ) → SFits w32 n → lt_z n (exp_min f) ≡ true → SFits w32 (n +ℤ add f)
more_than_min binary32 n F t = more_fits 125 102 n (lit< tt) F t
more_than_min binary64 n F t = more_fits 1021 969 n (lit< tt) F t

more_to_max : (f : Format) (n : ℤ) → lt_z n (exp_min f) ≡ true → lt_z (exp_max f) (n +ℤ add f) ≡ false
more_to_max binary32 n t = more_below 125 102 127 n (lit≤ tt) t
more_to_max binary64 n t = more_below 1021 969 1023 n (lit≤ tt) t

module _ (f : Format) (n : ℤ) (F : SFits w32 n) (below : lt_z n (exp_min f) ≡ true) where
  -- n1 and n2 as the code's locals hold them
  abbrev down1 : ℤ
  down1 = local (local n +ℤ add f)

  abbrev down2 : ℤ
  down2 = local (down1 +ℤ add f)

  abbrev scale : Float
  scale = mul f (power2 f (exp_min f)) (power2 f (pos (prec f)))

  m1_fits : SFits w32 (n +ℤ add f)
  m1_fits = more_than_min f n F below

  down1_is : down1 ≡ n +ℤ add f
  down1_is = held_sum n (add f) F m1_fits

  pub down1_fits : SFits w32 (local n +ℤ add f)
  down1_fits = rw (to_z-of_z w32 n F) m1_fits

  pub down1_normal : lt_z down1 (exp_min f) ≡ false → Normal f down1
  down1_normal t = (t, rw down1_is (more_to_max f n below))

  pub down_once : (x : Float) → lt_z down1 (exp_min f) ≡ false → mul f (mul f x scale) (power2 f down1) ≡ down_s f x n
  unfolding down_s
  down_once x t = simp (down1_is, rw down1_is at t)

  module _ (again : lt_z down1 (exp_min f) ≡ true) where
    m1_below : lt_z (n +ℤ add f) (exp_min f) ≡ true
    m1_below = rw down1_is at again

    m2_fits : SFits w32 (n +ℤ add f +ℤ add f)
    m2_fits = more_than_min f (n +ℤ add f) m1_fits m1_below

    down2_is : down2 ≡ n +ℤ add f +ℤ add f
    down2_is = ap (λ (v : ℤ). local (v +ℤ add f)) down1_is ∙ to_z-of_z w32 (n +ℤ add f +ℤ add f) m2_fits

    pub down2_fits : SFits w32 (down1 +ℤ add f)
    down2_fits = rw down1_is m2_fits

    pub down2_normal : lt_z down2 (exp_min f) ≡ false → Normal f down2
    down2_normal t = (t, rw down2_is (more_to_max f (n +ℤ add f) m1_below))

    pub down_twice : (x : Float) → lt_z down2 (exp_min f) ≡ false → mul f (mul f (mul f x scale) scale) (power2 f down2) ≡ down_s f x n
    unfolding down_s
    down_twice x t = simp (down2_is, m1_below, rw down2_is at t)

    pub down_thrice : (x : Float) → lt_z down2 (exp_min f) ≡ true → mul f (mul f (mul f x scale) scale) (power2 f (exp_min f)) ≡ down_s f x n
    unfolding down_s
    down_thrice x t = simp (m1_below, rw down2_is at t)

-- the same of the code's values, where min and bits are the width's EXP_MIN and SIG_TOTAL_BITS
module _ (f : Format) (n min bits : ℤ) (F : SFits w32 n) (below : lt_z n (exp_min f) ≡ true) (e : min ≡ exp_min f) (d : bits ≡ sig_total_bits f) where
  min_is : local min ≡ exp_min f
  min_is = min_held f min e

  abbrev more : ℤ
  more = local (local (pos 0 -ℤ local min) -ℤ local bits)

  add_is : more ≡ add f
  add_is = add_held f min bits e d

  abbrev under1 : ℤ
  under1 = local (local n +ℤ more)

  abbrev under2 : ℤ
  under2 = local (under1 +ℤ more)

  pub under1_fits : SFits w32 (local n +ℤ more)
  under1_fits = rw add_is (down1_fits f n F below)

  pub under2_fits : lt_z under1 (local min) ≡ true → SFits w32 (under1 +ℤ more)
  under2_fits t = rw add_is (down2_fits f n F below (rw (add_is, min_is) at t))

  pub under1_normal : lt_z under1 (local min) ≡ false → Normal f under1
  under1_normal t = rw add_is (down1_normal f n F below (rw (add_is, min_is) at t))

  pub under2_normal : lt_z under1 (local min) ≡ true → lt_z under2 (local min) ≡ false → Normal f under2
  under2_normal t u = rw add_is (down2_normal f n F below (rw (add_is, min_is) at t) (rw (add_is, min_is) at u))

  module _
      (x least digits s y : Float) (is_least : least ≡ power2 f (local min)) (is_digits : digits ≡ power2 f (local bits))
      (is_s : s ≡ mul f least digits) (is_y : y ≡ mul f x s) where
    pub down_by_one : (p r : Float) → p ≡ power2 f under1 → r ≡ mul f y p → lt_z under1 (local min) ≡ false → r ≡ down_s f x n
    down_by_one p r is_p is_r t =
        rw (is_r, is_p, is_y, is_s, is_least, is_digits, add_is, min_is, bits_held f bits d) (down_once f n F below x (rw (add_is, min_is) at t))

    module _ (z : Float) (is_z : z ≡ mul f y s) (t : lt_z under1 (local min) ≡ true) where
      pub down_by_two : (p r : Float) → p ≡ power2 f under2 → r ≡ mul f z p → lt_z under2 (local min) ≡ false → r ≡ down_s f x n
      down_by_two p r is_p is_r u =
          rw (is_r, is_p, is_z, is_y, is_s, is_least, is_digits, add_is, min_is, bits_held f bits d) (down_twice f n F below (rw (add_is, min_is) at t) x (rw (add_is, min_is) at u))

      pub down_by_three : (r : Float) → r ≡ mul f z least → lt_z under2 (local min) ≡ true → r ≡ down_s f x n
      down_by_three r is_r u =
          rw (is_r, is_z, is_y, is_s, is_least, is_digits, min_is, bits_held f bits d) (down_thrice f n F below (rw (add_is, min_is) at t) x (rw (add_is, min_is) at u))

-- ---- every n
module _ (f : Format) (x : Float) (n : ℤ) (F : SFits w32 n) where
  n_is : local n ≡ n
  n_is = to_z-of_z w32 n F

  pub by_up : lt_z (exp_max f) (local n) ≡ true → up_s f x (local n) ≡ scalbn_s f x n
  unfolding scalbn_s
  by_up t = simp (n_is, rw n_is at t)

  pub by_down : lt_z (exp_max f) (local n) ≡ false → lt_z (local n) (exp_min f) ≡ true → down_s f x (local n) ≡ scalbn_s f x n
  unfolding scalbn_s
  by_down h t = simp (n_is, rw n_is at h, rw n_is at t)

  pub by_power : lt_z (exp_max f) (local n) ≡ false → lt_z (local n) (exp_min f) ≡ false → mul f x (power2 f (local n)) ≡ scalbn_s f x n
  unfolding scalbn_s
  by_power h t = simp (n_is, rw n_is at h, rw n_is at t)
