-- The logarithm's series as an expression in ax, t_h and t, so that intervals bound its two parts: `t1_e` and `t2_e` have t1 and t2 for their values
-- (`t1_is`, `t2_is`). Assumes nothing.
use mathlib.Core.Path.{◌≡◌, sym, ap}
use mathlib.Core.List.{[], ◌∷◌}
use lib.Ieee.{Float, binary64}
use Rattle.rounding.proofs.Range.{Expr, var, con, plus, minus, times, over, share, clear, eval}
use Rattle.words.specs.F64.{1·0, 3·0}
use Rattle.words.proofs.PatternLaws.{low_cleared}
use Rattle.poly.proofs.HornerExpr.{horner_e, horner_is}
use Rattle.pow_log.specs.declared.Parts.{Parts}
use Rattle.pow_log.specs.Log2.{L, CP, CP_H, CP_L, series_s}
use Rattle.pow_log.proofs.Laws.{series}

-- `series_s` up to t1, and then e: u, v, ss, s_h, t_l, s_l, s2, r, r, s2, t_h, t_l, u, v, p_h, p_l, z_h, z_l and t1 are named in turn
abbrev series_e : Float → Float → Float → Expr → Expr
series_e bp dp_h dp_l e =
    share (minus (var 0) (con bp))
    (share (over (con 1·0) (plus (var 1) (con bp)))
    (share (times (var 1) (var 0))
    (share (clear 32 (times (var 2) (var 1)))
    (share (minus (var 4) (minus (var 5) (con bp)))
    (share (times (var 3) (minus (minus (var 4) (times (var 1) (var 6))) (times (var 1) (var 0))))
    (share (times (var 3) (var 3))
    (share (times (times (var 0) (var 0)) (horner_e binary64 L (var 0)))
    (share (plus (var 0) (times (var 2) (plus (var 4) (var 5))))
    (share (times (var 5) (var 5))
    (share (clear 32 (plus (plus (con 3·0) (var 0)) (var 1)))
    (share (minus (var 2) (minus (minus (var 0) (con 3·0)) (var 1)))
    (share (times (var 8) (var 1))
    (share (plus (times (var 7) (var 2)) (times (var 1) (var 10)))
    (share (clear 32 (plus (var 1) (var 0)))
    (share (minus (var 1) (minus (var 0) (var 2)))
    (share (times (con CP_H) (var 1))
    (share (plus (plus (times (con CP_L) (var 2)) (times (var 1) (con CP))) (con dp_l))
    (share (clear 32 (plus (plus (plus (var 1) (var 0)) (con dp_h)) (var 20))) e))))))))))))))))))

abbrev pub t1_e : Float → Float → Float → Expr
t1_e bp dp_h dp_l = series_e bp dp_h dp_l (var 0)

abbrev pub t2_e : Float → Float → Float → Expr
t2_e bp dp_h dp_l = series_e bp dp_h dp_l (minus (var 1) (minus (minus (minus (var 0) (var 21)) (con dp_h)) (var 2)))

pub t1_is : (ax bp t_h dp_h dp_l t : Float) → eval binary64 (ax ∷ t_h ∷ t ∷ []) (t1_e bp dp_h dp_l) ≡ (series_s ax bp t_h dp_h dp_l t).t1
unfolding eval
t1_is ax bp t_h dp_h dp_l t =
    ap (λ (p : Parts). p.t1)
    (series ax bp t_h dp_h dp_l t _ _ _ _ _ (sym (low_cleared _)) (horner_is binary64 L (var 0) _) (sym (low_cleared _)) (sym (low_cleared _)) (sym (low_cleared _)))

pub t2_is : (ax bp t_h dp_h dp_l t : Float) → eval binary64 (ax ∷ t_h ∷ t ∷ []) (t2_e bp dp_h dp_l) ≡ (series_s ax bp t_h dp_h dp_l t).t2
unfolding eval
t2_is ax bp t_h dp_h dp_l t =
    ap (λ (p : Parts). p.t2)
    (series ax bp t_h dp_h dp_l t _ _ _ _ _ (sym (low_cleared _)) (horner_is binary64 L (var 0) _) (sym (low_cleared _)) (sym (low_cleared _)) (sym (low_cleared _)))
