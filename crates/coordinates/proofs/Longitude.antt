-- `normalize_longitude` lands in [−180, 180) for every finite value that f64 holds (`longitude_range`). Assumes nothing.
use mathlib.Core.Path.{refl}
use Prim.Native.Nat.{ℕ, ◌+◌, ◌-◌, ◌*◌, ◌%◌, ◌^◌, ◌≤◌, ◌<◌}
use native.Mathlib.Nat.{mul-pos, mod-lt, mul-le-mul_right, sub-le}
use native.Mathlib.Omega.{arith}
use mathlib.Core.Bool.{Bool, true, false, not, cond, true≢false}
use lib.IntN.{ℤ, pos, negsuc}
use lib.Dec.{T, ltb, lt→ltb, nltb→le, lit<, lit≤}
use lib.Pow.{pow_pos}
use lib.Ieee.{Float, nan, inf, fin, binary64, up, down, round, neg, sum, add, sub, rem, lt, of_bits, fits}
use lib.Ieee.Exact.{HasValue}
use lib.Ieee.Fits.{down_pos, add-fits, rem-fits}
use lib.Ieee.Scale.{finite}
use Rattle.arithmetic.proofs.Bounds.{Within, within, wider, sizes, within_finite, clear, own, of_values, within_le, within_lt, round_clear, round_within, add_within, sum_clear, rem_within, next_below, within_largest}
use Rattle.arithmetic.proofs.Remainder.{rem_exact}
use Rattle.arithmetic.proofs.Rounding.{neg_round}
use Rattle.arithmetic.proofs.Units.{rise}
use Rattle.coordinates.specs.Constants.{180·0, 360·0}
use Rattle.coordinates.specs.CoordinateTransforms.{normalize_longitude}
use Rattle.coordinates.specs.Range.{HalfTurns, LongitudeRange}

-- the largest value below 360
abbrev last : Float
last = fin false (360 * 2 ^ 44 - 1) (negsuc 43)

-- ---- y − 180, for a y from 0 to `last`

below_zero : (x : Float) → T (finite x) → T (clear x) → T (lt (neg x) 180·0)
unfolding lt neg of_bits
below_zero nan f c = absurd f
below_zero (inf s) f c = absurd f
below_zero (fin true m e) f c = absurd c
below_zero (fin false m e) f c = lt→ltb 0 (m * up e * 1 + 180 * down e) (omega (arith, down_pos e))

difference : (m : ℕ) (e : ℤ) → m * up e * 2 ^ 44 ≤ (360 * 2 ^ 44 - 1) * 1 * down e → HalfTurns (sub binary64 (fin false m e) 180·0)
unfolding sub sum add neg of_bits lt
difference m e h = go (ltb a b) (nltb→le a b)
  where
    a : ℕ
    a = m * up e * 1

    b : ℕ
    b = 180 * down e

    c : ℕ
    c = down e * 1

    C : 0 < c
    C = mul-pos (down_pos e) (lit< tt)

    size : (s : Bool) (k : ℕ) → k ≤ b → Within (round binary64 s k c) 180·0
    size s k l = round_within binary64 s k c 180 1 C (lit< tt) (omega arith) tt

    lower : T (lt (round binary64 true (b - a) c) 180·0)
    lower =
        rw (← neg_round binary64 false (b - a) c)
        (below_zero (round binary64 false (b - a) c) (within_finite (size false (b - a) (sub-le b a))) (round_clear binary64 (b - a) c))

    upper : b ≤ a → Within (round binary64 false (a - b) c) (fin false (180 * 2 ^ 44 - 1) (negsuc 43))
    upper l = round_within binary64 false (a - b) c (180 * 2 ^ 44 - 1) (2 ^ 44) C (lit< tt) (omega arith) tt

    go : (p : Bool) → (T (not p) → b ≤ a) → HalfTurns (cond p (round binary64 true (b - a) c) (round binary64 false (a - b) c))
    go true g = record { least = (within_le (size true (b - a) (sub-le b a))).0; below = lower }
    go false g = let w = upper (g tt) in record { least = (within_le (wider w (within (lit≤ tt)))).0; below = (within_lt 180·0 w tt).1 }

-- ---- x % 360 − 180, for an x that is not negative: of the remainders, which are below 360, `last` is the largest

from_count : (y : Float) (a : ℕ) → HasValue y false a (2 ^ 1074) → a ≤ (360 * 2 ^ 44 - 1) * 2 ^ 1030 → HalfTurns (sub binary64 y 180·0)
from_count nan a v l = absurd v
from_count (inf s) a v l = absurd v
from_count (fin true m e) a v l = absurd (true≢false v.0)
from_count (fin false m e) a v l =
    let most = (360 * 2 ^ 44 - 1) * 2 ^ 1030 in
    let P = pow_pos 1074 in
    difference m e (sizes (of_values (fin false m e) last false a (2 ^ 1074) most (2 ^ 1074) P P v (refl, refl) (mul-le-mul_right (2 ^ 1074) l)))

turn_fits : T (fits binary64 360·0)
unfolding fits of_bits
turn_fits = tt

turned : (x : Float) → T (fits binary64 x) → T (finite x) → T (clear x) → HalfTurns (sub binary64 (rem binary64 x 360·0) 180·0)
unfolding of_bits
turned nan h f p = absurd f
turned (inf s) h f p = absurd f
turned (fin true m e) h f p = absurd p
turned (fin false m e) h f p =
    let x = fin false m e in
    let r = rem binary64 x 360·0 in
    let a = m * 2 ^ rise binary64 e % (45 * 2 ^ 1077) in
    let v : HasValue r false a (2 ^ 1074) = rem_exact binary64 false m e false 45 (pos 3) h turn_fits (lit< tt) in
    from_count r a v (next_below binary64 r false a (360 * 2 ^ 44) 1030 (rem-fits binary64 x 360·0 h) v (lit< tt) (mod-lt (m * 2 ^ rise binary64 e) (lit< tt)))

-- ---- the theorem

pub longitude_range : LongitudeRange
unfolding normalize_longitude add of_bits
longitude_range x h t =
    let x1 = add binary64 x 180·0 in
    let t1 = within_finite (add_within binary64 (within_largest x h t) (own 180·0 tt tt) tt) in
    let x2 = rem binary64 x1 360·0 in
    let w2 : Within x2 360·0 = rem_within binary64 x1 45 (pos 3) (add-fits binary64 x 180·0) t1 turn_fits (lit< tt) in
    let t3 = within_finite (add_within binary64 w2 (own 360·0 tt tt) tt) in
    turned (add binary64 x2 360·0) (add-fits binary64 x2 360·0) t3 (sum_clear binary64 w2)
