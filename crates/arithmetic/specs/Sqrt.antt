-- Document 01, "Elementary steps", square root: IEEE 754's on binary64, over whole numbers, by comparing squares. Definitions only.
use Rattle.std.specs.Prelude.{ℕ, zero, suc, ◌+◌, ◌-◌, ◌*◌, ◌/◌, ◌%◌, ◌^◌, true, false, cond, ℤ, pos, negsuc, leb, ltb, Float}
use Rattle.std.specs.Float.{nan, inf, fin}
use Rattle.std.specs.Float.Ieee.{size, odd}

-- The largest whole number below c + 2 ^ k whose square is at most n, where c's own square is: its k last binary digits, each a 1 where the
-- square stays within n.
unfoldable pub root_from : ℕ → ℕ → ℕ → ℕ
root_from zero n c = c
root_from (suc k) n c = let d = c + 2 ^ k in root_from k n (cond (leb (d * d) n) d c)

-- The whole number nearest to the root of n, which is below 2 ^ k: r, or r + 1 where the root lies beyond r + 1/2, that is (2 r + 1) ^ 2 < 4 n.
-- The two are never equal, since the one is odd: there is no tie to break.
unfoldable pub nearest_root : ℕ → ℕ → ℕ
unfolding root_from
nearest_root k n = let r = root_from k n 0 in cond (ltb ((2 * r + 1) * (2 * r + 1)) (4 * n)) (suc r) r

-- e + 1074, which no value of the format has below 0: the exponent over that of the smallest value, 2 ^ -1074.
abbrev pub height : ℤ → ℕ
height (pos k) = 1074 + k
height (negsuc k) = 1073 - k

-- The root of x = m * 2 ^ (h - 1074), where m has 53 - z binary digits, by that of a whole number N. N is x times an even power of two, and
-- has 105 or 106 digits, so that its root has 53, the format's width, and the rounding to a whole number is the only one.
-- z places give m the width of 53; the exponent is g - 1126 then, where 1126 = 1074 + 52 keeps g from falling below 0. 52 places more make
-- the width 105, and one more where g is odd leaves an even exponent: x is N * 2 ^ (2 * (g / 2) - 2 * 589), since 2 * 589 = 1126 + 52.
-- `odd 54` writes the nearest root times 2 ^ (g / 2 - 589) with an odd m: room enough, since that root is at most 2 ^ 53.
unfoldable pub root_of : ℕ → ℕ → ℕ → Float
unfolding nearest_root odd
root_of m h z =
    let g = h + 52 - z in
    let N = m * 2 ^ (z + 52 + g % 2) in
    odd 54 false (nearest_root 53 N) (g / 2) 589

-- -0 gives -0, a negative number gives NaN, and +infinity itself.
unfoldable pub sqrt : Float → Float
unfolding root_of size
sqrt nan = nan
sqrt (inf false) = inf false
sqrt (inf true) = nan
sqrt (fin s zero e) = fin s zero e
sqrt (fin true (suc m) e) = nan
sqrt (fin false (suc m) e) = root_of (suc m) (height e) (53 - size (suc m))
