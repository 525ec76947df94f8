-- Paper 2: how many rounds the root's binary digits take, found one a round from the first 1 on: "for a finite number above 0 the least
-- count of digits that are the exact root, or 53 if there is none; for all else 0". Over whole numbers. Definitions only.
use Rattle.std.specs.Prelude.{ℕ, zero, suc, ◌*◌, ◌%◌, ◌^◌, ◌≤◌, ◌<◌, ◌≡◌, ◌⊎◌, true, false, ◌&&◌, cond, eqb, Float}
use Rattle.std.specs.Float.{nan, inf, fin}
use Rattle.std.specs.Float.Ieee.{size}
use Rattle.std.specs.Float.Ieee.Exact.{HasValue}
use Rattle.arithmetic.specs.Sqrt.{root_from, height}

-- A number q of at most d binary digits, times a power of two, 2 ^ (j - l), squared, is x exactly. `rounds_least` says that the rounds are
-- the least such d.
pub record ExactWith (x : Float) (d : ℕ) : Type 0 where
  pub q : ℕ
  pub j : ℕ
  pub l : ℕ
  pub digits : q < 2 ^ d
  pub square : HasValue x false (q * 2 ^ j * (q * 2 ^ j)) (2 ^ l * 2 ^ l)

-- k is the least count of digits that are the exact root, or 53 where there is none.
abbrev pub LeastDigits : Float → ℕ → Type 0
LeastDigits x k = (ExactWith x k × ((d : ℕ) → ExactWith x d → k ≤ d)) ⊎ ((k ≡ 53) × ((d : ℕ) → ExactWith x d → ⊥))

-- A value is written with an odd m, as m * 2 ^ e, and h is e + 1074, which is even where e is. So it is the square of a q * 2 ^ k exactly
-- where h is even and m is a square, r * r: the odd r has the fewest digits. m has at most 53, so r at most 27, and `root_from 27 m 0` is the
-- whole part of m's root.
unfoldable pub exact_digits : ℕ → ℕ → ℕ
unfolding root_from size
exact_digits m h = let r = root_from 27 m 0 in cond (eqb (r * r) m && eqb (h % 2) 0) (size r) 53

unfoldable pub sqrt_rounds : Float → ℕ
unfolding exact_digits
sqrt_rounds nan = 0
sqrt_rounds (inf s) = 0
sqrt_rounds (fin s zero e) = 0
sqrt_rounds (fin true (suc m) e) = 0
sqrt_rounds (fin false (suc m) e) = exact_digits (suc m) (height e)
