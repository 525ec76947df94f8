-- What the square root's functions hand to each other: the pattern, and the number whose root's digits are found. Definitions only.
use Rattle.std.specs.Prelude.{◌≡◌, false, ℕ, ◌*◌, ◌/◌, ◌%◌, ◌^◌, ◌≤◌, ◌<◌, Option, None, Some, Float}
use Rattle.std.specs.Float.{binary64}
use Rattle.std.specs.Float.Ieee.{of_bits}
use Rattle.std.specs.Float.Ieee.Exact.{HasValue}
use Rattle.std.specs.Float.Ieee.Positive.{positive}

-- b is the pattern of x, which is finite and above zero
pub record PatternOf (x : Float) (b : ℕ) : Type 0 where
  pub some : 0 < b
  pub is : of_bits binary64 b ≡ x
  pub most : b < 2047 * 2 ^ 52

-- x's pattern where x is finite and above zero, and none for all else
abbrev pub Pattern : Float → Option ℕ → Type 0
Pattern x None = positive x ≡ false
Pattern x (Some b) = PatternOf x b

-- x is a * 2 ^ g in units of 2 ^ -1126, and a has the full width of 53 digits. m * 4 ^ e is the same: m takes one digit more where g is odd.
-- So x's root is that of m times 2 ^ e, in units of 2 ^ -563.
pub record Radicand (x : Float) (m e : ℕ) : Type 0 where
  pub a : ℕ
  pub g : ℕ
  pub lo : 2 ^ 52 ≤ a
  pub hi : a < 2 ^ 53
  pub top : g ≤ 2097
  pub value : HasValue x false (a * 2 ^ g) (2 ^ 1126)
  pub m_is : m ≡ a * 2 ^ (g % 2)
  pub e_is : e ≡ g / 2
