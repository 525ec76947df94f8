-- The digits of a square root found so far, and the words that carry them. Definitions only.
use Rattle.std.specs.Prelude.{◌≡◌, ℕ, ◌+◌, ◌-◌, ◌*◌, ◌/◌, ◌%◌, ◌^◌, ◌<◌, ◌≤◌, ◌⊎◌, bit_and}
use Rattle.square_root.specs.declared.root_digits.Digits.{Digits}

-- t in units of r, a power of two: any digits, then 010
pub record Marked (t r : ℕ) : Type 0 where
  pub a : ℕ
  pub i : ℕ
  pub r_is : r ≡ 2 ^ i
  pub t_is : t ≡ (8 * a + 2) * r

-- The words after k rounds for n, a number of 105 or 106 digits. q is the k digits found, zeros after them, and w the weight of the last.
pub record Found (n t y r k : ℕ) : Type 0 where
  pub q : ℕ
  pub w : ℕ
  pub few : k ≤ 53
  pub weight : w ≡ 2 ^ (53 - k)
  -- the digits by themselves
  pub c : ℕ
  pub c_is : q ≡ c * w
  -- the words: y is four times what q's square leaves of n, in units of w, and r the weight of the next digit
  pub t_is : t ≡ 4 * q + w
  pub y_is : 4 * (q * q) + y * w ≡ 4 * n
  pub r_is : r ≡ w / 2
  -- the root lies below q + w
  pub above : n < (q + w) * (q + w)
  -- where nothing is left, the last digit is a 1: the digits were not the exact root before
  pub last : y ≡ 0 → c % 2 ≡ 1

-- no digit is left to find, or nothing of n
abbrev pub Ended : ℕ → ℕ → ℕ → ℕ → ℕ → Type 0
Ended n t y r k = Found n t y r k × ((r ≡ 0) ⊎ (y ≡ 0))

-- the digits of two numbers' roots after as many rounds of each: no digit is left to find, or what is left of the two numbers has no digit
-- in common, as where nothing is left of one
abbrev pub FoundBoth : ℕ → ℕ → Digits × Digits → Type 0
FoundBoth m n d =
    Found m d.0.t d.0.y d.0.r d.0.rounds
    × Found n d.1.t d.1.y d.1.r d.1.rounds
    × (d.1.rounds ≡ d.0.rounds)
    × ((d.0.r ≡ 0) ⊎ (bit_and d.0.y d.1.y ≡ 0))
