-- What a pattern of f64 says: its digits, and how many places they stand above those of the smallest value, 2 ^ -1074. Definitions only.
use Rattle.std.specs.Prelude.{ℕ, ◌+◌, ◌-◌, ◌/◌, ◌%◌, ◌^◌, cond, eqb}

-- the fraction's 52 digits, and before them a leading 1 where the exponent's field is not 0
unfoldable pub digits : ℕ → ℕ
digits b = cond (eqb (b / 2 ^ 52) 0) (b % 2 ^ 52) (2 ^ 52 + b % 2 ^ 52)

-- none where the exponent's field is 1, and none where it is 0
unfoldable pub places : ℕ → ℕ
places b = b / 2 ^ 52 - 1
