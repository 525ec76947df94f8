-- A number in decimal, as text, and the number that a text says. Definitions only.
use Rattle.std.specs.Prelude.{ℕ, zero, suc, ◌+◌, ◌-◌, ◌*◌, ◌/◌, ◌%◌, cond, List, [], ◌∷◌, ◌++◌, eqb}

-- the byte of a digit, 0 to 9
abbrev pub digit : ℕ → ℕ
digit d = 48 + d

-- the digits of n, the highest first, and none for 0; there are at most k
unfoldable pub digits_within : ℕ → ℕ → List ℕ
digits_within zero n = []
digits_within (suc k) n = cond (eqb n 0) [] (digits_within k (n / 10) ++ (digit (n % 10) ∷ []))

-- n in decimal without leading zeros: its last digit, and before that the digits of what is left. There are fewer than n of these, or none
unfoldable pub decimal : ℕ → List ℕ
decimal n = digits_within n (n / 10) ++ (digit (n % 10) ∷ [])

-- ---- and back

-- what a byte is worth: a digit its number, and a space nothing
abbrev pub worth : ℕ → ℕ
worth c = c - 48

-- the number that a text says behind the number a
unfoldable pub read_on : ℕ → List ℕ → ℕ
read_on a [] = a
read_on a (c ∷ cs) = read_on (a * 10 + worth c) cs

-- the number that a text says
abbrev pub number_in : List ℕ → ℕ
number_in text = read_on 0 text
