-- Paper 5: strikes that lie in a ring, in arrays of 4,096 places, and the twelve counts of them. Definitions only.
use Rattle.std.specs.Prelude.{ℕ, zero, suc, ◌+◌, ◌-◌, ◌%◌, ◌^◌, cond, List, nat_le, nat_lt, slice_index, slice_set}

-- "at most 4,096 strikes"
abbrev pub MOST : ℕ
MOST = 4096

-- "the last 180 minutes"
abbrev pub SPAN : ℕ
SPAN = 180

-- one less, and one more, for origin k: a count stays at 0, and starts again after 2³² − 1. An origin above 11 has no count
unfoldable pub lower : List ℕ → ℕ → List ℕ
lower counts k = cond (nat_lt k 12) (slice_set counts k (slice_index counts k - 1)) counts

unfoldable pub raise : List ℕ → ℕ → List ℕ
raise counts k = cond (nat_lt k 12) (slice_set counts k ((slice_index counts k + 1) % 2 ^ 32)) counts

-- the place after a place: the first follows the last
abbrev pub next : ℕ → ℕ
next at = (at + 1) % MOST

-- "first drops those whose minute is 180 or more behind it", from the oldest on: how many of n strikes from place `at` on remain at minute m
unfoldable pub remain : List ℕ → ℕ → ℕ → ℕ → ℕ
remain minutes m zero at = 0
remain minutes m (suc n) at = cond (nat_le SPAN (m - slice_index minutes at)) (remain minutes m n (next at)) (suc n)

-- one less for each of n strikes from place `at` on
unfoldable pub lowered : List ℕ → ℕ → ℕ → List ℕ → List ℕ
lowered origins zero at counts = counts
lowered origins (suc n) at counts = lowered origins n (next at) (lower counts (slice_index origins at))
